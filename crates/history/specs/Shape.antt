-- The general shape of an image, lay low (gap ++ (lost ++ lay high rest)): records from 0 on, free bytes, lost bytes in the head's sector,
-- records from the head on. What document 01's chain reads of it, for each way in which it can end or turn.
use Rattle.std.specs.Prelude.{ℕ, suc, ◌+◌, ◌-◌, ◌≤◌, ◌<◌, ◌≡◌, refl, Bool, true, false, List, [], ◌++◌, length, take, drop, eqb}
use Rattle.std.proofs.Common.{arith, zero-add, sym, ap, ◌∙◌, subst, append-nil, length-append, take_at, drop_at, ne_eqb, eq-eqb}
use Rattle.spec.specs.declared.Next.{Next}
use Rattle.spec.specs.declared.Ending.{Ending}
use Rattle.spec.specs.Geometry.{floor}
use Rattle.spec.specs.Record.{Rec, Entry}
use Rattle.spec.specs.Chain.{Chain, stop, chain, Reading, read, joined, from_head, from_zero, read_on, reading_from}
use Rattle.history.specs.Lay.{lay, sizes, entries_of, before, AllFine, chain_lay, length_lay, sizes_least, drop_past, lay_past, before_chain}
use Rattle.history.specs.Lay.{chain_of}
use Rattle.history.specs.Last.{Ends, Stops}

-- ---- the two chains

module _ (low high : List Rec) (gap lost rest : List ℕ) (h : ℕ) (below : sizes low + length gap ≡ floor h) (here : floor h + length lost ≡ h) where
  -- the whole image
  abbrev pub image : List ℕ
  image = lay low (gap ++ (lost ++ lay high rest))

  split : image ≡ lay low gap ++ (lost ++ lay high rest)
  split = sym (lay_past low gap (lost ++ lay high rest))

  low_length : length (lay low gap) ≡ floor h
  low_length = length_lay low gap ∙ below

  -- up to the head's sector
  pub take_low : take (floor h) image ≡ lay low gap
  take_low = ap (take (floor h)) split ∙ take_at (lay low gap) (lost ++ lay high rest) (floor h) low_length

  -- from the head on
  pub drop_high : drop h image ≡ lay high rest
  drop_high =
      ap (drop h) split ∙ drop_past (lay low gap) (lost ++ lay high rest) h (length lost)
      (sym here ∙ ap (λ (k : ℕ). k + length lost) (sym low_length))
      ∙ drop_at lost (lay high rest) (length lost) refl

  length_image : length image ≡ h + sizes high + length rest
  length_image =
      length_lay low (gap ++ (lost ++ lay high rest))
      ∙ omega (arith, length-append gap (lost ++ lay high rest), length-append lost (lay high rest), length_lay high rest)

  fuel : (rs : List Rec) (k at : ℕ) (s : List ℕ) (es : List Entry) (o : Bool) (t : ℕ) (x : Next) → AllFine rs
      → Ends (at + sizes rs) s (chain_of es o t x) → length rs < k →
      chain (suc k) false at (lay rs s) ≡ chain_of (entries_of at rs ++ es) o t x
  fuel rs k at s es o t x f e l =
      let i : suc k ≡ length rs + suc (suc (k - suc (length rs))) = omega arith in
      ap (λ (n : ℕ). chain n false at (lay rs s)) i ∙ chain_lay rs (suc (suc (k - suc (length rs)))) at s f
      ∙ ap (before (entries_of at rs)) (e (k - suc (length rs))) ∙ before_chain (entries_of at rs) es o t x

  high_read : (es : List Entry) (o : Bool) (t : ℕ) (x : Next) → AllFine high → 1 ≤ sizes high → Ends (h + sizes high) rest (chain_of es o t x) →
      from_head image h ≡ chain_of (entries_of h high ++ es) o t x
  high_read es o t x f l e =
      ap (chain (suc (length image)) false h) drop_high
      ∙ fuel high (length image) h rest es o t x f e (omega (arith, length_image, sizes_least high))

  low_read : (es : List Entry) (o : Bool) (t : ℕ) (x : Next) → AllFine low → 1 ≤ floor h → Ends (sizes low) gap (chain_of es o t x) →
      from_zero image h false ≡ chain_of (entries_of 0 low ++ es) o t x
  low_read es o t x f l e =
      ap (chain (suc (length image)) false 0) take_low
      ∙ fuel low (length image) 0 gap es o t x f (subst (λ (a : ℕ). Ends a gap (chain_of es o t x)) (sym (zero-add (sizes low))) e)
      (omega (arith, length_image, sizes_least low))

  -- behind an unfinished record nothing but an end may stand
  low_stops : (x : Next) → low ≡ [] → Stops 0 gap x → from_zero image h true ≡ stop true 0 x
  low_stops x z e = ap (chain (suc (length image)) true 0) (take_low ∙ ap (λ (rs : List Rec). lay rs gap) z) ∙ e true (length image)

-- ---- from the two chains to the reading

reading_is : (image : List ℕ) (h : ℕ) (c : Chain) (r : Reading) → from_head image h ≡ c → read_on image h c ≡ r → reading_from image h ≡ r
reading_is image h c r e f = ap (read_on image h) e ∙ f

read_clear : (image : List ℕ) (h t : ℕ) (o : Bool) (es : List Entry)
    → read_on image h (chain_of es o t Next.Clear) ≡ read (length image) h t false es Ending.Tail
unfolding read_on joined
read_clear image h t o es = go (eqb (floor h) 0) refl
  where
    go : (b : Bool) → eqb (floor h) 0 ≡ b → read_on image h (chain_of es o t Next.Clear) ≡ read (length image) h t false es Ending.Tail
    go true e = rw (read_on, e)
    go false e = rw (read_on, e)

read_full : (image : List ℕ) (h t : ℕ) (o : Bool) (es : List Entry) → floor h ≡ 0
    → read_on image h (chain_of es o t Next.Over) ≡ read (length image) h t false es Ending.Tail
unfolding read_on
read_full image h t o es z = rw (read_on, eq-eqb (floor h) 0 z)

-- what the chain goes on behind, at 0
pub data Turns : Next → Type 0 where
  turns_wrap : Turns Next.Wrap
  turns_over : Turns Next.Over

-- T after the turn: eight FF, or floor(h)
pub data LowEnd : Next → Type 0 where
  low_clear : LowEnd Next.Clear
  low_over : LowEnd Next.Over

joined_turned : {x y : Next} (N h t u : ℕ) (o p : Bool) (es fs : List Entry) → Turns x → LowEnd y
    → joined N h (chain_of es o t x) (chain_of fs p u y) ≡ read N h u true (es ++ fs) Ending.Tail
unfolding joined
joined_turned N h t u o p es fs turns_wrap low_clear = refl
joined_turned N h t u o p es fs turns_wrap low_over = refl
joined_turned N h t u o p es fs turns_over low_clear = refl
joined_turned N h t u o p es fs turns_over low_over = refl

read_joined : (image : List ℕ) (h : ℕ) (c : Chain) → (floor h ≡ 0 → ⊥) → read_on image h c ≡ joined (length image) h c (from_zero image h c.pending)
unfolding read_on
read_joined image h c z = rw (read_on, ne_eqb (floor h) 0 z)

read_turned : {x y : Next} (image : List ℕ) (h t u : ℕ) (o p : Bool) (es fs : List Entry) → (floor h ≡ 0 → ⊥) → Turns x
    → from_zero image h o ≡ chain_of fs p u y → LowEnd y →
    read_on image h (chain_of es o t x) ≡ read (length image) h u true (es ++ fs) Ending.Tail
read_turned {x} image h t u o p es fs z l e m =
    read_joined image h (chain_of es o t x) z ∙ ap (joined (length image) h (chain_of es o t x)) e ∙ joined_turned (length image) h t u o p es fs l m

joined_torn : (N h t : ℕ) (o : Bool) (es : List Entry) (d : Chain)
    → joined N h (chain_of es o t Next.TornWrap) d ≡ read N h 0 true es (Ending.TornWrap t)
unfolding joined
joined_torn N h t o es d = refl

-- ---- the readings of the shape, one for each way the chain can go

module _ (low high : List Rec) (gap lost rest : List ℕ) (h : ℕ) (below : sizes low + length gap ≡ floor h) (here : floor h + length lost ≡ h)
    (fl : AllFine low) (fh : AllFine high)
    (some-high : 1 ≤ sizes high) where
  abbrev im : List ℕ
  im = image low high gap lost rest h below here

  from_h : (es : List Entry) (o : Bool) (t : ℕ) (x : Next) → Ends (h + sizes high) rest (chain_of es o t x)
      → from_head im h ≡ chain_of (entries_of h high ++ es) o t x
  from_h es o t x e = high_read low high gap lost rest h below here es o t x fh some-high e

  -- not turned: eight FF at T
  pub shape_straight : (es : List Entry) (o : Bool) (t : ℕ) → Ends (h + sizes high) rest (chain_of es o t Next.Clear) →
      reading_from im h ≡ read (length im) h t false (entries_of h high ++ es) Ending.Tail
  shape_straight es o t e = reading_is im h _ _ (from_h es o t Next.Clear e) (read_clear im h t o (entries_of h high ++ es))

  -- not turned, full to N, with floor(h) = 0
  pub shape_full : (es : List Entry) (o : Bool) (t : ℕ) → floor h ≡ 0 → Ends (h + sizes high) rest (chain_of es o t Next.Over) →
      reading_from im h ≡ read (length im) h t false (entries_of h high ++ es) Ending.Tail
  shape_full es o t z e = reading_is im h _ _ (from_h es o t Next.Over e) (read_full im h t o (entries_of h high ++ es) z)

  -- turned, by a marker or at N
  pub shape_turned : {x y : Next} (fs : List Entry) (p : Bool) (t u : ℕ) → (floor h ≡ 0 → ⊥) → Turns x
      → Ends (h + sizes high) rest (chain_of [] false t x) → LowEnd y →
      Ends (sizes low) gap (chain_of fs p u y) →
      reading_from im h ≡ read (length im) h u true (entries_of h high ++ (entries_of 0 low ++ fs)) Ending.Tail
  shape_turned {x} {y} fs p t u z n e l d =
      reading_is im h _ _ (from_h [] false t x e ∙ ap (λ (m : List Entry). chain_of m false t x) (append-nil (entries_of h high)))
      (read_turned im h t u false p (entries_of h high) (entries_of 0 low ++ fs) z n
      (low_read low high gap lost rest h below here fs p u y fl (omega arith) d) l)

  -- an unfinished record that ends at N: turned, T is 0
  pub shape_last : {y : Next} (es : List Entry) (t : ℕ) → (floor h ≡ 0 → ⊥) → low ≡ [] → Ends (h + sizes high) rest (chain_of es true t Next.Over)
      → LowEnd y → Stops 0 gap y →
      reading_from im h ≡ read (length im) h 0 true (entries_of h high ++ es) Ending.Tail
  shape_last {y} es t z n e l d =
      reading_is im h _ _ (from_h es true t Next.Over e)
      (read_turned im h t 0 true true (entries_of h high ++ es) [] z turns_over (low_stops low high gap lost rest h below here y n d) l
      ∙ ap (λ (m : List Entry). read (length im) h 0 true m Ending.Tail) (append-nil (entries_of h high ++ es)))

  -- a torn wrap
  pub shape_torn_wrap : (t : ℕ) → (floor h ≡ 0 → ⊥) → Ends (h + sizes high) rest (chain_of [] false t Next.TornWrap) →
      reading_from im h ≡ read (length im) h 0 true (entries_of h high) (Ending.TornWrap t)
  shape_torn_wrap t z e =
      reading_is im h _ _ (from_h [] false t Next.TornWrap e
      ∙ ap (λ (m : List Entry). chain_of m false t Next.TornWrap) (append-nil (entries_of h high)))
      (read_joined im h (chain_of (entries_of h high) false t Next.TornWrap) z
      ∙ joined_torn (length im) h t false (entries_of h high) (from_zero im h false))
