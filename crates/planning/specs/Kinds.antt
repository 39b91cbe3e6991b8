-- What the first four bytes of a record say: which statuses and which low bytes are a record's, when its kind stays though one of
-- these bytes changes, and from what is read back to the kind.
use Rattle.std.specs.Prelude.{ℕ, ◌≤◌, ◌≡◌, ◌⊎◌, Bool, ◌&&◌, ◌||◌, cond, List, take, drop, ltb, eqb}
use Rattle.std.proofs.Common.{arith, sym, ap, ◌∙◌, subst, inr, ⊎_elim, eqb-true}
use Rattle.std.proofs.Math.Path.{refl}
use Rattle.std.proofs.Math.Logic.{inl}
use Rattle.std.proofs.Math.Bool.{true, false}
use Rattle.spec.specs.declared.Next.{Next}
use Rattle.spec.specs.declared.Kind.{Kind}
use Rattle.spec.specs.Basics.{long, blank}
use Rattle.spec.specs.Bytes.{clears, on_way, under_way, is_record, is_wrap, is_start, is_clean, is_record_begun, is_wrap_begun}
use Rattle.spec.specs.Bytes.{is_high, is_high_begun, is_erased, is_reserved, is_wrapped, is_wrap_open, is_spare, is_unfinished}
use Rattle.spec.specs.Record.{size_of, name_length, data_len_of}
use Rattle.spec.specs.Next.{is_torn_marker, record_kind, kind, sized, torn_at, torn_wrap_at, clear_at, next_at}
use Rattle.laws.specs.Tests.{and_left, or_left, or_right}
use Rattle.laws.specs.Head.{Low, clean_two}
use Rattle.planning.specs.Front.{dead_marker}

-- what holds of both kinds that a test decides between holds of the outcome
either : (P : Kind → Type 0) (t : Bool) {a b : Kind} → P a → P b → P (cond t a b)
either P true p q = p
either P false p q = q

-- ---- the status

-- neither torn nor reserved
pub finished_open : (st : ℕ) → is_erased st ≡ false → is_reserved st ≡ false → is_unfinished st ≡ false
unfolding is_unfinished
finished_open st e r = rw (is_unfinished, e, r)

pub finished_none : (st : ℕ) → is_unfinished st ≡ false → (is_erased st ≡ false) × (is_reserved st ≡ false)
unfolding is_unfinished
finished_none st h = (or_left (is_erased st) (is_reserved st) h, or_right (is_erased st) (is_reserved st) h)

pub dead_finished : is_unfinished 0x00 ≡ false
unfolding is_unfinished is_erased is_reserved
dead_finished = refl

pub committed_finished : is_unfinished 0xFC ≡ false
unfolding is_unfinished is_erased is_reserved
committed_finished = refl

pub migrating_finished : is_unfinished 0xF8 ≡ false
unfolding is_unfinished is_erased is_reserved
migrating_finished = refl

-- ---- the low byte

-- a record's: A5, START or CLEAN, or one that counts as one of them
pub record Lowly (b : ℕ) : Type 0 where
  pub inked : eqb b 0xFF ≡ false
  pub plain : is_wrap b ≡ false
  pub begun : is_wrap_begun b ≡ false
  pub some : (is_record b || is_start b || is_clean b) ≡ true

pub lowly_start : Lowly 0x00
unfolding is_wrap is_record is_start is_clean is_wrap_begun under_way on_way clears
lowly_start = record { inked = refl; plain = refl; begun = refl; some = refl }

lowly_clean : Lowly 0xA0
unfolding is_wrap is_record is_start is_clean is_wrap_begun under_way on_way clears
lowly_clean = record { inked = refl; plain = refl; begun = refl; some = refl }

lowly_80 : Lowly 0x80
unfolding is_wrap is_record is_start is_clean is_wrap_begun under_way on_way clears
lowly_80 = record { inked = refl; plain = refl; begun = refl; some = refl }

lowly_record : Lowly 0xA5
unfolding is_wrap is_record is_start is_clean is_wrap_begun under_way on_way clears
lowly_record = record { inked = refl; plain = refl; begun = refl; some = refl }

pub low_lowly : (b : ℕ) → Low b → Lowly b
low_lowly b (inl e) = subst Lowly (sym e) lowly_start
low_lowly b (inr (inl e)) = subst Lowly (sym e) lowly_clean
low_lowly b (inr (inr e)) = subst Lowly (sym e) lowly_80

pub clean_low : (b : ℕ) → is_clean b ≡ true → Low b
clean_low b h = inr (clean_two b h)

pub start_low : (b : ℕ) → is_start b ≡ true → Low b
unfolding is_start
start_low b h = inl (eqb-true b 0x00 h)

-- a START or CLEAN is no torn record's
pub low_whole : (b : ℕ) → Low b → is_record_begun b ≡ false
unfolding is_record_begun under_way on_way clears
low_whole b (inl e) = rw e
low_whole b (inr (inl e)) = rw e
low_whole b (inr (inr e)) = rw e

lowly_marker : (b c st : ℕ) → Lowly b → is_torn_marker b c st ≡ false
unfolding is_torn_marker
lowly_marker b c st l = ap (λ (t : Bool). t && is_high_begun c && is_wrap_open st) l.begun

-- one is as good as another
pub kind_lows : (b b' c st m : ℕ) → is_erased st ≡ false → Lowly b → Lowly b' → kind b' c st m ≡ kind b c st m
unfolding kind
kind_lows b b' c st m e p q = rw (kind, lowly_marker b c st p, lowly_marker b' c st q, e, p.plain, p.some, q.plain, q.some)

-- ---- from what is read back to the kind

-- the cases by number; 5 is what breaks a rule
abbrev pub tag : Next → ℕ
tag (Next.Record n d) = 0
tag Next.Wrap = 1
tag Next.TornWrap = 2
tag Next.Clear = 3
tag Next.Over = 4
tag Next.Bad = 5

-- what a kind is read as, if it breaks no rule
abbrev pub tag_of : Kind → ℕ
tag_of Kind.Record = 0
tag_of Kind.Reserved = 0
tag_of Kind.Torn = 0
tag_of Kind.Marker = 1
tag_of Kind.TornMarker = 2
tag_of Kind.Clear = 3
tag_of Kind.Bad = 5

-- and back, where it is no record's
abbrev pub of_tag : ℕ → Kind
of_tag n = cond (eqb n 1) Kind.Marker (cond (eqb n 2) Kind.TornMarker Kind.Clear)

abbrev Tagged : ℕ → Next → Type 0
Tagged n x = (tag x ≡ n) ⊎ (tag x ≡ 5)

module _ (s : List ℕ) where
  sized_tag : (n d : ℕ) (t u : Bool) → ltb n 64 ≡ t → long (size_of n d) s ≡ u → Tagged 0 (sized s n d)
  unfolding sized
  sized_tag n d true true e f = rw (sized, e, f) (inl refl)
  sized_tag n d true false e f = rw (sized, e, f) (inr refl)
  sized_tag n d false u e f = rw (sized, e) (inr refl)

  torn_tag : (t : Bool) → long 16 s ≡ t → Tagged 0 (torn_at s)
  unfolding torn_at
  torn_tag true e = rw (torn_at, e) (inl refl)
  torn_tag false e = rw (torn_at, e) (inr refl)

  torn_wrap_tag : (t : Bool) → blank (drop 3 s) ≡ t → Tagged 2 (torn_wrap_at s)
  unfolding torn_wrap_at
  torn_wrap_tag true e = rw (torn_wrap_at, e) (inl refl)
  torn_wrap_tag false e = rw (torn_wrap_at, e) (inr refl)

  clear_tag : (t : Bool) → blank (take 8 s) ≡ t → Tagged 3 (clear_at s)
  unfolding clear_at
  clear_tag true e = rw (clear_at, e) (inl refl)
  clear_tag false e = rw (clear_at, e) (inr refl)

  pub next_tag : (k : Kind) → Tagged (tag_of k) (next_at k s)
  unfolding next_at
  next_tag Kind.Record = sized_tag (name_length 64 false (drop 8 s)) (data_len_of s) _ _ refl refl
  next_tag Kind.Reserved = sized_tag (name_length 64 true (drop 8 s)) (data_len_of s) _ _ refl refl
  next_tag Kind.Torn = torn_tag _ refl
  next_tag Kind.Marker = inl refl
  next_tag Kind.TornMarker = torn_wrap_tag _ refl
  next_tag Kind.Clear = clear_tag _ refl
  next_tag Kind.Bad = inl refl

  -- what breaks no rule tells its kind's number
  pub kind_tag : (k : Kind) (x : Next) → next_at k s ≡ x → (tag x ≡ 5 → ⊥) → tag_of k ≡ tag x
  kind_tag k x e n =
      ⊎_elim
      (λ (p : tag (next_at k s) ≡ tag_of k). sym p ∙ ap tag e)
      (λ (p : tag (next_at k s) ≡ 5). absurd (n (sym (ap tag e) ∙ p)))
      (next_tag k)

tagged_kind : (k : Kind) (n : ℕ) → tag_of k ≡ n → 1 ≤ n → n ≤ 3 → k ≡ of_tag n
tagged_kind Kind.Record n e h l = absurd (omega arith)
tagged_kind Kind.Reserved n e h l = absurd (omega arith)
tagged_kind Kind.Torn n e h l = absurd (omega arith)
tagged_kind Kind.Marker n e h l = ap of_tag e
tagged_kind Kind.TornMarker n e h l = ap of_tag e
tagged_kind Kind.Clear n e h l = ap of_tag e
tagged_kind Kind.Bad n e h l = absurd (omega arith)

-- a marker, a torn marker and eight FF are of one kind each
pub kind_told : (k : Kind) (s : List ℕ) (x : Next) → next_at k s ≡ x → 1 ≤ tag x → tag x ≤ 3 → k ≡ of_tag (tag x)
kind_told k s x e h l = tagged_kind k (tag x) (kind_tag s k x e (λ q. omega arith)) h l

-- ---- a record that is not torn

-- what its first, second and fourth byte say
pub record Header (b c m : ℕ) : Type 0 where
  pub spare : is_spare m ≡ true
  pub high : is_high c ≡ true
  pub plain : is_wrap b ≡ false
  pub some : (is_record b || is_start b || is_clean b) ≡ true

header_of : (b c st m : ℕ) → is_erased st ≡ false → tag_of (kind b c st m) ≡ 0 → Header b c m × (is_torn_marker b c st ≡ false)
unfolding kind
header_of b c st m e h = go _ _ _ _ _ refl refl refl refl refl where
  none : {A : Type 0} → 1 ≤ tag_of (kind b c st m) → A
  none k = absurd (omega arith)

  go : (s t u v w : Bool) → is_spare m ≡ s → is_torn_marker b c st ≡ t → is_high c ≡ u → is_wrap b ≡ v
      → (is_record b || is_start b || is_clean b) ≡ w → Header b c m × (is_torn_marker b c st ≡ false)
  go false t u v w p q r x y = none (rw (kind, p) (omega arith))
  go true true u v w p q r x y = none (rw (kind, p, q) (omega arith))
  go true false false v w p q r x y = none (rw (kind, p, q, e, r) (omega arith))
  go true false true true w p q r x y =
      none (rw (kind, p, q, e, r, x) (either (λ k. 1 ≤ tag_of k) (is_wrapped st) (omega arith) (omega arith)))
  go true false true false false p q r x y = none (rw (kind, p, q, e, r, x, y) (omega arith))
  go true false true false true p q r x y = (record { spare = p; high = r; plain = x; some = y }, q)

header_kind : (b c st m : ℕ) → Header b c m → is_torn_marker b c st ≡ false → is_erased st ≡ false → kind b c st m ≡ record_kind st
unfolding kind
header_kind b c st m w t e = rw (kind, w.spare, t, e, w.high, w.plain, w.some)

kept_kind : (st : ℕ) → is_reserved st ≡ false → record_kind st ≡ Kind.Record
kept_kind st r = rw r

dead_kind : (b c m : ℕ) → Header b c m → kind b c 0x00 m ≡ Kind.Record
unfolding is_erased is_reserved
dead_kind b c m w = header_kind b c 0x00 m w (dead_marker b c) refl

-- the header of a new record
pub new_kind : (st m : ℕ) → is_spare m ≡ true → is_unfinished st ≡ false → kind 0xA5 0x5A st m ≡ Kind.Record
unfolding is_high
new_kind st m e f =
    let z = finished_none st f in
    let w : Header 0xA5 0x5A m = record { spare = e; high = refl; plain = lowly_record.plain; some = lowly_record.some } in
    header_kind 0xA5 0x5A st m w (lowly_marker 0xA5 0x5A st lowly_record) z.0 ∙ kept_kind st z.1

module _ (b c st m : ℕ) (s : List ℕ) {n d : ℕ} (here : next_at (kind b c st m) s ≡ Next.Record n d) where
  record_tag : tag_of (kind b c st m) ≡ 0
  record_tag = kind_tag s (kind b c st m) (Next.Record n d) here (λ q. omega arith)

  -- a finished one is of the kind Record
  pub finished_kind : is_unfinished st ≡ false → kind b c st m ≡ Kind.Record
  finished_kind f =
      let z = finished_none st f in
      let w = header_of b c st m z.0 record_tag in
      header_kind b c st m w.0 w.1 z.0 ∙ kept_kind st z.1

  -- with the status 00 it stays so
  pub kind_dead : is_unfinished st ≡ false → kind b c 0x00 m ≡ kind b c st m
  kind_dead f = dead_kind b c m (header_of b c st m (finished_none st f).0 record_tag).0 ∙ sym (finished_kind f)

  -- and with any low byte of a record
  pub kind_low : (b' : ℕ) → Lowly b' → is_unfinished st ≡ false → kind b' c st m ≡ kind b c st m
  kind_low b' g f =
      let z = finished_none st f in
      let w = (header_of b c st m z.0 record_tag).0 in
      let v : Header b' c m = record { spare = w.spare; high = w.high; plain = g.plain; some = g.some } in
      header_kind b' c st m v (lowly_marker b' c st g) z.0 ∙ kept_kind st z.1 ∙ sym (finished_kind f)

  -- a reserved one, with the status 00, is a finished one
  pub kind_reserved : is_erased st ≡ false → is_reserved st ≡ true → (kind b c st m ≡ Kind.Reserved) × (kind b c 0x00 m ≡ Kind.Record)
  kind_reserved e f =
      let w = header_of b c st m e record_tag in
      (header_kind b c st m w.0 w.1 e ∙ rw f, dead_kind b c m w.0)

-- ---- a torn one

pub torn_kind : (b c st m : ℕ) → is_erased st ≡ true → tag_of (kind b c st m) ≡ 0
    → (kind b c st m ≡ Kind.Torn) × (is_record_begun b ≡ true) × (is_spare m ≡ true)
unfolding kind
torn_kind b c st m e h = go _ _ _ refl refl refl where
  none : {A : Type 0} → 1 ≤ tag_of (kind b c st m) → A
  none k = absurd (omega arith)

  go : (s t u : Bool) → is_spare m ≡ s → is_torn_marker b c st ≡ t → (is_record_begun b && is_high_begun c) ≡ u
      → (kind b c st m ≡ Kind.Torn) × (is_record_begun b ≡ true) × (is_spare m ≡ true)
  go false t u p q r = none (rw (kind, p) (omega arith))
  go true true u p q r = none (rw (kind, p, q) (omega arith))
  go true false false p q r =
      none (rw (kind, p, q, e, r) (either (λ k. 1 ≤ tag_of k) (eqb b 0xFF && eqb c 0xFF) (omega arith) (omega arith)))
  go true false true p q r = (rw (kind, p, q, e, r), and_left (is_record_begun b) (is_high_begun c) r, p)

-- ---- what stands at a head

-- a record, or what breaks a rule
abbrev pub Recordish : Next → Type 0
Recordish x = Tagged 0 x

lowly_tag : (b c st m : ℕ) → Lowly b → (tag_of (kind b c st m) ≡ 0) ⊎ (tag_of (kind b c st m) ≡ 5)
unfolding kind
lowly_tag b c st m g =
    let P : Kind → Type 0 = λ k. (tag_of k ≡ 0) ⊎ (tag_of k ≡ 5) in
    rw (kind, lowly_marker b c st g, g.inked, g.plain, g.some)
    (either P (is_spare m)
    (either P (is_erased st) (either P (is_record_begun b && is_high_begun c) (inl refl) (inr refl))
    (either P (is_high c) (either P (is_reserved st) (inl refl) (inl refl)) (inr refl)))
    (inr refl))

pub lowly_recordish : (b c st m : ℕ) (s : List ℕ) → Lowly b → Recordish (next_at (kind b c st m) s)
lowly_recordish b c st m s g =
    ⊎_elim
    (λ (p : tag (next_at (kind b c st m) s) ≡ tag_of (kind b c st m)).
    ⊎_elim
    (λ (q : tag_of (kind b c st m) ≡ 0). inl (p ∙ q))
    (λ (q : tag_of (kind b c st m) ≡ 5). inr (p ∙ q))
    (lowly_tag b c st m g))
    (λ (p : tag (next_at (kind b c st m) s) ≡ 5). inr p)
    (next_tag s (kind b c st m))
