-- One step of the walk: the chain's step, but a torn wrap marker breaks a rule, for nothing that follows it is looked at.
use Rattle.std.specs.Prelude.{ℕ, ◌-◌, ◌≤◌, ◌<◌, ◌≡◌, Bool, ◌&&◌, ◌||◌, List, length, take, drop, ltb, eqb}
use Rattle.std.proofs.Common.{arith, sym, ap, subst, ◌∙◌}
use Rattle.std.proofs.Math.Path.{refl}
use Rattle.std.proofs.Math.Bool.{true, false}
use Rattle.spec.specs.declared.Kind.{Kind}
use Rattle.spec.specs.declared.Next.{Next}
use Rattle.spec.specs.Step.{Image}
use Rattle.spec.specs.Basics.{long, blank}
use Rattle.spec.specs.Bytes.{is_record, is_start, is_clean, is_wrap, is_high}
use Rattle.spec.specs.Bytes.{is_high_begun, is_erased, is_reserved, is_wrapped, is_spare, is_record_begun}
use Rattle.spec.specs.Record.{low_of, high_of, status_of, spare_of, data_len_of, size_of, name_length}
use Rattle.spec.specs.Next.{is_torn_marker, kind, sized, torn_at, torn_wrap_at, clear_at, next_at, next}
use Rattle.spec.specs.Chain.{allowed}
use Rattle.laws.specs.Parts.{long_le, long_lt, part_window}
use Rattle.record.specs.Within.{Within}
use Rattle.chain.specs.declared.Cursor.{Cursor}
use Rattle.chain.specs.declared.Item.{Item}
use Rattle.chain.specs.Cursor.{window, goes_on, turn, settle, look, advance, torn_end, CursorSound, Inside}
use Rattle.chain.specs.CursorLaws.{inside_settle, sound_turn, advance_on, advance_here}
use Rattle.headers.specs.Kinds.{kind_of}

-- a torn wrap marker breaks a rule here
abbrev pub untorn : Next → Next
untorn (Next.Record n d) = Next.Record n d
untorn Next.Wrap = Next.Wrap
untorn Next.TornWrap = Next.Bad
untorn Next.Clear = Next.Clear
untorn Next.Over = Next.Over
untorn Next.Bad = Next.Bad

abbrev pub untorn_next : List ℕ → Next
untorn_next s = untorn (next s)

abbrev pub fore_look : Image → Cursor → Next
fore_look image c = untorn_next (window image c)

unfoldable pub fore : Image → Cursor → Item
fore image c =
    elim (goes_on c.room (fore_look image c)) [
      | true ↦ settle image (turn c.room c.pending) (fore_look image (turn c.room c.pending))
      | false ↦ settle image c (fore_look image c)
    ]

-- ---- what stands at the front

-- only the kind TornMarker is read as a torn wrap
abbrev TornWrapKind : Kind → Type 0
TornWrapKind Kind.Record = ⊥
TornWrapKind Kind.Reserved = ⊥
TornWrapKind Kind.Torn = ⊥
TornWrapKind Kind.Marker = ⊥
TornWrapKind Kind.TornMarker = Unit {0}
TornWrapKind Kind.Clear = ⊥
TornWrapKind Kind.Bad = ⊥

abbrev NotTorn : Next → Type 0
NotTorn (Next.Record n d) = Unit {0}
NotTorn Next.Wrap = Unit {0}
NotTorn Next.TornWrap = ⊥
NotTorn Next.Clear = Unit {0}
NotTorn Next.Over = Unit {0}
NotTorn Next.Bad = Unit {0}

untorn_is : (x : Next) → NotTorn x → x ≡ untorn x
untorn_is (Next.Record n d) z = refl
untorn_is Next.Wrap z = refl
untorn_is Next.TornWrap z = absurd z
untorn_is Next.Clear z = refl
untorn_is Next.Over z = refl
untorn_is Next.Bad z = refl

module _ (s : List ℕ) where
  sized_not_torn : (n d : ℕ) (t u : Bool) → ltb n 64 ≡ t → long (size_of n d) s ≡ u → NotTorn (sized s n d)
  unfolding sized
  sized_not_torn n d true true e f = rw (sized, e, f) tt
  sized_not_torn n d true false e f = rw (sized, e, f) tt
  sized_not_torn n d false u e f = rw (sized, e) tt

  torn_not_torn : (t : Bool) → long 16 s ≡ t → NotTorn (torn_at s)
  unfolding torn_at
  torn_not_torn true e = rw (torn_at, e) tt
  torn_not_torn false e = rw (torn_at, e) tt

  clear_not_torn : (t : Bool) → blank (take 8 s) ≡ t → NotTorn (clear_at s)
  unfolding clear_at
  clear_not_torn true e = rw (clear_at, e) tt
  clear_not_torn false e = rw (clear_at, e) tt

  at_not_torn : (k : Kind) → (TornWrapKind k → ⊥) → NotTorn (next_at k s)
  unfolding next_at
  at_not_torn Kind.Record z = sized_not_torn (name_length 64 false (drop 8 s)) (data_len_of s) _ _ refl refl
  at_not_torn Kind.Reserved z = sized_not_torn (name_length 64 true (drop 8 s)) (data_len_of s) _ _ refl refl
  at_not_torn Kind.Torn z = torn_not_torn _ refl
  at_not_torn Kind.Marker z = tt
  at_not_torn Kind.TornMarker z = absurd (z tt)
  at_not_torn Kind.Clear z = clear_not_torn _ refl
  at_not_torn Kind.Bad z = tt

-- a kind told by a header that is no torn marker's
kind_not_torn : (b c st m : ℕ) → is_torn_marker b c st ≡ false → TornWrapKind (kind b c st m) → ⊥
unfolding kind
kind_not_torn b c st m e z = go (is_spare m) (is_erased st) (is_record_begun b && is_high_begun c) (eqb b 0xFF && eqb c 0xFF)
    (is_high c) (is_wrap b)
    (is_wrapped st) (is_record b || is_start b || is_clean b) (is_reserved st) refl refl refl refl refl refl refl refl refl where
      go : (t u v w x y p q r : Bool) → is_spare m ≡ t → is_erased st ≡ u → (is_record_begun b && is_high_begun c) ≡ v
          → (eqb b 0xFF && eqb c 0xFF) ≡ w
          → is_high c ≡ x → is_wrap b ≡ y → is_wrapped st ≡ p → (is_record b || is_start b || is_clean b) ≡ q → is_reserved st ≡ r → ⊥
      go false u v w x y p q r e1 e2 e3 e4 e5 e6 e7 e8 e9 = rw (kind, e1) at z
      go true true true w x y p q r e1 e2 e3 e4 e5 e6 e7 e8 e9 = rw (kind, e1, e, e2, e3) at z
      go true true false true x y p q r e1 e2 e3 e4 e5 e6 e7 e8 e9 = rw (kind, e1, e, e2, e3, e4) at z
      go true true false false x y p q r e1 e2 e3 e4 e5 e6 e7 e8 e9 = rw (kind, e1, e, e2, e3, e4) at z
      go true false v w false y p q r e1 e2 e3 e4 e5 e6 e7 e8 e9 = rw (kind, e1, e, e2, e5) at z
      go true false v w true true true q r e1 e2 e3 e4 e5 e6 e7 e8 e9 = rw (kind, e1, e, e2, e5, e6, e7) at z
      go true false v w true true false q r e1 e2 e3 e4 e5 e6 e7 e8 e9 = rw (kind, e1, e, e2, e5, e6, e7) at z
      go true false v w true false p true true e1 e2 e3 e4 e5 e6 e7 e8 e9 = rw (kind, e1, e, e2, e5, e6, e8, e9) at z
      go true false v w true false p true false e1 e2 e3 e4 e5 e6 e7 e8 e9 = rw (kind, e1, e, e2, e5, e6, e8, e9) at z
      go true false v w true false p false r e1 e2 e3 e4 e5 e6 e7 e8 e9 = rw (kind, e1, e, e2, e5, e6, e8) at z

module _ (s : List ℕ) where
  -- too few bytes for a header
  pub few_untorn : length s < 8 → next s ≡ untorn_next s
  unfolding next
  few_untorn l = go (long 1 s) refl where
    go : (t : Bool) → long 1 s ≡ t → next s ≡ untorn_next s
    go true e = rw (next, e, long_lt 8 s l)
    go false e = rw (next, e)

  module _ (l : 8 ≤ length s) where
    next_by : (k : Kind) → kind_of s ≡ k → next s ≡ next_at k s
    unfolding next
    next_by k e = rw (next, long_le 1 s (omega arith), long_le 8 s l, e)

    -- a torn marker by its header
    pub torn_untorn : is_torn_marker (low_of s) (high_of s) (status_of s) ≡ true → Next.Bad ≡ untorn_next s
    unfolding kind next_at torn_wrap_at
    torn_untorn e = go (is_spare (spare_of s)) (blank (drop 3 s)) refl refl where
      go : (t u : Bool) → is_spare (spare_of s) ≡ t → blank (drop 3 s) ≡ u → Next.Bad ≡ untorn_next s
      go false u p q = let k : kind_of s ≡ Kind.Bad = rw (kind, p) in rw (next_by Kind.Bad k)
      go true true p q = let k : kind_of s ≡ Kind.TornMarker = rw (kind, p, e) in rw (next_by Kind.TornMarker k, torn_wrap_at, q)
      go true false p q = let k : kind_of s ≡ Kind.TornMarker = rw (kind, p, e) in rw (next_by Kind.TornMarker k, torn_wrap_at, q)

    -- none
    pub next_untorn : is_torn_marker (low_of s) (high_of s) (status_of s) ≡ false → next s ≡ untorn_next s
    next_untorn e =
        untorn_is (next s)
        (rw (next_by (kind_of s) refl)
        (at_not_torn s (kind_of s) (kind_not_torn (low_of s) (high_of s) (status_of s) (spare_of s) e)))

-- ---- the step

-- at a cursor: the part that is lent is the definitions' stretch
pub fore_look_is : (image : Image) (c : Cursor) (x : Next) → c.at ≤ c.end → x ≡ untorn_next (take (c.end - c.at) (drop c.at image))
    → x ≡ fore_look image c
fore_look_is image c x h e = e ∙ ap untorn_next (part_window c.at c.end image h)

-- what lies inside behind the turn lies inside before it
inside_turn : (image : Image) (c : Cursor) (r : Item) → Inside image (turn c.room c.pending) r → Inside image c r
inside_turn image c (Item.Record e next) o =
    record { sound = o.sound; less = omega (arith, o.less); name = o.name; data_len = o.data_len; fits = o.fits; pending = o.pending }
inside_turn image c (Item.End t w) o = o
inside_turn image c (Item.TornWrap t) o = o
inside_turn image c (Item.Broken t w) o = o

module _ (image : Image) (c : Cursor) where
  pub fore_on : goes_on c.room (fore_look image c) ≡ true
      → fore image c ≡ settle image (turn c.room c.pending) (fore_look image (turn c.room c.pending))
  unfolding fore
  fore_on h = rw (h, fore)

  pub fore_here : goes_on c.room (fore_look image c) ≡ false → fore image c ≡ settle image c (fore_look image c)
  unfolding fore
  fore_here h = rw (h, fore)

  module _ (x : Next) (b : Bool) (s : CursorSound image c) (ex : x ≡ fore_look image c) (eb : b ≡ goes_on c.room x) where
    pub went_on : (t : Cursor) (y : Next) (r : Item) → b ≡ true → t ≡ turn c.room c.pending → y ≡ fore_look image t
        → r ≡ settle image t y
        → Within y (t.end - t.at) → (r ≡ fore image c) × Inside image c r
    went_on t y r h et ey er w =
        let u : Cursor = turn c.room c.pending in
        let e : r ≡ settle image u y = er ∙ ap (λ (k : Cursor). settle image k y) et in (
          e ∙ ap (settle image u) (ey ∙ ap (fore_look image) et) ∙ sym (fore_on (ap (goes_on c.room) (sym ex) ∙ sym eb ∙ h)),
          subst (λ (z : Item). Inside image c z) (sym e)
              (inside_turn image c (settle image u y)
              (inside_settle image u y (sound_turn image c s) (subst (λ (k : Cursor). Within y (k.end - k.at)) et w))),
        )

    pub went_here : (r : Item) → b ≡ false → r ≡ settle image c x → Within x (c.end - c.at) → (r ≡ fore image c) × Inside image c r
    went_here r h er w = (
      er ∙ ap (settle image c) ex ∙ sym (fore_here (ap (goes_on c.room) (sym ex) ∙ sym eb ∙ h)),
      subst (λ (z : Item). Inside image c z) (sym er) (inside_settle image c x s w),
    )

-- ---- it is the chain's step, but for how the chain is broken

-- a torn wrap and a broken rule are one to the walk
abbrev pub sorted : Item → Item
sorted (Item.Record e next) = Item.Record e next
sorted (Item.End t w) = Item.End t w
sorted (Item.TornWrap t) = Item.Broken 0 false
sorted (Item.Broken t w) = Item.Broken 0 false

untorn_goes : (room : ℕ) (x : Next) → goes_on room (untorn x) ≡ goes_on room x
untorn_goes room (Next.Record n d) = refl
untorn_goes room Next.Wrap = refl
untorn_goes room Next.TornWrap = refl
untorn_goes room Next.Clear = refl
untorn_goes room Next.Over = refl
untorn_goes room Next.Bad = refl

torn_sorted : (room : ℕ) (turned : Bool) (at : ℕ) (t : Bool) → ltb 0 room ≡ t → sorted (torn_end room turned at) ≡ Item.Broken 0 false
unfolding torn_end
torn_sorted room turned at true e = rw (torn_end, e)
torn_sorted room turned at false e = rw (torn_end, e)

untorn_settle : (image : Image) (c : Cursor) (x : Next) → sorted (settle image c (untorn x)) ≡ sorted (settle image c x)
untorn_settle image c (Next.Record n d) = refl
untorn_settle image c Next.Wrap = refl
untorn_settle image c Next.TornWrap = sym (torn_sorted c.room c.turned c.at _ refl)
untorn_settle image c Next.Clear = refl
untorn_settle image c Next.Over = refl
untorn_settle image c Next.Bad = refl

pub fore_sorted : (image : Image) (c : Cursor) → c.pending ≡ false → sorted (fore image c) ≡ sorted (advance image c)
unfolding look
fore_sorted image c p = go (goes_on c.room (look image c)) refl where
  looks : (d : Cursor) → d.pending ≡ false → fore_look image d ≡ untorn (look image d)
  looks d q = ap (λ (b : Bool). untorn (allowed b (next (window image d)))) (sym q)

  go : (t : Bool) → goes_on c.room (look image c) ≡ t → sorted (fore image c) ≡ sorted (advance image c)
  go true e =
      let u : Cursor = turn c.room c.pending in
      ap sorted (fore_on image c (ap (goes_on c.room) (looks c p) ∙ untorn_goes c.room (look image c) ∙ e)
      ∙ ap (settle image u) (looks u p))
      ∙ untorn_settle image u (look image u) ∙ sym (ap sorted (advance_on image c e))
  go false e =
      ap sorted (fore_here image c (ap (goes_on c.room) (looks c p) ∙ untorn_goes c.room (look image c) ∙ e)
      ∙ ap (settle image c) (looks c p))
      ∙ untorn_settle image c (look image c) ∙ sym (ap sorted (advance_here image c e))
