-- The first record of a chain stands at the head, if a START or CLEAN byte does; the second one stands clear of it.
use Prim.Native.Nat.{ℕ, ◌+◌, ◌-◌, ◌%◌, ◌≤◌, ◌<◌}
use Rattle.std.proofs.Common.{arith, add-zero, sym, ◌∙◌, inl, inr}
use Rattle.std.specs.Prelude.{◌≡◌, Bool, ◌||◌, cond, ◌⊎◌, length, ltb, eqb}
use Rattle.std.proofs.Math.Path.{refl, ap}
use Rattle.std.proofs.Math.Bool.{true, false}
use mathlib.Core.List.{List}
use Rattle.std.proofs.Math.ListN.{drop, get_or, length-drop}
use Rattle.std.proofs.Math.Seq.{take-length, get_or-drop}
use Rattle.spec.specs.declared.Kind.{Kind}
use Rattle.spec.specs.Step.{Image}
use Rattle.spec.specs.Basics.{long}
use Rattle.spec.specs.Geometry.{floor}
use Rattle.spec.specs.Bytes.{clears, on_way, under_way, is_record, is_wrap, is_start, is_clean}
use Rattle.spec.specs.Bytes.{is_record_begun, is_wrap_begun, is_high, is_erased, is_reserved, is_spare}
use Rattle.spec.specs.Record.{low_of, high_of, status_of, spare_of, data_len_of, size_of, name_length}
use Rattle.spec.specs.Next.{is_torn_marker, kind, sized, next_at, next}
use Rattle.laws.specs.Tests.{wrong}
use Rattle.laws.specs.Head.{Low}
use Rattle.laws.specs.Parts.{long_le}
use Rattle.chain.specs.declared.Cursor.{Cursor}
use Rattle.chain.specs.declared.Spot.{Spot}
use Rattle.chain.specs.Cursor.{look, goes_on, unfinished_at, past}
use Rattle.reading.specs.Read.{first_cursor}
use Rattle.chain.specs.Along.{From, here, turned, Reached, room_left}
use Rattle.reading.specs.Way.{On, from_on}

-- ---- what stands there is a record or breaks a rule

abbrev Plain : Kind → Type 0
Plain Kind.Record = Unit {0}
Plain Kind.Reserved = Unit {0}
Plain Kind.Torn = ⊥
Plain Kind.Marker = ⊥
Plain Kind.TornMarker = ⊥
Plain Kind.Clear = ⊥
Plain Kind.Bad = Unit {0}

either : (t : Bool) (a b : Kind) → Plain a → Plain b → Plain (cond t a b)
either true a b p q = p
either false a b p q = q

-- the first byte is on no way to a record's or a marker's, is not FF and not a marker's
module _ (b c st spare : ℕ) (r : is_record_begun b ≡ false) (w : is_wrap_begun b ≡ false) (f : eqb b 0xFF ≡ false)
    (m : is_wrap b ≡ false) where
  kind_plain : Plain (kind b c st spare)
  unfolding kind is_torn_marker
  kind_plain =
      rw (kind, is_torn_marker, r, w, f, m)
      (either (is_spare spare) _ Kind.Bad
      (either (is_erased st) Kind.Bad _ tt
      (either (is_high c) _ Kind.Bad
      (either (is_record b || is_start b || is_clean b) _ Kind.Bad (either (is_reserved st) Kind.Reserved Kind.Record tt tt) tt) tt)) tt)

low_plain : (b c st spare : ℕ) → Low b → Plain (kind b c st spare)
unfolding is_record_begun is_wrap_begun under_way on_way clears is_wrap
low_plain b c st spare (inl e) = rw e (kind_plain 0x00 c st spare refl refl refl refl)
low_plain b c st spare (inr (inl e)) = rw e (kind_plain 0xA0 c st spare refl refl refl refl)
low_plain b c st spare (inr (inr e)) = rw e (kind_plain 0x80 c st spare refl refl refl refl)

module _ (room : ℕ) (s : List ℕ) where
  sized_plain : (n d : ℕ) (t u : Bool) → ltb n 64 ≡ t → long (size_of n d) s ≡ u → goes_on room (sized s n d) ≡ false
  unfolding sized
  sized_plain n d true true e f = rw (sized, e, f)
  sized_plain n d true false e f = rw (sized, e, f)
  sized_plain n d false u e f = rw (sized, e)

  at_plain : (k : Kind) → Plain k → goes_on room (next_at k s) ≡ false
  unfolding next_at
  at_plain Kind.Record p = sized_plain (name_length 64 false (drop 8 s)) (data_len_of s) _ _ refl refl
  at_plain Kind.Reserved p = sized_plain (name_length 64 true (drop 8 s)) (data_len_of s) _ _ refl refl
  at_plain Kind.Torn p = absurd p
  at_plain Kind.Marker p = absurd p
  at_plain Kind.TornMarker p = absurd p
  at_plain Kind.Clear p = absurd p
  at_plain Kind.Bad p = refl

  next_plain : (u : Bool) → Plain (kind (low_of s) (high_of s) (status_of s) (spare_of s)) → long 1 s ≡ true → long 8 s ≡ u
      → goes_on room (next s) ≡ false
  unfolding next
  next_plain true p e f = rw (next, e, f) (at_plain (kind (low_of s) (high_of s) (status_of s) (spare_of s)) p)
  next_plain false p e f = rw (next, e, f)

-- ---- the first record, and the second

module _ (image : Image) (h : ℕ) (l : h < length image) (b : Low (get_or image h 0)) where
  straight : goes_on (floor h) (look image (first_cursor image h)) ≡ false
  unfolding look
  straight =
      let s : List ℕ = drop h image in
      let e : low_of s ≡ get_or image h 0 = get_or-drop h image 0 0 ∙ ap (λ (i : ℕ). get_or image i 0) (add-zero h) in
      ap (λ (t : List ℕ). goes_on (floor h) (next (drop h t))) (take-length image)
      ∙ next_plain (floor h) s _ (low_plain (low_of s) (high_of s) (status_of s) (spare_of s) (rw e b))
      (long_le 1 s (rw length-drop (omega arith)))
      refl

  from_here : (d : Cursor) → From image (first_cursor image h) d → d ≡ first_cursor image h
  from_here d (here e) = refl
  from_here d (turned e) = wrong (sym straight ∙ e)

  module _ (x : Spot) (c : Cursor) (r : Reached image (first_cursor image h) x c) where
    start : r.seen ≡ first_cursor image h
    start = from_here r.seen r.from

    pub first_at : x.at ≡ h
    first_at = r.at ∙ ap (λ (d : Cursor). d.at) start

    pub past_first : c ≡ past (first_cursor image h) (size_of x.n x.d) (unfinished_at image h)
    past_first = r.next_is ∙ ap (λ (d : Cursor). past d (size_of x.n x.d) (unfinished_at image d.at)) start

    -- "before the turn" from here on means: behind the first record
    pub past_on_way : h % 8 ≡ 0 → On (length image) h (h + size_of x.n x.d) c
    past_on_way e =
        let f : size_of x.n x.d ≤ length image - h = rw start at r.fits in
        rw past_first
        record {
          even = omega arith;
          up = λ z. (omega arith, omega arith, refl, refl);
          round = λ z. wrong z;
        }

    -- the second record stands behind the first, or at 0 after the turn
    pub apart : (y : Spot) (d : Cursor) → Reached image c y d → (x.at + size_of x.n x.d ≤ y.at) ⊎ (y.at < x.at)
    apart y d q = go q.seen q.from q.at where
      go : (k : Cursor) → From image c k → y.at ≡ k.at → (x.at + size_of x.n x.d ≤ y.at) ⊎ (y.at < x.at)
      go k (here g) e = inl (omega (arith, first_at, ap (λ (v : Cursor). v.at) past_first))
      go k (turned g) e = inr (omega (arith, first_at, room_left c.room (look image c) g, ap (λ (v : Cursor). v.room) past_first))

    pub second_even : h % 8 ≡ 0 → (y : Spot) (d : Cursor) → Reached image c y d → y.at % 8 ≡ 0
    second_even e y d q =
        ap (λ (i : ℕ). i % 8) q.at ∙ (from_on image (length image) h (h + size_of x.n x.d) c q.seen q.from
        (past_on_way e)).even
