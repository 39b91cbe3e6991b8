-- The wrap marker when the head goes on to the second record: it is gone if that stands at 0, and otherwise as it was. A torn wrap is told
-- as the marker that it becomes.
use Rattle.std.specs.Prelude.{ℕ, ◌≤◌, ◌≡◌, Bool, ◌&&◌, List, ◌∷◌, ◌++◌, length, eqb, leb, ltb}
use Rattle.std.proofs.Common.{arith, ◌∙◌, subst, eqb-true, eq-eqb, ne_eqb, ltb-true, ltb-false}
use Rattle.std.proofs.Math.Path.{refl, sym, ap}
use Rattle.std.proofs.Math.Bool.{true, false, not}
use Rattle.std.proofs.lemmas.Bool.{eqb-false}
use Rattle.std.proofs.Math.Option.{Option, none}
use Rattle.spec.specs.declared.Ending.{Ending}
use Rattle.spec.specs.declared.Place.{Place}
use Rattle.spec.specs.Step.{Image}
use Rattle.spec.specs.Geometry.{floor}
use Rattle.spec.specs.Bytes.{is_unfinished}
use Rattle.spec.specs.Record.{Entry, size}
use Rattle.spec.specs.Chain.{Reading}
use Rattle.spec.specs.Placed.{with_tail}
use Rattle.planning.specs.Planned.{come_round, led_place}
use Rattle.planning.specs.Row.{Row, row_end}
use Rattle.planning.specs.First.{row_cons, Pair, pair_here, pair_torn, pair_round, pair_low}
use Rattle.planning.specs.Places.{place_of, round_on, round_off, round_turned}
use Rattle.planning.specs.Space.{marker_at, marker_told, row_upper, row_lower, row_sizes}
use Rattle.planning.specs.Filed.{kept_yes, kept_no}
use Rattle.planning.specs.Markers.{top, row_top, marker_end, told_turned, told_straight}

-- the marker when the head goes on to y, where m was the one before
unfoldable pub led_marker : ℕ → Option ℕ → Option ℕ
led_marker y m = elim (eqb y 0) [ true ↦ none | false ↦ m ]

led_zero : (y : ℕ) (m : Option ℕ) → y ≡ 0 → led_marker y m ≡ none
unfolding led_marker
led_zero y m e = rw (led_marker, eq-eqb y 0 e)

led_more : (y : ℕ) (m : Option ℕ) → (y ≡ 0 → ⊥) → led_marker y m ≡ m
unfolding led_marker
led_more y m e = rw (led_marker, ne_eqb y 0 e)

-- ---- where the records before the turn end

-- a first record that stands where another stood
pub top_first : (h : ℕ) (x y : Entry) (es : List Entry) → x.at ≡ y.at → size x ≡ size y → top h (x ∷ es) ≡ top h (y ∷ es)
top_first h x y es a z = go (leb h y.at) refl where
  go : (t : Bool) → leb h y.at ≡ t → top h (x ∷ es) ≡ top h (y ∷ es)
  go true l = omega (arith, kept_yes (λ e. leb h e.at) x es (ap (leb h) a ∙ l), kept_yes (λ e. leb h e.at) y es l)
  go false l = omega (arith, kept_no (λ e. leb h e.at) x es (ap (leb h) a ∙ l), kept_no (λ e. leb h e.at) y es l)

-- two rows, the second below the head
rows_top : {im : Image} {lim lim' : ℕ} {h : ℕ} {o o' : Bool} {es fs : List Entry} {p q : Bool} {b T : ℕ} → T ≤ h → Row im lim o h es p b
    → Row im lim' o' 0 fs q T → top h (es ++ fs) ≡ b
rows_top {h = h} {fs = fs} l row rows = omega (arith, row_upper h fs (omega arith) row, row_lower h l rows, row_sizes row)

-- the row from the second record on
row_second : {im : Image} {lim : ℕ} {o : Bool} {a : ℕ} {x y : Entry} {es : List Entry} {p : Bool} {b : ℕ}
    → Row im lim o a (x ∷ (y ∷ es)) p b
    → Row im lim (is_unfinished x.it.status) y.at (y ∷ es) p b
row_second {im} {lim} {x = x} {y = y} {es = es} {p = p} {b = b} row =
    let c = row_cons row in
    subst (λ (a : ℕ). Row im lim (is_unfinished x.it.status) a (y ∷ es) p b) (sym (row_cons c.rest).at) c.rest

-- ---- from X to Y

module _ (im : Image) (h : ℕ) (x y : Entry) (es : List Entry) (d : Ending) (z : Entry) (at : z.at ≡ y.at) (alike : size z ≡ size y) where
  abbrev N : ℕ
  N = length im

  abbrev with_place : Place → Reading
  with_place q = record { place = q; entries = z ∷ es; ending = d }

  -- before the turn
  here_led : (T : ℕ) → (y.at ≡ 0 → ⊥) → top y.at (z ∷ es) ≡ T → marker_told (with_place (led_place (place_of N h T false) y.at))
      ≡ none
  unfolding led_place
  here_led T n t = go _ refl _ refl where
    q : Place
    q = place_of N y.at T false

    stays : (T ≡ N → floor y.at ≡ 0) → marker_told (with_place (come_round q)) ≡ none
    stays f = ap (λ (a : Place). marker_told (with_place a)) (round_off q refl f) ∙ told_straight q (z ∷ es) d refl

    go : (a : Bool) → eqb T N ≡ a → (b : Bool) → ltb 0 (floor y.at) ≡ b → marker_told (with_place (come_round q)) ≡ none
    go false a b f = stays (λ e. absurd (eqb-false T N a e))
    go true a false f = stays (λ e. omega (arith, ltb-false 0 (floor y.at) f))
    go true a true f =
        ap (λ (a : Place). marker_told (with_place a)) (round_on q refl (eqb-true T N a) (ltb-true 0 (floor y.at) f))
        ∙ told_turned (with_tail q 0 true) (z ∷ es) d refl ∙ marker_end N (top y.at (z ∷ es)) (omega (arith, t, eqb-true T N a))

  -- after it, with Y before it
  turned_led : (T b : ℕ) (r : Reading) → (y.at ≡ 0 → ⊥) → top y.at (z ∷ es) ≡ b → marker_told r ≡ marker_at N b
      → marker_told (with_place (led_place (place_of N h T true) y.at)) ≡ marker_told r
  unfolding led_place
  turned_led T b r n t e =
      let on : (true && not (eqb y.at 0)) ≡ true = ap not (ne_eqb y.at 0 n) in
      let q : led_place (place_of N h T true) y.at ≡ place_of N y.at T true =
      ap (λ (u : Bool). come_round (place_of N y.at T u)) on ∙ round_turned (place_of N y.at T true) refl in
      ap (λ (a : Place). marker_told (with_place a)) q ∙ told_turned (place_of N y.at T true) (z ∷ es) d refl ∙ ap (marker_at N) t
      ∙ sym e

  -- after it, with Y at 0
  low_led : (T : ℕ) → y.at ≡ 0 → marker_told (with_place (led_place (place_of N h T true) y.at)) ≡ none
  unfolding led_place
  low_led T e =
      let off : (true && not (eqb y.at 0)) ≡ false = ap not (eq-eqb y.at 0 e) in
      let q : led_place (place_of N h T true) y.at ≡ place_of N y.at T false =
      ap (λ (u : Bool). come_round (place_of N y.at T u)) off
      ∙ round_off (place_of N y.at T false) refl (λ k. ap floor e) in
      ap (λ (a : Place). marker_told (with_place a)) q ∙ told_straight (place_of N y.at T false) (z ∷ es) d refl

  pub led_told : {r : Reading} → h ≤ length im → Pair im h r x y es
      → marker_told (with_place (led_place r.place y.at)) ≡ led_marker y.at (marker_told r)
  led_told {r} l (pair_here {T = T} row s m e) =
      let c = row_cons (row_cons row).rest in
      let n : y.at ≡ 0 → ⊥ = λ k. omega (arith, c.at) in
      let own : top y.at (z ∷ es) ≡ T =
      top_first y.at z y es at alike ∙ row_top (row_second row) in
      ap (λ (p : Place). marker_told (with_place (led_place p y.at))) (ap (λ (v : Reading). v.place) e) ∙ here_led T n own
      ∙ sym (led_more y.at (marker_told r) n
      ∙ ap marker_told e ∙ told_straight (place_of N h T false) (x ∷ (y ∷ es)) Ending.Tail refl)
  led_told {r} l (pair_torn {b = b} row s n e) =
      let c = row_cons (row_cons row).rest in
      let more : y.at ≡ 0 → ⊥ = λ k. omega (arith, c.at) in
      let own : top y.at (z ∷ es) ≡ b =
      top_first y.at z y es at alike ∙ row_top (row_second row) in
      let told : marker_told r ≡ marker_at N b =
      ap marker_told e ∙ told_turned (place_of N h 0 true) (x ∷ (y ∷ es)) (Ending.TornWrap b) refl ∙ ap (marker_at N) (row_top row) in
      ap (λ (p : Place). marker_told (with_place (led_place p y.at))) (ap (λ (v : Reading). v.place) e)
      ∙ turned_led 0 b r more own told ∙ sym (led_more y.at (marker_told r) more)
  led_told {r} l (pair_round {us = us} {vs = vs} {b = b} {T = T} row s t n rows k m u e) =
      let c = row_cons (row_cons row).rest in
      let more : y.at ≡ 0 → ⊥ = λ k. omega (arith, c.at) in
      let low = row_end (omega arith) rows in
      let own : top y.at (z ∷ es) ≡ b =
      top_first y.at z y es at alike ∙ ap (λ (l : List Entry). top y.at (y ∷ l)) (sym u)
      ∙ rows_top (omega (arith, low.1, c.at)) (row_second row) rows in
      let told : marker_told r ≡ marker_at N b =
      ap marker_told e ∙ told_turned (place_of N h T true) (x ∷ (y ∷ es)) Ending.Tail refl
      ∙ ap (marker_at N) (ap (λ (l : List Entry). top h (x ∷ (y ∷ l))) (sym u) ∙ rows_top (omega (arith, low.1)) row rows) in
      ap (λ (p : Place). marker_told (with_place (led_place p y.at))) (ap (λ (v : Reading). v.place) e)
      ∙ turned_led T b r more own told ∙ sym (led_more y.at (marker_told r) more)
  led_told {r} l (pair_low {T = T} row s t n rows k m e) =
      let zero : y.at ≡ 0 = (row_cons rows).at in
      ap (λ (p : Place). marker_told (with_place (led_place p y.at))) (ap (λ (v : Reading). v.place) e) ∙ low_led T zero
      ∙ sym (led_zero y.at (marker_told r) zero)
