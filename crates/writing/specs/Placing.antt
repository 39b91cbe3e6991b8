-- Laws on placing: what fits lies inside the image.
use Rattle.std.specs.Prelude.{ℕ, ◌+◌, ◌≤◌, ◌<◌, ◌≡◌, refl, None, Bool, true, false, ◌&&◌, ◌||◌, not, leb}
use Rattle.std.proofs.Common.{arith, sym, ap, ◌∙◌, leb-true, ltb-true}
use Rattle.std.specs.Option.{is_some}
use Rattle.spec.specs.declared.Place.{Place}
use Rattle.spec.specs.declared.Placement.{Placement}
use Rattle.spec.specs.Geometry.{floor}
use Rattle.spec.specs.Reading.{limit}
use Rattle.spec.specs.Place.{fits_at_tail, fits, address, with_marker, place_after}
use Rattle.spec.specs.Placed.{Placed, placed, placed_at, PlaceSound}

-- ---- the three parts of an answer

abbrev given : Bool → ℕ → Bool → Place → Placed
given t a k q = elim t [ true ↦ placed_at a k q | false ↦ None ]

fits_of : (t : Bool) (a : ℕ) (k : Bool) (q : Place) (x : ℕ) (l : Bool) (r : Place) → given t a k q ≡ placed_at x l r
    → (t ≡ true)
    × (a ≡ x) × (k ≡ l) × (q ≡ r)
fits_of true a k q x l r e =
    let v : record { at = a; marker = k; place = q } ≡ record { at = x; marker = l; place = r } = cc in
    (refl, ap (λ (z : Placement). z.at) v, ap (λ (z : Placement). z.marker) v, ap (λ (z : Placement). z.place) v)
fits_of false a k q x l r e = let z : ◌≡◌ {A = ℕ} 0 1 = cc in absurd (omega arith)

pub placed_parts : (p : Place) (s a : ℕ) (k : Bool) (q : Place) → placed p s ≡ placed_at a k q → (fits p s ≡ true) × (address p s ≡ a)
    × (with_marker p s ≡ k) × (place_after p s ≡ q)
unfolding placed
placed_parts p s a k q e = fits_of (fits p s) (address p s) (with_marker p s) (place_after p s) a k q e

-- a place is given to what fits
pub placed_fits : (p : Place) (s : ℕ) → is_some (placed p s) ≡ fits p s
unfolding placed
placed_fits p s = go (fits p s) where
  go : (t : Bool) → is_some (given t (address p s) (with_marker p s) (place_after p s)) ≡ t
  go true = refl
  go false = refl

pub placed_full : (p : Place) (s : ℕ) → placed p s ≡ None → fits p s ≡ false
placed_full p s e = sym (placed_fits p s) ∙ ap is_some e

-- ---- where a size that fits lies

-- at the tail; or, before the turn, at 0
pub data Way (p : Place) (s : ℕ) : Type 0 where
  at_tail : fits_at_tail p s ≡ true → address p s ≡ p.tail → p.tail + s ≤ limit p → Way p s
  at_start : fits_at_tail p s ≡ false → p.turned ≡ false → address p s ≡ 0 → s ≤ floor p.head → Way p s

pub way : (p : Place) (s : ℕ) → fits p s ≡ true → Way p s
unfolding fits fits_at_tail address
way p s e = go (leb (p.tail + s) (limit p)) p.turned refl refl e where
  go : (t u : Bool) → leb (p.tail + s) (limit p) ≡ t → p.turned ≡ u → (t || (not u && leb s (floor p.head))) ≡ true → Way p s
  go true u h k f = at_tail h (rw (h, address)) (leb-true (p.tail + s) (limit p) h)
  go false true h k f = let z : ◌≡◌ {A = ℕ} 0 1 = cc in absurd (omega arith)
  go false false h k f = at_start h k (rw (h, address)) (leb-true s (floor p.head) f)

limit_inside : (p : Place) → PlaceSound p → limit p ≤ p.length
limit_inside p h = go p.turned refl where
  go : (u : Bool) → p.turned ≡ u → limit p ≤ p.length
  go true k = rw k (omega (arith, h.inside))
  go false k = rw k (omega arith)

pub placed_inside : (p : Place) (s : ℕ) → PlaceSound p → fits p s ≡ true → address p s + s ≤ p.length
placed_inside p s h e = go (way p s e) where
  go : Way p s → address p s + s ≤ p.length
  go (at_tail t a l) = omega (arith, limit_inside p h)
  go (at_start t u a l) = omega (arith, h.inside)

-- a marker goes only before the turn
pub marker_before_turn : (p : Place) (s : ℕ) → fits p s ≡ true → with_marker p s ≡ true → (p.turned ≡ false) × (p.tail < p.length)
unfolding with_marker
marker_before_turn p s e m = go (way p s e) where
  go : Way p s → (p.turned ≡ false) × (p.tail < p.length)
  go (at_tail t a l) = let z : ◌≡◌ {A = Bool} false true = rw t at m in let y : ◌≡◌ {A = ℕ} 0 1 = cc in absurd (omega arith)
  go (at_start t u a l) = (u, ltb-true p.tail p.length (rw t at m))
