-- Places: how a place is read whose tail is at N, where a copy goes, and the place after it.
use Rattle.std.specs.Prelude.{ℕ, ◌+◌, ◌≤◌, ◌<◌, ◌≡◌, refl, Bool, ◌&&◌, ◌||◌, eqb, ltb}
use Rattle.std.proofs.Common.{arith, ◌∙◌}
use Rattle.std.proofs.Math.Path.{ap, ap₂}
use Rattle.std.proofs.Math.Bool.{true, false, not}
use Rattle.std.proofs.lemmas.Bool.{false≢true}
use borrow.Author.Tests.{eqb-true, eq-eqb, lt-ltb, ltb-true, leb-true}
use Rattle.spec.specs.declared.Place.{Place}
use Rattle.spec.specs.Geometry.{floor}
use Rattle.spec.specs.Reading.{limit}
use Rattle.spec.specs.Place.{fits_at_tail, fits, address, with_marker, place_after}
use Rattle.spec.specs.Placed.{with_tail}
use Rattle.planning.specs.Planned.{come_round, copied_place, led_place}

abbrev pub place_of : ℕ → ℕ → ℕ → Bool → Place
place_of N h T t = record { head = h; tail = T; turned = t; length = N }

-- ---- a tail at N

abbrev at_end : Place → Bool
at_end p = not p.turned && eqb p.tail p.length && ltb 0 (floor p.head)

round_by : (p : Place) (t : Bool) → at_end p ≡ t → come_round p ≡ elim t [ true ↦ with_tail p 0 true | false ↦ p ]
unfolding come_round
round_by p t e = ap (λ (u : Bool). elim u [ true ↦ with_tail p 0 true | false ↦ p ]) e

pub round_on : (p : Place) → p.turned ≡ false → p.tail ≡ p.length → 0 < floor p.head → come_round p ≡ with_tail p 0 true
round_on p e f h = round_by p true (rw (e, eq-eqb p.tail p.length f, lt-ltb 0 (floor p.head) h))

pub round_turned : (p : Place) → p.turned ≡ true → come_round p ≡ p
round_turned p e = round_by p false (rw e)

pub round_off : (p : Place) → p.turned ≡ false → (p.tail ≡ p.length → floor p.head ≡ 0) → come_round p ≡ p
round_off p e f = go _ refl _ refl where
  go : (t : Bool) → eqb p.tail p.length ≡ t → (u : Bool) → ltb 0 (floor p.head) ≡ u → come_round p ≡ p
  go false g u h = round_by p false (rw (e, g))
  go true g false h = round_by p false (rw (e, g, h))
  go true g true h = absurd (omega (arith, ltb-true 0 (floor p.head) h, f (eqb-true p.tail p.length g)))

-- the head and the length stay
pub round_keeps : (p : Place) → ((come_round p).head ≡ p.head) × ((come_round p).length ≡ p.length)
round_keeps p = go _ refl where
  go : (t : Bool) → at_end p ≡ t
      → ((come_round p).head ≡ p.head) × ((come_round p).length ≡ p.length)
  go true e = let q = round_by p true e in (ap (λ (z : Place). z.head) q, ap (λ (z : Place). z.length) q)
  go false e = let q = round_by p false e in (ap (λ (z : Place). z.head) q, ap (λ (z : Place). z.length) q)

pub led_head : (p : Place) (y : ℕ) → (led_place p y).head ≡ y
unfolding led_place
led_head p y = (round_keeps (record { head = y; tail = p.tail; turned = p.turned && not (eqb y 0); length = p.length })).0

-- ---- where a copy goes

module _ (p : Place) (s : ℕ) where
  module _ (e : fits_at_tail p s ≡ true) where
    pub tail_address : address p s ≡ p.tail
    unfolding address
    tail_address = rw (address, e)

    pub tail_unmarked : with_marker p s ≡ false
    unfolding with_marker
    tail_unmarked = rw (with_marker, e)

    or_false : (t : Bool) → (t || false) ≡ t
    or_false true = refl
    or_false false = refl

    pub tail_after : place_after p s ≡ place_of p.length p.head (p.tail + s) p.turned
    unfolding place_after
    tail_after =
        ap₂ (λ (a : ℕ) (t : Bool). place_of p.length p.head (a + s) (p.turned || not t)) tail_address e
        ∙ ap (place_of p.length p.head (p.tail + s)) (or_false p.turned)

    pub tail_room : p.tail + s ≤ limit p
    unfolding fits_at_tail
    tail_room = leb-true (p.tail + s) (limit p) e

  module _ (e : fits_at_tail p s ≡ false) (f : fits p s ≡ true) where
    pub zero_address : address p s ≡ 0
    unfolding address
    zero_address = rw (address, e)

    pub zero_marked : p.tail < p.length → with_marker p s ≡ true
    unfolding with_marker
    zero_marked h = rw (with_marker, e, lt-ltb p.tail p.length h)

    pub zero_turned : (t : Bool) → p.turned ≡ t → (p.turned ≡ false) × (s ≤ floor p.head)
    unfolding fits
    zero_turned true q = absurd (false≢true (rw (fits, e, q) at f))
    zero_turned false q = (q, leb-true s (floor p.head) (rw (fits, e, q) at f))

    pub zero_after : place_after p s ≡ place_of p.length p.head (0 + s) true
    unfolding place_after
    zero_after =
        let t : (p.turned || not (fits_at_tail p s)) ≡ true = rw (e, (zero_turned _ refl).0) in
        ap₂ (λ (a : ℕ) (u : Bool). place_of p.length p.head (a + s) u) zero_address t

-- ---- after it

pub copied_head : (p : Place) (s : ℕ) → ((copied_place p s).head ≡ p.head) × ((copied_place p s).length ≡ p.length)
unfolding copied_place place_after
copied_head p s = round_keeps (place_after p s)

pub led_length : (p : Place) (y : ℕ) → (led_place p y).length ≡ p.length
unfolding led_place
led_length p y = (round_keeps (record { head = y; tail = p.tail; turned = p.turned && not (eqb y 0); length = p.length })).1
