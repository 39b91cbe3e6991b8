-- The place that is read on, case by case.
use Rattle.std.specs.Prelude.{ℕ, ◌≤◌, ◌<◌, ◌≡◌, refl, Bool, ◌&&◌, eqb, ltb}
use Rattle.std.proofs.Math.Path.{ap}
use Rattle.std.proofs.Common.{◌∙◌, eq-eqb, ne_eqb, lt-ltb, le-ltb}
use Rattle.std.proofs.Math.Bool.{true, false, not, and-true, and-false}
use Rattle.spec.specs.declared.Place.{Place}
use Rattle.spec.specs.Geometry.{floor}
use Rattle.spec.specs.Placed.{with_tail}
use Rattle.planning.specs.Planned.{come_round, led_place}

-- p with another head
abbrev pub with_head : Place → ℕ → Bool → Place
with_head p h turned = record { head = h; tail = p.tail; turned = turned; length = p.length }

module _ (p : Place) where
  -- by the test
  round_by : (t : Bool) → not p.turned && eqb p.tail p.length && ltb 0 (floor p.head) ≡ t
      → come_round p ≡ elim t as (λ u. Place) [ true ↦ with_tail p 0 true | false ↦ p ]
  unfolding come_round
  round_by t e = ap (λ (u : Bool). elim u as (λ v. Place) [ true ↦ with_tail p 0 true | false ↦ p ]) e

  pub round_turned : p.turned ≡ true → come_round p ≡ p
  round_turned t = round_by false (ap (λ (u : Bool). not u && eqb p.tail p.length && ltb 0 (floor p.head)) t)

  module _ (t : p.turned ≡ false) where
    told : {a b : Bool} → eqb p.tail p.length ≡ a → ltb 0 (floor p.head) ≡ b
        → not p.turned && eqb p.tail p.length && ltb 0 (floor p.head) ≡ a && b
    told e f = λ i. not (t i) && e i && f i

    pub round_on : p.tail ≡ p.length → 0 < floor p.head → come_round p ≡ with_tail p 0 true
    round_on e f = round_by true (told (eq-eqb p.tail p.length e) (lt-ltb 0 (floor p.head) f))

    pub round_low : p.tail ≡ p.length → floor p.head ≤ 0 → come_round p ≡ p
    round_low e f = round_by false (told (eq-eqb p.tail p.length e) (le-ltb 0 (floor p.head) f))

    pub round_short : (p.tail ≡ p.length → ⊥) → come_round p ≡ p
    round_short e = round_by false (told (ne_eqb p.tail p.length e) refl)

-- where the head goes on to y, which lies behind a turn only if it is not 0
module _ (p : Place) (y : ℕ) where
  pub led_zero : y ≡ 0 → led_place p y ≡ come_round (with_head p y false)
  unfolding led_place
  led_zero h = ap (λ (t : Bool). come_round (with_head p y t))
      (ap (λ (t : Bool). p.turned && not t) (eq-eqb y 0 h) ∙ and-false p.turned)

  pub led_other : (y ≡ 0 → ⊥) → led_place p y ≡ come_round (with_head p y p.turned)
  unfolding led_place
  led_other h = ap (λ (t : Bool). come_round (with_head p y t))
      (ap (λ (t : Bool). p.turned && not t) (ne_eqb y 0 h) ∙ and-true p.turned)
