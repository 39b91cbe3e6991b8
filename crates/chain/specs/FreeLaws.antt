-- The free run, as the code goes through it.
use Prim.Native.Nat.{ℕ, ◌+◌, ◌-◌, ◌≤◌, ◌<◌, min}
use native.Mathlib.Omega.{arith}
use Rattle.std.specs.Prelude.{◌≡◌, Bool, true, false, List, length, take, drop}
use Rattle.std.proofs.Common.{sym, ap, ◌∙◌, length-take, drop_of_length-le}
use Rattle.spec.specs.declared.Place.{Place}
use Rattle.spec.specs.Basics.{blank}
use Rattle.spec.specs.Geometry.{floor}
use Rattle.spec.specs.Reading.{limit, blank_part, free_blank, tail_blank}
use Rattle.laws.specs.Parts.{part_window}
use Rattle.laws.specs.Length.{InRange}

-- a place of this image
pub record InImage (image : List ℕ) (p : Place) : Type 0 where
  pub head : p.head ≤ length image
  pub tail : p.tail ≤ length image
  pub whole : p.length ≡ length image
  pub small : InRange (length image)

-- the test that the head asks for
abbrev pub free_by : Bool → List ℕ → Place → Bool
free_by true image p = tail_blank image p
free_by false image p = free_blank image p

pub part_blank : (image : List ℕ) (a b : ℕ) (r : Bool) → a < b → r ≡ blank (take (b - a) (drop a image)) → r ≡ blank_part a b image
part_blank image a b r h e = e ∙ ap blank (part_window a b image (omega arith))

pub part_empty : (image : List ℕ) (a b : ℕ) → b ≤ a → true ≡ blank_part a b image
unfolding blank
part_empty image a b h =
    sym (ap blank (drop_of_length-le (take b image) {i = a} (rw length-take (omega arith))))

module _ (image : List ℕ) (p : Place) (low : ℕ) (e : low ≡ floor p.head) where
  pub free_turned : (r : Bool) → p.turned ≡ true → r ≡ blank_part p.tail low image → r ≡ free_blank image p
  unfolding free_blank
  free_turned r h q = rw (free_blank, h, ← e) q

  pub free_first : p.turned ≡ false → blank_part 0 low image ≡ false → false ≡ free_blank image p
  unfolding free_blank
  free_first h q = rw (free_blank, h, ← e, q)

  pub free_both : (r : Bool) → p.turned ≡ false → blank_part 0 low image ≡ true → r ≡ blank_part p.tail p.length image
      → r ≡ free_blank image p
  unfolding free_blank
  free_both r h q w = rw (free_blank, h, ← e, q) w

pub tail_blanks : (image : List ℕ) (p : Place) (r : Bool) → r ≡ blank_part p.tail (min (floor p.tail + 4096) (limit p)) image
    → r ≡ tail_blank image p
unfolding tail_blank
tail_blanks image p r q = q

-- the limit lies in the image
pub limit_inside : (image : List ℕ) (p : Place) (t : Bool) → InImage image p → p.turned ≡ t → limit p ≤ length image
limit_inside image p true w h = rw h (omega (arith, w.head))
limit_inside image p false w h = rw h (omega (arith, w.whole))
