-- Where a size is placed: the limit as a number, the test by a difference, the place that is left.
use Rattle.std.specs.Prelude.{ℕ, ◌+◌, ◌≤◌, ◌<◌, ◌≡◌, Bool, true, false, ◌||◌, not, leb}
use Prim.Native.Nat.{◌-◌}
use Rattle.spec.specs.declared.Place.{Place}
use Rattle.spec.specs.Reading.{limit}
use Rattle.spec.specs.Place.{fits_at_tail, address, place_after}
use Rattle.spec.specs.Placed.{with_tail}
use mathlib.Core.Path.{refl, sym, ap₂}
use native.Mathlib.Omega.{arith}
use borrow.Author.Tests.{leb-true, leb-false, le-leb, lt-leb}

-- the limit is a number of the machine, as the head and the length are
pub limit_below : (p : Place) (b : ℕ) → p.head < b → p.length < b → limit p < b
limit_below p b h l = go p.turned refl where
  go : (u : Bool) → p.turned ≡ u → limit p < b
  go true e = rw e (omega arith)
  go false e = rw e l

-- the test by a difference
pub tail_test : (p : Place) (s : ℕ) → p.tail ≤ limit p → leb s (limit p - p.tail) ≡ fits_at_tail p s
unfolding fits_at_tail
tail_test p s h = go (leb s (limit p - p.tail)) refl where
  go : (t : Bool) → leb s (limit p - p.tail) ≡ t → t ≡ leb (p.tail + s) (limit p)
  go true e = sym (le-leb (p.tail + s) (limit p) (omega (arith, leb-true s (limit p - p.tail) e)))
  go false e = sym (lt-leb (p.tail + s) (limit p) (omega (arith, leb-false s (limit p - p.tail) e)))

pub after_as : (p : Place) (s a : ℕ) (t : Bool) → fits_at_tail p s ≡ t → address p s ≡ a
    → place_after p s ≡ with_tail p (a + s) (p.turned || not t)
unfolding place_after
after_as p s a t e ea = ap₂ (λ (n : ℕ) (b : Bool). with_tail p (n + s) (p.turned || not b)) ea e
