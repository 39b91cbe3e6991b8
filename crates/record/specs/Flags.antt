-- `||` and `&&` in code, where x is the first test's answer and w the second's: the whole answer is the first's or the second's.
use Rattle.std.specs.Prelude.{◌≡◌, Bool, true, false, ◌&&◌, ◌||◌}
use Rattle.std.proofs.Common.{sym}

module _ {x y : Bool} (e : x ≡ y) where
  pub or_first : (z : Bool) → x ≡ true → x ≡ (y || z)
  or_first z t = rw (sym e, t)

  pub and_first : (z : Bool) → x ≡ false → x ≡ (y && z)
  and_first z t = rw (sym e, t)

  module _ {w z : Bool} where
    pub or_second : x ≡ false → w ≡ z → w ≡ (y || z)
    or_second t f = rw (sym e, t) f

    pub and_second : x ≡ true → w ≡ z → w ≡ (y && z)
    and_second t f = rw (sym e, t) f
