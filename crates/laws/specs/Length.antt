-- The lengths that the code works with, and what a good length gives.
use Rattle.std.specs.Prelude.{ℕ, ◌%◌, ◌≤◌, ◌<◌, ◌^◌, ◌≡◌, true, ◌&&◌, length, leb, eqb}
use Rattle.std.proofs.Common.{eqb-true, leb-true}
use Rattle.spec.specs.Step.{Image}
use Rattle.spec.specs.Geometry.{good_length}
use Rattle.laws.specs.Tests.{and_left, and_right}

-- an address or a length of the largest image at most
abbrev pub InRange : ℕ → Type 0
InRange n = n ≤ 2 ^ 24

-- a number to which an address or a length can be added
abbrev pub Addable : ℕ → Type 0
Addable n = n < 2 ^ 32

-- an image with two boundaries at least, in range: good or not, its chain can be read
abbrev pub Workable : Image → Type 0
Workable s = (16 ≤ length s) × InRange (length s)

pub record Good (n : ℕ) : Type 0 where
  pub sectors : n % 4096 ≡ 0
  pub two : 8192 ≤ n
  pub most : InRange n

pub good : (n : ℕ) → good_length n ≡ true → Good n
unfolding good_length
good n h =
    let a : (eqb (n % 4096) 0 && leb 8192 n) ≡ true = and_left (eqb (n % 4096) 0 && leb 8192 n) (leb n 16777216) h in
    record {
      sectors = eqb-true (n % 4096) 0 (and_left (eqb (n % 4096) 0) (leb 8192 n) a);
      two = leb-true 8192 n (and_right (eqb (n % 4096) 0) (leb 8192 n) a);
      most = leb-true n 16777216 (and_right (eqb (n % 4096) 0 && leb 8192 n) (leb n 16777216) h);
    }
