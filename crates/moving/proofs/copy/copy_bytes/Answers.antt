use Rattle.moving.specs.Untouched.{length_part}
use Rattle.moving.specs.Copied.{copy_more}
use mathlib.Core.Path.{◌≡◌}
use lib.ListN.{length, take, drop}
use lib.Seq.{length-take-le}
use Rattle.laws.specs.Steps.{length_bytes}
use native.Mathlib.Omega.{arith}
use Rattle.moving.proofs.copy.copy_bytes.Goals as goal

pub program-q-requires : goal.program-q-requires
program-q-requires c =
    let a = c.args in
    let i = c.loop-i.i in
    let w = take a.n (drop a.from a.image.now) in
    let l : length w ≡ a.n = length_part a.from a.n a.image.now (omega arith) in
    omega (arith, length_bytes a.to (take i w), length-take-le i w (omega arith))

pub loop-i-preserved : goal.loop-i-preserved
loop-i-preserved c =
    let a = c.args in (
      omega arith,
      omega arith,
      copy_more a.from a.to a.n c.loop-i.i c.requires.n_in_bounds.2 (omega arith) (omega arith) c.loop-i.invariant.2 c.program-q.ensures,
    )
