use Rattle.flash.specs.Did.{did_both}
use Rattle.laws.specs.Steps.{bytes_more, length_first}
use native.Mathlib.Omega.{arith}
use Rattle.flash.proofs.program_bytes.Goals as goal

pub program-q-requires : goal.program-q-requires
program-q-requires c =
    let a = c.args in
    omega (arith, length_first a.at c.loop-i.i a.bytes.now (omega arith))

pub loop-i-preserved : goal.loop-i-preserved
loop-i-preserved c =
    let l = c.loop-i in
    let a = c.args in (
      omega arith,
      rw (bytes_more a.at a.bytes.now l.i (omega arith))
          (did_both l.invariant.1 c.program-q.ensures),
    )
