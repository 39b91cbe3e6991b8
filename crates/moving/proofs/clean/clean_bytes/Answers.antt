use native.Mathlib.Omega.{arith}
use Rattle.moving.specs.Clean.{cleaning_more, cleaning_end}
use Rattle.moving.proofs.clean.clean_bytes.Goals as goal

pub loop-i-preserved : goal.loop-i-preserved
loop-i-preserved c =
    let more = cleaning_more c.loop-i.invariant.4 (omega arith) (omega arith) c.clean_pair-q.ensures.fact in
    (omega arith, omega arith, omega arith, omega arith, more)

pub returns-clause-fact : goal.returns-clause-fact
returns-clause-fact c = cleaning_end c.loop-i.invariant.4 (omega arith) (omega arith)

-- the last pair is done: the loop adds no more to the address
pub returns-2-clause-fact : goal.returns-2-clause-fact
returns-2-clause-fact c =
    let more = cleaning_more c.loop-i.invariant.4 (omega arith) (omega arith) c.clean_pair-q.ensures.fact in
    cleaning_end more (omega arith) (omega arith)
