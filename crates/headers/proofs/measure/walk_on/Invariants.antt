use Rattle.chain.specs.Cursor.{left}
use Rattle.headers.specs.Walk.{Walking}
use Rattle.headers.proofs.measure.walk_on.Given as goal

abbrev pub invariant-loop-e : goal.invariant-loop-e
invariant-loop-e l = Walking l.name l.image l.initial.c l.initial.x l.c l.x

abbrev pub decreases-loop-e : goal.decreases-loop-e
decreases-loop-e l = left l.c
