-- called: what was passed has no such record, so the answer is about the rest; each turn drops one record of the rest.
use Rattle.chain.specs.Fold.{Folded}
use Rattle.chain.specs.Seek.{any_of}
use Rattle.checking.specs.Called.{is_called}
use Rattle.chain.specs.Cursor.{left}
use Rattle.checking.proofs.called.called.Given as goal

abbrev pub invariant-loop-spot : goal.invariant-loop-spot
invariant-loop-spot l = Folded (any_of (is_called l.status.byte l.name)) l.image l.initial.c tt l.c tt

abbrev pub decreases-loop-spot : goal.decreases-loop-spot
decreases-loop-spot l = left l.c
