-- gather: a record of any kind, and the plain ones behind it; at the end all are gathered.
use Rattle.chain.specs.Cursor.{left}
use Rattle.reading.specs.Gather.{Gathering}
use Rattle.reading.proofs.gather.gather.Given as goal

abbrev pub invariant-loop-e : goal.invariant-loop-e
invariant-loop-e l = Gathering l.image l.start l.wanted l.g l.table

abbrev pub decreases-loop-e : goal.decreases-loop-e
decreases-loop-e l = left l.g.cursor
