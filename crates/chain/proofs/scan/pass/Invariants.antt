-- pass: the tally so far, gone on with over the rest, is the tally of all; the records are fewer than the bytes, so the count can't wrap.
use Rattle.chain.specs.Cursor.{left}
use Rattle.chain.specs.Tally.{Passing}
use Rattle.chain.proofs.scan.pass.Given as goal

abbrev pub invariant-loop-e : goal.invariant-loop-e
invariant-loop-e l = Passing l.image l.start l.g.cursor l.g.tally

abbrev pub decreases-loop-e : goal.decreases-loop-e
decreases-loop-e l = left l.g.cursor
