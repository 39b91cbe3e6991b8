use Rattle.chain.specs.Cursor.{left}
use Rattle.checking.specs.Records.{all_of}
use Rattle.checking.specs.Following.{Going}
use Rattle.checking.proofs.records.chain_fault.Given as goal

abbrev pub invariant-loop-spot : goal.invariant-loop-spot
invariant-loop-spot l = Going l.image l.start l.ending (all_of l.image l.start l.cut) l.c l.count

abbrev pub decreases-loop-spot : goal.decreases-loop-spot
decreases-loop-spot l = left l.c
