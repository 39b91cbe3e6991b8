-- skip_others: each record that is passed is another.
use Rattle.chain.specs.Cursor.{left as left_of}
use Rattle.chain.specs.Skip.{SkipsOthers}
use Rattle.chain.proofs.skip.skip_others.Given as goal

abbrev pub invariant-loop-left : goal.invariant-loop-left
invariant-loop-left l = SkipsOthers l.image l.initial.c l.name l.most l.c l.left

abbrev pub decreases-loop-left : goal.decreases-loop-left
decreases-loop-left l = left_of l.c
