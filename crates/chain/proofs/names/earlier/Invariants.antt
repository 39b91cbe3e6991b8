-- earlier: what was found among the records passed and what is to be found among those left is the answer of all.
use Rattle.chain.specs.Cursor.{left as left_of}
use Rattle.chain.specs.Rest.{entry_of}
use Rattle.chain.specs.Fold.{Folded}
use Rattle.chain.specs.Prefix.{earlier_in}
use Rattle.chain.proofs.names.earlier.Given as goal

abbrev pub invariant-loop-e : goal.invariant-loop-e
invariant-loop-e l =
    Folded (earlier_in (entry_of l.image l.e)) l.image l.initial.c (record { found = l.initial.f; left = l.initial.left }) l.c (record { found = l.f; left = l.left })

abbrev pub decreases-loop-e : goal.decreases-loop-e
decreases-loop-e l = left_of l.c
