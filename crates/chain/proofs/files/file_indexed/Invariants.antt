-- file_indexed: `left` files are still to be passed among the rest.
use Rattle.chain.specs.Fold.{Folded}
use Rattle.chain.specs.FileLaws.{is_file}
use Rattle.chain.specs.Seek.{nth_of}
use Rattle.chain.specs.Cursor.{left as left_of}
use Rattle.chain.proofs.files.file_indexed.Given as goal

abbrev pub invariant-loop-e : goal.invariant-loop-e
invariant-loop-e l = Folded (nth_of is_file) l.image l.initial.c l.initial.left l.c l.left

abbrev pub decreases-loop-e : goal.decreases-loop-e
decreases-loop-e l = left_of l.c
