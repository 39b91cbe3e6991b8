-- skip_files: `more` files are still to be passed among the rest.
use Prim.Native.Nat.{◌≤◌}
use Rattle.chain.specs.Cursor.{left}
use Rattle.chain.specs.Fold.{Folded}
use Rattle.chain.specs.FileLaws.{is_file}
use Rattle.chain.specs.Seek.{nth_of}
use Rattle.chain.proofs.skip.skip_files.Given as goal

abbrev pub invariant-loop-e : goal.invariant-loop-e
invariant-loop-e l = Folded (nth_of is_file) l.image l.initial.c l.initial.more l.c l.more × (left l.c ≤ left l.initial.c)

abbrev pub decreases-loop-e : goal.decreases-loop-e
decreases-loop-e l = left l.c
