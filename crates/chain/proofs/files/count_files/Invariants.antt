-- count_files: the count so far and the live files of the rest make the whole; there are fewer records than bytes, so no sum wraps.
use Rattle.chain.specs.Seek.{Counted}
use Rattle.spec.specs.Files.{live}
use Rattle.chain.specs.Rest.{rest}
use Rattle.chain.specs.Cursor.{left}
use Rattle.chain.proofs.files.count_files.Given as goal

abbrev pub invariant-loop-e : goal.invariant-loop-e
invariant-loop-e l = Counted (live (rest l.image l.start).entries) l.image l.start l.c l.count

abbrev pub decreases-loop-e : goal.decreases-loop-e
decreases-loop-e l = left l.c
