-- file_named: what was passed has no such file, so the answer is about the rest.
use Rattle.chain.specs.Fold.{Folded}
use Rattle.chain.specs.FileLaws.{is_file}
use Rattle.chain.specs.Seek.{first_of}
use Rattle.spec.specs.Files.{has_name}
use Rattle.chain.specs.Cursor.{left}
use Rattle.chain.proofs.files.file_named.Given as goal

abbrev pub invariant-loop-e : goal.invariant-loop-e
invariant-loop-e l = Folded (first_of (has_name l.name) is_file) l.image l.initial.c tt l.c tt

abbrev pub decreases-loop-e : goal.decreases-loop-e
decreases-loop-e l = left l.c
