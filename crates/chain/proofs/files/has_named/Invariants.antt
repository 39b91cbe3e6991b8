-- has_named: what was passed has no such record, so the answer is about the rest; each turn drops one record of the rest.
use Rattle.chain.specs.Fold.{Folded}
use Rattle.chain.specs.Seek.{any_of}
use Rattle.spec.specs.Files.{named_as}
use Rattle.chain.specs.Rest.{entry_of}
use Rattle.chain.specs.Cursor.{left}
use Rattle.chain.proofs.files.has_named.Given as goal

abbrev pub invariant-loop-f : goal.invariant-loop-f
invariant-loop-f l = Folded (any_of (named_as l.status.byte (entry_of l.image l.e))) l.image l.initial.c tt l.c tt

abbrev pub decreases-loop-f : goal.decreases-loop-f
decreases-loop-f l = left l.c
