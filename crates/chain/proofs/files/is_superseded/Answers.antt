-- is_superseded: only an F8 record is asked for an FC record of its name.
use Rattle.laws.specs.Flag.{flag}
use Rattle.spec.specs.Files.{superseded}
use Rattle.chain.proofs.files.is_superseded.Goals as goal

pub returns-then-named : goal.returns-then-named
unfolding superseded
returns-then-named c = rw (superseded, flag c.named.ensures c.if-named.true, c.has_named.ensures)

pub returns-else-named : goal.returns-else-named
unfolding superseded
returns-else-named c = rw (superseded, flag c.named.ensures c.if-named.false) c.if-named.false
