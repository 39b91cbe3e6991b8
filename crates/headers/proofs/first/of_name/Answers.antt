use Rattle.laws.specs.Flag.{flag}
use Rattle.spec.specs.Length.{of_name}
use Rattle.headers.proofs.first.of_name.Goals as goal

pub returns-then-named : goal.returns-then-named
unfolding of_name
returns-then-named c = rw (of_name, flag c.named.ensures c.if-named.true, c.has_name.ensures)

pub returns-else-named : goal.returns-else-named
unfolding of_name
returns-else-named c = rw (of_name, flag c.named.ensures c.if-named.false) c.if-named.false
