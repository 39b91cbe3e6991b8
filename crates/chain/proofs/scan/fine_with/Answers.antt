-- fine_with: once a name was bad the others don't matter.
use Rattle.chain.proofs.scan.fine_with.Goals as goal

pub returns-then-fine : goal.returns-then-fine
returns-then-fine c = rw c.if-fine.true c.name_fine.ensures

pub returns-else-fine : goal.returns-else-fine
returns-else-fine c = rw c.if-fine.false
