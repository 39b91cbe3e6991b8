-- earlier_or: once it was found the others don't matter.
use Rattle.chain.proofs.names.earlier_or.Goals as goal

pub returns-else-found : goal.returns-else-found
returns-else-found c = rw c.if-found.false c.named_as.ensures
