-- earlier_with: each status by itself.
use Rattle.chain.proofs.names.earlier_with.Goals as goal

pub returns : goal.returns
returns c = rw (c.earlier_or.ensures, c.earlier_or-2.ensures)
