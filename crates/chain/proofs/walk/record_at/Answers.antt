-- record_at: the size and the status are those the callees give.
use Rattle.chain.proofs.walk.record_at.Goals as goal

pub returns : goal.returns
returns c = rw (c.size.ensures, c.unfinished.ensures)
