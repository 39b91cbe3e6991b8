-- first_cursor: the callees' results, put together.
use Rattle.reading.proofs.image.first_cursor.Goals as goal

pub returns : goal.returns
returns c = rw (c.start_at.ensures, c.floor.ensures.0)
