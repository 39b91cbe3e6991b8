-- nothing_yet: the tally of no records.
use Rattle.reading.proofs.gather.nothing_yet.Goals as goal

pub returns : goal.returns
returns c = rw (c.none_yet.ensures, c.not_seen.ensures)
