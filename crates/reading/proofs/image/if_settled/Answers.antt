-- if_settled: by its flag.
use Rattle.reading.proofs.image.if_settled.Goals as goal

pub returns-then-j : goal.returns-then-j
returns-then-j c = rw c.if-j.true

pub returns : goal.returns
returns c = rw c.if-j.false
