-- count_with: a file counts.
use Rattle.chain.proofs.scan.count_with.Goals as goal

pub returns-then-file : goal.returns-then-file
returns-then-file c = rw c.if-file.true
