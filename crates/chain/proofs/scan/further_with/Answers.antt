-- further_with: only a record behind the second one can count.
use borrow.Author.Tests.{lt-ltb, le-ltb}
use Rattle.chain.proofs.scan.further_with.Goals as goal

pub returns-then-further : goal.returns-then-further
returns-then-further c = rw c.if-further.true

pub returns-then-records-gt1 : goal.returns-then-records-gt1
returns-then-records-gt1 c = rw (c.if-further.false, lt-ltb 1 _ c.if-records-gt1.true) c.marked.ensures

pub returns-else-records-gt1 : goal.returns-else-records-gt1
returns-else-records-gt1 c = rw (c.if-further.false, le-ltb 1 _ c.if-records-gt1.false)
