-- torn_end: the one test is the definition's.
use borrow.Author.Tests.{lt-ltb, le-ltb}
use Rattle.chain.specs.Cursor.{torn_end}
use Rattle.chain.proofs.walk.torn_end.Goals as goal

pub returns-then-c-gt0 : goal.returns-then-c-gt0
unfolding torn_end
returns-then-c-gt0 c = rw (torn_end, lt-ltb 0 _ c.if-c-gt0.true)

pub returns : goal.returns
unfolding torn_end
returns c = rw (torn_end, le-ltb 0 _ c.if-c-gt0.false)
