-- marked: the first byte is one of the two.
use borrow.Author.Tests.{eq-eqb, ne_eqb}
use Rattle.spec.specs.Bytes.{is_start}
use Rattle.chain.proofs.scan.marked.Goals as goal

pub returns-then-low-eq-START : goal.returns-then-low-eq-START
unfolding is_start
returns-then-low-eq-START c = rw (← c.low_of-low.ensures, eq-eqb _ 0 c.if-low-eq-START.true)

pub returns-else-low-eq-START : goal.returns-else-low-eq-START
unfolding is_start
returns-else-low-eq-START c = rw (← c.low_of-low.ensures, ne_eqb _ 0 c.if-low-eq-START.false) c.is_clean.ensures
