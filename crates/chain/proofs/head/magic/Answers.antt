-- magic: the two bytes one after the other.
use borrow.Author.Tests.{eq-eqb, ne_eqb}
use Rattle.laws.specs.Flag.{flag, unflag}
use Rattle.chain.proofs.head.magic.Goals as goal

pub returns-then-byte-low : goal.returns-then-byte-low
returns-then-byte-low c = search (eq-eqb, ne_eqb, flag c.byte.ensures c.if-byte-low.true, c.byte-then-byte-low.ensures)

pub returns-else-byte-low : goal.returns-else-byte-low
returns-else-byte-low c = search (eq-eqb, ne_eqb, unflag c.byte.ensures c.if-byte-low.false, c.if-byte-low.false)
