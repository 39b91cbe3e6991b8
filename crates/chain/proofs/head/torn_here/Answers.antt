-- torn_here: the status, then the first two bytes.
use borrow.Author.Tests.{eq-eqb, ne_eqb}
use Rattle.laws.specs.Flag.{flag, unflag}
use Rattle.spec.specs.Bytes.{is_erased}
use Rattle.chain.proofs.head.torn_here.Goals as goal

pub returns-then-byte : goal.returns-then-byte
unfolding is_erased
returns-then-byte c =
    rw (
      eq-eqb _ _ (flag c.byte.ensures c.if-byte.true),
      ← c.byte-then-byte.ensures,
      ← c.byte-then-byte-2.ensures,
    )
    c.is_torn.ensures

pub returns-else-byte : goal.returns-else-byte
unfolding is_erased
returns-else-byte c = rw (ne_eqb _ _ (unflag c.byte.ensures c.if-byte.false)) (ne_eqb _ _ c.if-byte.false)
