-- clean_magic: the two bytes one after the other.
use Rattle.laws.specs.Flag.{flag}
use Rattle.spec.specs.Bytes.{is_high}
use Rattle.chain.proofs.head.clean_magic.Goals as goal

pub returns-then-is_clean : goal.returns-then-is_clean
unfolding is_high
returns-then-is_clean c = rw (
  ← c.byte.ensures,
  flag c.is_clean.ensures
      c.if-is_clean.true,
  c.byte-then-is_clean.ensures,
)

pub returns-else-is_clean : goal.returns-else-is_clean
unfolding is_high
returns-else-is_clean c = rw (← c.byte.ensures, flag c.is_clean.ensures c.if-is_clean.false) c.if-is_clean.false
