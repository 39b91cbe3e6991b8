-- record_magic: the two bytes one after the other.
use Rattle.laws.specs.Flag.{flag}
use Rattle.spec.specs.Bytes.{is_high}
use Rattle.chain.proofs.head.record_magic.Goals as goal

pub returns-then-is_record : goal.returns-then-is_record
unfolding is_high
returns-then-is_record c = rw (
  ← c.byte.ensures,
  flag c.is_record.ensures
      c.if-is_record.true,
  c.byte-then-is_record.ensures,
)

pub returns-else-is_record : goal.returns-else-is_record
unfolding is_high
returns-else-is_record c = rw (← c.byte.ensures, flag c.is_record.ensures c.if-is_record.false) c.if-is_record.false
