-- record_of: too short for a header; else its size tells.
use Rattle.laws.specs.Next.{record_at_none}
use Rattle.record.proofs.record_of.Goals as goal

pub returns-then-part-lt8 : goal.returns-then-part-lt8
returns-then-part-lt8 c = (record_at_none c.args.reserved c.args.part.now c.if-part-lt8.true, tt)
