use Rattle.spec.specs.Bytes.{is_start}
use Rattle.headers.proofs.stands.right_mark.Goals as goal

pub returns-then-first : goal.returns-then-first
unfolding is_start
returns-then-first c = rw c.if-first.true

pub returns : goal.returns
returns c = rw c.if-first.false c.is_record.ensures
