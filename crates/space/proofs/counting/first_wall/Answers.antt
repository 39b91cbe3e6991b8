-- By the turn.
use Rattle.space.specs.Space.{first_turned, first_straight}
use Rattle.space.proofs.counting.first_wall.Goals as goal

pub returns-then-p : goal.returns-then-p
returns-then-p c = first_turned c.args.p c.args.upper c.if-p.true

pub returns-else-p : goal.returns-else-p
returns-else-p c = first_straight c.args.p c.args.upper c.if-p.false
