-- By the turn.
use Rattle.std.proofs.Common.{arith, ◌∙◌}
use Rattle.space.specs.Space.{free_turned, free_straight}
use Rattle.space.proofs.counting.free_bytes.Goals as goal

pub returns-then-p : goal.returns-then-p
returns-then-p c =
    (rw c.floor-low.ensures.0 at c.saturating_sub.ensures ∙ free_turned c.args.p c.if-p.true, omega arith)

pub returns-else-p : goal.returns-else-p
returns-else-p c =
    (rw (c.saturating_sub-else-p.ensures, c.floor-low.ensures.0) (free_straight c.args.p c.if-p.false), omega arith)
