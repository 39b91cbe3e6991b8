-- By the wall.
use Rattle.std.proofs.Common.{arith}
use Rattle.space.specs.Space.{lost_walled, lost_open}
use Rattle.space.proofs.counting.lost_bytes.Goals as goal

pub returns-then-wall-p : goal.returns-then-wall-p
returns-then-wall-p c =
    (rw (c.saturating_sub.ensures, c.floor.ensures.0) (lost_walled c.args.p c.args.wall c.if-wall-p.true), omega arith)

pub returns : goal.returns
returns c =
    (rw c.floor.ensures.0 (lost_open c.args.p c.args.wall c.if-wall-p.false), omega arith)
