-- Each of the four by its formula.
use Rattle.space.specs.Space.{filled_as}
use Rattle.space.proofs.counting.filled.Goals as goal

pub returns : goal.returns
returns c =
    filled_as c.args.p c.args.wall c.free_bytes-free.ensures.0 c.lost_bytes-lost.ensures.0 c.saturating_sub.ensures
