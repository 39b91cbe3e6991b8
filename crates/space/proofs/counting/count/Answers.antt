-- The tally has both.
use Rattle.std.proofs.Common.{arith}
use Rattle.space.specs.Space.{all_few, live_is_counted}
use Rattle.space.proofs.counting.count.Goals as goal

pub returns : goal.returns
returns c =
    let p = c.requires in
    record { live_is = live_is_counted p.0 p.1; wall_is = c.wall_of.ensures; few = omega (arith, all_few p.0) }
