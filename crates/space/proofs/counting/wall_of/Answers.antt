-- All sizes less the tail are those before the turn.
use Rattle.std.proofs.Common.{arith}
use Rattle.space.specs.Space.{all_few, wall_is_counted}
use Rattle.space.proofs.counting.wall_of.Goals as goal

pub overflow_add-sums : goal.overflow_add-sums
overflow_add-sums c = omega (arith, all_few c.requires)

pub first_wall-requires : goal.first_wall-requires
first_wall-requires c =
    let p = c.requires in
    (omega (arith, p.surveyed.place.head, p.surveyed.place.small), omega (arith, all_few p))

pub returns : goal.returns
returns c =
    wall_is_counted c.requires c.saturating_sub-upper.ensures c.first_wall.ensures
