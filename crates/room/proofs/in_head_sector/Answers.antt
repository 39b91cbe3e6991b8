-- Both sides are the definition's, by what floor ensures.
use Rattle.spec.specs.Place.{in_head_sector}
use Rattle.room.proofs.in_head_sector.Goals as goal

pub returns : goal.returns
unfolding in_head_sector
returns c = rw (c.floor.ensures.0, c.floor-2.ensures.0)
