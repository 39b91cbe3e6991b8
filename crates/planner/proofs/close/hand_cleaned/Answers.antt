-- X's data by its address and length.
use Rattle.moving.specs.Clean.{cleaned_is}
use Rattle.planner.proofs.close.hand_cleaned.Goals as goal

pub returns-clause-handed : goal.returns-clause-handed
returns-clause-handed c =
    rw (cleaned_is c.args.image.now c.args.x c.requires.whole.0 c.up_8.ensures) c.hand_pairs.ensures.handed
