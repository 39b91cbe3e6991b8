-- The name's end, then the status.
use Rattle.recovery.specs.Last.{reserved_is}
use Rattle.window.specs.Handed.{handed_both}
use Rattle.planner.proofs.last.hand_reserved.Goals as goal

pub returns-clause-handed : goal.returns-clause-handed
returns-clause-handed c =
    rw (reserved_is c.args.image.now c.args.e c.requires.0)
    (handed_both c.hand_missing.ensures.handed c.hand_void_status.ensures)
