-- One repair after the other.
use Rattle.window.specs.Handed.{handed_both}
use Rattle.planner.proofs.mount.hand_head.Goals as goal

pub returns-clause-handed : goal.returns-clause-handed
returns-clause-handed c = handed_both c.hand_free.ensures.handed c.hand_finish.ensures.handed
