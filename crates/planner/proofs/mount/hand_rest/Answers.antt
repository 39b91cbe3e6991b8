-- One repair after the other.
use Rattle.window.specs.Handed.{handed_both}
use Rattle.planner.proofs.mount.hand_rest.Goals as goal

pub returns : goal.returns
returns c = handed_both c.hand_last.ensures.handed c.hand_superseded.ensures
