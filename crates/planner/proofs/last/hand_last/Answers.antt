-- The last record, then the torn wrap.
use Rattle.window.specs.Handed.{handed_both}
use Rattle.planner.proofs.last.hand_last.Goals as goal

pub returns-clause-handed : goal.returns-clause-handed
returns-clause-handed c = handed_both c.hand_counted.ensures.handed c.hand_wrap.ensures.handed
