-- The last record is the one that the tally names.
use Rattle.std.proofs.Common.{arith}
use Rattle.recovery.specs.Last.{none_counted, last_counted}
use Rattle.window.specs.Handed.{handed_none}
use Rattle.planner.proofs.last.hand_counted.Goals as goal

pub returns-then-s-gt0-clause-handed : goal.returns-then-s-gt0-clause-handed
returns-then-s-gt0-clause-handed c =
    rw (last_counted c.requires.0.tallied (λ e. omega arith)) c.hand_void.ensures.handed

pub returns-else-s-gt0-clause-handed : goal.returns-else-s-gt0-clause-handed
returns-else-s-gt0-clause-handed c =
    rw (none_counted c.requires.0.tallied (omega arith)) (handed_none c.args.out.now)
