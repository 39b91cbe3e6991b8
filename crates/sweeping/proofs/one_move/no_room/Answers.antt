-- The plan stops for want of room exactly where the definition says so.
use mathlib.Core.Path.{◌∙◌}
use Rattle.sweeping.specs.Planned.{full_is}
use Rattle.sweeping.proofs.Others.{not_full}
use Rattle.sweeping.proofs.one_move.no_room.Goals as goal

pub returns-in_default : goal.returns-in_default
returns-in_default c =
    not_full c.plan.result c.in_default.not-Stop ∙ full_is c.args.image.now c.args.place c.plan.result c.plan.ensures
