-- The cursor at the head, and the one behind the records that repair 2 takes away.
use Rattle.std.proofs.Common.{ap}
use Rattle.chain.specs.Rest.{rest}
use Rattle.planner.specs.Mount.{drops_handed}
use Rattle.planner.proofs.superseded.hand_superseded.Goals as goal

pub behind_first-from-requires : goal.behind_first-from-requires
behind_first-from-requires c =
    rw c.first_cursor-start.ensures c.requires.0.tallied.sound

pub hand_drops-requires : goal.hand_drops-requires
hand_drops-requires c =
    let p = c.requires in
    (rw c.first_cursor-start.ensures p.0.tallied.sound, c.behind_first-from.ensures.0, p.1)

pub returns : goal.returns
returns c =
    let im = c.args.image.now in
    drops_handed (ap (λ k. (rest im k).entries) c.first_cursor-start.ensures) c.behind_first-from.ensures.1 c.leads.ensures
    c.hand_drops.ensures
