-- The repairs in their order, as the first reading plans them.
use Rattle.window.specs.Handed.{handed_both}
use Rattle.planner.specs.Mount.{mend_is}
use Rattle.planner.proofs.mount.hand_mend.Goals as goal

pub returns : goal.returns
returns c =
    let p = c.requires in
    rw (← mend_is p.surveyed.0 p.s_value) (handed_both c.hand_head.ensures.handed c.hand_rest.ensures)
