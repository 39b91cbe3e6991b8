-- X's sector is not erased, or is.
use Rattle.std.proofs.Common.{append-nil}
use Rattle.spec.specs.Move.{start_steps}
use Rattle.window.specs.Handed.{handed_both}
use Rattle.planner.specs.Close.{standing, forget_none, forget_this}
use Rattle.planner.proofs.close.hand_over.Goals as goal

pub returns-then-to-floor-clause-handed : goal.returns-then-to-floor-clause-handed
returns-then-to-floor-clause-handed c =
    let a = c.args in
    rw (forget_this (standing a.x) {to = a.to} c.floor.ensures.0 c.if-to-floor.true)
    (handed_both c.hand_start.ensures.handed c.program.ensures)

pub returns-else-to-floor-clause-handed : goal.returns-else-to-floor-clause-handed
returns-else-to-floor-clause-handed c =
    let a = c.args in
    rw (forget_none (standing a.x) {to = a.to} c.floor.ensures.0 c.if-to-floor.false, append-nil (start_steps a.y a.low))
    c.hand_start.ensures.handed
