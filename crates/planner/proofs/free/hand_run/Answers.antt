-- Before the turn two stretches, after it one.
use Rattle.window.specs.Handed.{handed_both}
use Rattle.planner.specs.Repairs.{run_one, run_two}
use Rattle.planner.proofs.free.hand_run.Goals as goal

pub returns-then-p-clause-handed : goal.returns-then-p-clause-handed
returns-then-p-clause-handed c =
    let a = c.args in
    rw (run_one a.image.now a.p c.floor-low.ensures.0 c.ceiling-from.ensures.value c.if-p.true) c.hand_dirty.ensures.handed

pub returns-else-p-clause-handed : goal.returns-else-p-clause-handed
returns-else-p-clause-handed c =
    let a = c.args in
    rw (run_two a.image.now a.p c.floor-low.ensures.0 c.ceiling-from.ensures.value c.if-p.false)
    (handed_both c.hand_dirty-else-p.ensures.handed c.hand_dirty-else-p-2.ensures.handed)
