use Rattle.std.proofs.Common.{arith, ap, ◌+◌}
use Rattle.laws.specs.Sectors.{sectors_none}
use Rattle.recovery.specs.DirtySectors.{dirty_erased}
use Rattle.window.specs.Handed.{leads_more, leads_end}
use Rattle.planner.specs.Repairs.{dirty_next}
use Rattle.planner.proofs.free.hand_dirty.Goals as goal

pub loop-a-preserved : goal.loop-a-preserved
loop-a-preserved c =
    let l = c.loop-a in (
      omega arith,
      omega arith,
      omega arith,
      leads_more l.invariant.3 (dirty_next c.args.image.now l.a c.args.to (omega arith)) c.hand_if_dirty.ensures.handed,
    )

pub returns-clause-handed : goal.returns-clause-handed
returns-clause-handed c =
    let l = c.loop-a in
    let a = c.args in
    leads_end l.invariant.3 (ap (dirty_erased a.image.now) (sectors_none l.a a.to (omega arith)))

-- the last sector is done: the loop adds no more to the address
pub returns-2-clause-handed : goal.returns-2-clause-handed
returns-2-clause-handed c =
    let l = c.loop-a in
    let a = c.args in
    leads_end (leads_more l.invariant.3 (dirty_next a.image.now l.a a.to (omega arith)) c.hand_if_dirty.ensures.handed)
    (ap (dirty_erased a.image.now) (sectors_none (l.a + 4096) a.to (omega arith)))
