use Rattle.std.proofs.Common.{arith, ◌+◌}
use Rattle.planner.specs.Close.{pairs_start, pairs_more, pairs_end}
use Rattle.planner.proofs.close.hand_pairs.Goals as goal

pub loop-i-init : goal.loop-i-init
loop-i-init c =
    let a = c.args in
    (omega arith, omega arith, omega arith, pairs_start a.image.now a.at a.d c.requires.d_in_bounds.0 a.out.now)

pub loop-i-preserved : goal.loop-i-preserved
loop-i-preserved c =
    let a = c.args in
    let l = c.loop-i in
    let h = c.hand_pair.ensures in (
      omega arith,
      omega (arith, h.passed_bound),
      omega (arith, h.passed_bound),
      pairs_more a.image.now a.at a.d c.requires.d_in_bounds.0 l.i l.invariant.3 (omega arith) h.handed,
    )

pub returns-clause-handed : goal.returns-clause-handed
returns-clause-handed c =
    let a = c.args in
    pairs_end a.image.now a.at a.d c.requires.d_in_bounds.0 c.loop-i.i c.loop-i.invariant.3 (omega arith)

-- the last pair is done: the loop adds no more to the address
pub returns-2-clause-handed : goal.returns-2-clause-handed
returns-2-clause-handed c =
    let a = c.args in
    let l = c.loop-i in
    let r = c.requires.d_in_bounds.0 in
    let more = pairs_more a.image.now a.at a.d r l.i l.invariant.3 (omega arith) c.hand_pair.ensures.handed in
    pairs_end a.image.now a.at a.d r (l.i + 8) more (omega arith)
