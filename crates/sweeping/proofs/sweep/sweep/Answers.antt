use Prim.Native.Nat.{◌+◌, ◌-◌}
use mathlib.Core.Path.{◌≡◌}
use native.Mathlib.Omega.{arith}
use Rattle.sweeping.specs.Sweeping.{sweeping_end, sweeping_stuck, sweeping_cut, sweeping_more}
use Rattle.sweeping.proofs.sweep.sweep.Goals as goal

pub returns-in-Stuck : goal.returns-in-Stuck
returns-in-Stuck c = sweeping_stuck c.loop-n.invariant.1 c.in-Stuck.ensures

pub returns-in-Cut : goal.returns-in-Cut
returns-in-Cut c =
    sweeping_cut c.loop-n.invariant.1 (c.at_most-most.result - (c.loop-n.n + 1)) (omega arith) c.in-Cut.ensures

pub loop-n-preserved : goal.loop-n-preserved
loop-n-preserved c = (
  omega arith,
  sweeping_more c.loop-n.invariant.1 (c.at_most-most.result - (c.loop-n.n + 1)) (omega arith) c.in-Done.ensures,
)

pub returns : goal.returns
returns c =
    let all : c.loop-n.n ≡ c.at_most-most.result = omega arith in
    rw all at (sweeping_end c.loop-n.invariant.1 (omega arith))
