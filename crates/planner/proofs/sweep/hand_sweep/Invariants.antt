-- The invariant: whatever hands out the moves that are left hands out all.
use Rattle.std.proofs.Common.{◌-◌}
use Rattle.chain.specs.Rest.{rest}
use Rattle.planner.specs.Moves.{moves_left}
use Rattle.planner.specs.Sweep.{Walking}
use Rattle.planner.proofs.sweep.hand_sweep.Given as goal

abbrev pub invariant-loop-n : goal.invariant-loop-n
invariant-loop-n l =
    Walking l.image (rest l.image l.start).entries (moves_left l.image l.most (rest l.image l.start).entries l.initial.v)
    l.initial.out l.out (l.most - l.n) l.n l.v
