-- The invariant: whatever hands out what is left of the data hands out all.
use Rattle.std.proofs.Common.{◌+◌, ◌-◌, ◌≤◌}
use Rattle.planner.specs.Close.{Pairs}
use Rattle.planner.proofs.close.hand_pairs.Given as goal

abbrev pub invariant-loop-i : goal.invariant-loop-i
invariant-loop-i l =
    (l.i ≤ l.d + 8) × (l.out.passed ≤ l.initial.out.passed + l.d) × (l.out.passed ≤ l.initial.out.passed + l.i)
    × Pairs l.initial.out l.image l.at l.d l.out l.i

abbrev pub decreases-loop-i : goal.decreases-loop-i
decreases-loop-i l = l.d - l.i
