-- The invariant: whatever hands out the sectors that are left hands out all.
use Rattle.std.proofs.Common.{◌+◌, ◌-◌, ◌≤◌, ◌^◌}
use Rattle.spec.specs.Geometry.{sectors}
use Rattle.recovery.specs.DirtySectors.{dirty_erased}
use Rattle.window.specs.Handed.{Leads}
use Rattle.planner.proofs.free.hand_dirty.Given as goal

abbrev pub invariant-loop-a : goal.invariant-loop-a
invariant-loop-a l =
    (l.a ≤ 2 ^ 24) × (l.out.passed ≤ l.initial.out.passed + l.to) × (l.out.passed + l.from ≤ l.initial.out.passed + l.a)
    × Leads l.initial.out (dirty_erased l.image (sectors l.from l.to)) l.out (dirty_erased l.image (sectors l.a l.to))

abbrev pub decreases-loop-a : goal.decreases-loop-a
decreases-loop-a l = l.to - l.a
