-- The invariant: whatever hands out the sectors that are left hands out all.
use Rattle.std.proofs.Common.{◌+◌, ◌-◌, ◌≤◌, ◌^◌, map}
use Rattle.spec.specs.Step.{erase}
use Rattle.spec.specs.Geometry.{sectors}
use Rattle.window.specs.Handed.{Leads}
use Rattle.window.proofs.Emitter.erase_sectors.Given as goal

abbrev pub invariant-loop-a : goal.invariant-loop-a
invariant-loop-a l =
    (l.a ≤ 2 ^ 24) × (l.self.passed ≤ l.initial.self.passed + l.to) × (l.self.passed + l.from ≤ l.initial.self.passed + l.a)
    × Leads l.initial.self (map erase (sectors l.from l.to)) l.self (map erase (sectors l.a l.to))

abbrev pub decreases-loop-a : goal.decreases-loop-a
decreases-loop-a l = l.to - l.a
