-- The invariant: what erases the sectors that are left erases all, and those are as they were at entry.
use mathlib.Core.Path.{◌≡◌}
use Rattle.spec.specs.Basics.{keep}
use Rattle.spec.specs.Mount.{dirty}
use Prim.Native.Nat.{◌+◌, ◌-◌, ◌≤◌, ◌^◌}
use mathlib.Core.List.{map}
use lib.ListN.{length, drop}
use Rattle.spec.specs.Step.{erase}
use Rattle.spec.specs.Geometry.{sectors}
use Rattle.flash.specs.Toward.{Toward}
use Rattle.recovery.proofs.sectors.erase_dirty.Given as goal

abbrev pub invariant-loop-a : goal.invariant-loop-a
invariant-loop-a l =
    (length l.image ≡ length l.initial.image) × (l.a ≤ 2 ^ 24) × (l.q.asked ≤ l.initial.q.asked + l.to) × (l.q.asked + l.from ≤ l.initial.q.asked + l.a)
    × (drop l.a l.image ≡ drop l.a l.initial.image) × (drop l.to l.image ≡ drop l.to l.initial.image)
    × Toward l.initial.image l.initial.q (map erase (keep (dirty l.initial.image) (sectors l.from l.to))) l.image l.q (map erase (keep (dirty l.initial.image) (sectors l.a l.to)))

abbrev pub decreases-loop-a : goal.decreases-loop-a
decreases-loop-a l = l.to - l.a
