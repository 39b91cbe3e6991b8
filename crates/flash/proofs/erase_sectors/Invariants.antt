-- The invariant: what erases the sectors that are left erases all.
use mathlib.Core.Path.{◌≡◌}
use Prim.Native.Nat.{◌+◌, ◌-◌, ◌≤◌, ◌^◌}
use mathlib.Core.List.{map}
use lib.ListN.{length}
use Rattle.spec.specs.Step.{erase}
use Rattle.spec.specs.Geometry.{sectors}
use Rattle.flash.specs.Toward.{Toward}
use Rattle.flash.proofs.erase_sectors.Given as goal

abbrev pub invariant-loop-a : goal.invariant-loop-a
invariant-loop-a l =
    (length l.image ≡ length l.initial.image) × (l.a ≤ 2 ^ 24) × (l.q.asked ≤ l.initial.q.asked + l.to)
    × (l.q.asked + l.from ≤ l.initial.q.asked + l.a)
    × Toward l.initial.image l.initial.q (map erase (sectors l.from l.to)) l.image l.q (map erase (sectors l.a l.to))

abbrev pub decreases-loop-a : goal.decreases-loop-a
decreases-loop-a l = l.to - l.a
