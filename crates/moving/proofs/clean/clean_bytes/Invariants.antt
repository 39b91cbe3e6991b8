-- The invariant: what cleans the bytes that are left cleans all, and no byte that is left has changed.
use Prim.Native.Nat.{◌+◌, ◌-◌, ◌≤◌}
use mathlib.Core.Path.{◌≡◌}
use lib.ListN.{length}
use Rattle.moving.specs.Clean.{Cleaning}
use Rattle.moving.proofs.clean.clean_bytes.Given as goal

abbrev pub invariant-loop-i : goal.invariant-loop-i
invariant-loop-i l =
    (length l.image ≡ length l.initial.image) × (l.i ≤ l.d + 8)
    × (l.q.asked ≤ l.initial.q.asked + l.d) × (l.q.asked ≤ l.initial.q.asked + l.i)
    × Cleaning l.initial.image l.at l.d l.initial.q l.image l.q l.i

abbrev pub decreases-loop-i : goal.decreases-loop-i
decreases-loop-i l = l.d - l.i
