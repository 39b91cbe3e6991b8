-- The invariant: all up to `at` is FF, one byte for each turn.
use Prim.Native.Nat.{◌+◌, ◌-◌, ◌≤◌}
use mathlib.Core.Path.{◌≡◌}
use lib.ListN.{length, drop}
use Rattle.flash.specs.Blank.{blank_run}
use Rattle.flash.proofs.blank_bytes.Given as goal

abbrev pub invariant-loop-at : goal.invariant-loop-at
invariant-loop-at l = (l.at ≤ length l.part) × (blank_run l.part ≡ l.at + blank_run (drop l.at l.part))
    × (l.turns + l.initial.at ≡ l.initial.turns + l.at)

abbrev pub decreases-loop-at : goal.decreases-loop-at
decreases-loop-at l = length l.part - l.at
