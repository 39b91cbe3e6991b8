-- The invariant: all up to `at` is FF, eight bytes for each turn.
use Prim.Native.Nat.{◌+◌, ◌-◌, ◌≤◌, ◌*◌, ◌%◌}
use mathlib.Core.Path.{◌≡◌}
use lib.ListN.{length, drop}
use Rattle.flash.specs.Blank.{blank_run}
use Rattle.flash.proofs.blank_words.Given as goal

abbrev pub invariant-loop-at : goal.invariant-loop-at
invariant-loop-at l =
    (l.at ≤ length l.part) × (l.initial.at ≤ l.at) × (l.at % 8 ≡ 0)
    × (blank_run l.part ≡ l.at + blank_run (drop l.at l.part)) × (l.words * 8 + l.initial.at ≡ l.initial.words * 8 + l.at)

abbrev pub decreases-loop-at : goal.decreases-loop-at
decreases-loop-at l = length l.part - l.at
