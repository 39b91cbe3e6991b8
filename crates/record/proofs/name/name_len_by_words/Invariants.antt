-- name_len_by_words: a word without a 00 is passed, and one with a 00 has the end.
use Prim.Native.Nat.{◌-◌, ◌≤◌}
use mathlib.Core.Bool.{false}
use lib.ListN.{length}
use Rattle.record.specs.NameWords.{Passed}
use Rattle.record.proofs.name.name_len_by_words.Given as goal

abbrev pub invariant-loop-i : goal.invariant-loop-i
invariant-loop-i l = (l.limit ≤ length l.part) × (l.limit ≤ 64) × (l.i ≤ l.limit) × Passed false l.part l.i

abbrev pub decreases-loop-i : goal.decreases-loop-i
decreases-loop-i l = 64 - l.i
