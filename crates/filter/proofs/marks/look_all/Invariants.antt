-- look_all: what was seen of the bytes before the word, and of those from there on.
use Prim.Native.Nat.{◌+◌, ◌*◌, ◌%◌}
use lib.ListN.{length, take}
use Rattle.filter.specs.Marks.{LookedAt}
use Rattle.filter.proofs.marks.look_all.Given as goal

abbrev pub invariant-loop-word : goal.invariant-loop-word
invariant-loop-word l = let s = take l.n l.part in LookedAt s (length s % 8 + l.word-index * 8) l.x
