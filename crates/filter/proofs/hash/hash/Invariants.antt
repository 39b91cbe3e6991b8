-- hash: the hash of the bytes so far, gone on with over the words that are left, is that of all.
use Prim.Native.Nat.{◌+◌, ◌*◌, ◌%◌}
use lib.ListN.{length}
use Rattle.filter.specs.Hash.{Hashed}
use Rattle.filter.proofs.hash.hash.Given as goal

abbrev pub invariant-loop-word : goal.invariant-loop-word
invariant-loop-word l = Hashed l.name (length l.name % 8 + l.word-index * 8) l.h
