-- search: the search from here, with some fuel, finds what the search from the start does.
use Prim.Native.Nat.{◌+◌, ◌-◌}
use lib.ListN.{length}
use Rattle.chain.specs.HeadLaws.{Sought}
use Rattle.chain.proofs.head.search.Given as goal

abbrev pub invariant-loop-at : goal.invariant-loop-at
invariant-loop-at l = Sought l.image l.from l.at

abbrev pub decreases-loop-at : goal.decreases-loop-at
decreases-loop-at l = length l.image + 8 - l.at
