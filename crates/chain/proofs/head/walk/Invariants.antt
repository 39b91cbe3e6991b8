-- walk: the walk from here, with some fuel, ends where the walk from 0 does.
use Prim.Native.Nat.{◌-◌}
use lib.ListN.{length}
use Rattle.chain.specs.HeadLaws.{Walked}
use Rattle.chain.proofs.head.walk.Given as goal

abbrev pub invariant-loop-at : goal.invariant-loop-at
invariant-loop-at l = Walked l.image l.at

abbrev pub decreases-loop-at : goal.decreases-loop-at
decreases-loop-at l = length l.image - l.at
