-- walk_plain: a plain record is one that the walk steps over.
use Prim.Native.Nat.{◌-◌, ◌≤◌}
use lib.ListN.{length}
use Rattle.chain.specs.HeadLaws.{Walked}
use Rattle.chain.proofs.head.walk_plain.Given as goal

abbrev pub invariant-loop-n : goal.invariant-loop-n
invariant-loop-n l = Walked l.image l.at × (l.from ≤ l.at)

abbrev pub decreases-loop-n : goal.decreases-loop-n
decreases-loop-n l = length l.image - l.at
