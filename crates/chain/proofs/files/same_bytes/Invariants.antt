-- same_bytes: the slices are the same if they are from here on.
use mathlib.Core.Path.{◌≡◌}
use lib.ListN.{drop}
use Rattle.spec.specs.Basics.{same}
use Rattle.chain.proofs.files.same_bytes.Given as goal

abbrev pub invariant-loop-i : goal.invariant-loop-i
invariant-loop-i l = same l.x l.y ≡ same (drop l.i l.x) (drop l.i l.y)
