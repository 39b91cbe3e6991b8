-- The invariant: what the moves that are left do, done from here, is what all of them do from the first image.
use Prim.Native.Nat.{◌-◌, min}
use mathlib.Core.Path.{◌≡◌}
use lib.ListN.{length}
use Rattle.sweeping.specs.Sweeping.{Sweeping}
use Rattle.sweeping.proofs.sweep.sweep.Given as goal

abbrev pub invariant-loop-n : goal.invariant-loop-n
invariant-loop-n l =
    (length l.image ≡ length l.initial.image)
    × Sweeping l.initial.image l.initial.q (min 5 l.records) l.initial.p.head l.image l.q (l.most - l.n) l.p l.n
