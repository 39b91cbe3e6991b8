-- The invariant: what drops the superseded records that are left drops all; the chain is as it was but for the status of those passed.
use Prim.Native.Nat.{◌+◌, ◌≤◌}
use mathlib.Core.Path.{◌≡◌}
use lib.ListN.{length}
use Rattle.chain.specs.Cursor.{CursorSound, left}
use Rattle.recovery.specs.Drop.{Dropping}
use Rattle.recovery.proofs.superseded.drop_superseded.Given as goal

abbrev pub invariant-loop-spot : goal.invariant-loop-spot
invariant-loop-spot l =
    (length l.image ≡ length l.initial.image) × CursorSound l.image l.c × (l.q.asked + left l.c ≤ l.initial.q.asked + left l.start)
    × Dropping l.initial.image l.start l.initial.q l.image l.c l.q

abbrev pub decreases-loop-spot : goal.decreases-loop-spot
decreases-loop-spot l = left l.c
