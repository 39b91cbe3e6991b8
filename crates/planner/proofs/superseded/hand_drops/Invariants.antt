-- The invariant: whatever hands out the records that are left hands out all.
use Rattle.std.proofs.Common.{◌+◌, ◌≤◌}
use Rattle.chain.specs.Cursor.{CursorSound, left}
use Rattle.chain.specs.Rest.{rest}
use Rattle.recovery.specs.Drop.{dropped}
use Rattle.window.specs.Handed.{Leads}
use Rattle.planner.proofs.superseded.hand_drops.Given as goal

abbrev pub invariant-loop-spot : goal.invariant-loop-spot
invariant-loop-spot l =
    CursorSound l.image l.c × (l.out.passed + left l.c ≤ l.initial.out.passed + left l.initial.c)
    × Leads l.initial.out (dropped (rest l.image l.start).entries (rest l.image l.initial.c).entries)
    l.out (dropped (rest l.image l.start).entries (rest l.image l.c).entries)

abbrev pub decreases-loop-spot : goal.decreases-loop-spot
decreases-loop-spot l = left l.c
