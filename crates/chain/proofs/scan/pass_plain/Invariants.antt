-- pass_plain: each record that is passed is noted. What goes on from the first cursor goes on from any start that led there.
use Prim.Native.Nat.{◌≤◌}
use Rattle.chain.specs.declared.Cursor.{Cursor}
use Rattle.chain.specs.Cursor.{CursorSound, left}
use Rattle.chain.specs.Tally.{Passing}
use Rattle.chain.proofs.scan.pass_plain.Given as goal

abbrev pub invariant-loop-e : goal.invariant-loop-e
invariant-loop-e l =
    ((start : Cursor) → CursorSound l.image start → Passing l.image start l.initial.g.cursor l.initial.g.tally
    → Passing l.image start l.g.cursor l.g.tally)
    × (2 ≤ l.g.tally.records) × (left l.g.cursor ≤ left l.initial.g.cursor)

abbrev pub decreases-loop-e : goal.decreases-loop-e
decreases-loop-e l = left l.g.cursor
