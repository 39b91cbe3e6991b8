-- gather_plain: each record that is passed is noted.
use Prim.Native.Nat.{◌≤◌}
use Rattle.chain.specs.Cursor.{CursorSound, left}
use Rattle.reading.specs.Gather.{Gathering}
use Rattle.reading.proofs.gather.gather_plain.Given as goal

abbrev pub invariant-loop-e : goal.invariant-loop-e
invariant-loop-e l =
    CursorSound l.image l.start × Gathering l.image l.start l.wanted l.g l.table × (2 ≤ l.g.tally.records)
    × (left l.g.cursor ≤ left l.initial.g.cursor)

abbrev pub decreases-loop-e : goal.decreases-loop-e
decreases-loop-e l = left l.g.cursor
