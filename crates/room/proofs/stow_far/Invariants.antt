-- stow_far: a record outside the head's sector moves the largest size alone.
use Prim.Native.Nat.{◌≤◌}
use Rattle.chain.specs.Cursor.{left}
use Rattle.chain.specs.Fold.{Folded}
use Rattle.room.specs.Room.{stow_of}
use Rattle.room.proofs.stow_far.Given as goal

abbrev pub invariant-loop-e : goal.invariant-loop-e
invariant-loop-e l =
    Folded (stow_of l.place l.name) l.image l.initial.c l.first l.c (record { placed = l.first.placed; largest = l.largest }) × (left l.c ≤ left l.initial.c)

abbrev pub decreases-loop-e : goal.decreases-loop-e
decreases-loop-e l = left l.c
