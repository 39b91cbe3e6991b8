-- What all files make of the first state is what the rest makes of the state so far.
use Rattle.chain.specs.Fold.{Folded}
use Rattle.room.specs.Room.{stow_of}
use Rattle.chain.specs.Cursor.{left}
use Rattle.room.proofs.stow_chain.Given as goal

abbrev pub invariant-loop-e : goal.invariant-loop-e
invariant-loop-e l = Folded (stow_of l.place l.name) l.image l.initial.c l.initial.stowed l.c l.stowed

abbrev pub decreases-loop-e : goal.decreases-loop-e
decreases-loop-e l = left l.c
