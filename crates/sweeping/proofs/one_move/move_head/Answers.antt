-- A copy that was cut is the beginning of the move; after a whole one the image still reads from the same head.
use native.Mathlib.Omega.{arith}
use Rattle.sweeping.specs.WholeMove.{moved_cut, moved_over}
use Rattle.sweeping.proofs.one_move.move_head.Goals as goal

pub returns-then-a : goal.returns-then-a
returns-then-a c =
    moved_cut c.requires.place_of.led c.copy-a.ensures.fact c.copy-a.ensures.asked_most c.if-a.true

pub returns : goal.returns
returns c =
    moved_over c.requires.place_of.led c.copy-a.ensures.fact c.copy-a.ensures.asked_most c.if-a.false (omega arith)
    c.hand_over.ensures
