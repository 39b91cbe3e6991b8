-- What was placed is an address with the place behind it, or nothing; the next size goes there, or has no place either.
use Rattle.room.specs.Stows.{stow_behind, stow_nowhere}
use mathlib.Core.Path.{◌∙◌}
use Rattle.room.proofs.stow.Goals as goal

pub returns-in_err-placed : goal.returns-in_err-placed
returns-in_err-placed c = rw c.from_residual.ensures (stow_nowhere c.args.placed c.args.size c.in_err-placed.was)

pub returns : goal.returns
returns c = c.after.ensures ∙ stow_behind _ _ _ c.in_ok-placed.was
