-- The answer is whether the last of the sizes has a place.
use Rattle.room.specs.Stows.{stow, has_place}
use Rattle.spec.specs.Placed.{Placed}
use mathlib.Core.Path.{ap, ◌∙◌}
use Rattle.room.proofs.has_last.Goals as goal

pub returns : goal.returns
returns c =
    let l = c.args.stowed.largest in
    let first = c.stow.ensures ∙ ap (λ (x : Placed). stow x l) c.stow_new-new.ensures in
    c.is_some.ensures ∙ ap has_place (c.stow-2.ensures ∙ ap (λ (x : Placed). stow x l) first)
