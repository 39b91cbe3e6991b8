-- The two arms are the two cases of joining.
use Rattle.room.specs.Room.{new_placed, new_elsewhere}
use Rattle.laws.specs.Flag.{flag}
use mathlib.Core.Path.{◌∙◌}
use Rattle.room.proofs.stow_new.Goals as goal

pub returns-then-in_head_sector : goal.returns-then-in_head_sector
returns-then-in_head_sector c =
    let a = c.args in
    c.stow.ensures
    ∙ new_placed a.place a.at a.size a.placed c.requires
    (flag c.in_head_sector.ensures c.if-in_head_sector.true)

pub returns : goal.returns
returns c =
    let a = c.args in
    new_elsewhere a.place a.at a.size a.placed c.requires
    (flag c.in_head_sector.ensures c.if-in_head_sector.false)
