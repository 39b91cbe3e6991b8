-- A record that is no file, or is replaced, changes nothing; another counts by its size.
use Rattle.room.specs.Room.{stow_no_file, stow_replaced, stow_by}
use Rattle.laws.specs.Flag.{flag}
use mathlib.Core.Path.{◌∙◌}
use Rattle.room.proofs.stow_record.Goals as goal

pub returns-then-has_name : goal.returns-then-has_name
returns-then-has_name c =
    stow_replaced _ _ _ _ (flag c.is_file.ensures c.if-is_file.true)
    (flag c.has_name.ensures c.if-has_name.true)

pub returns-then-is_file : goal.returns-then-is_file
returns-then-is_file c =
    let a = c.args in
    c.stow_file.ensures
    ∙ stow_by a.place a.name.now a.image.now a.e a.stowed _ c.requires.0 c.size.ensures
    (flag c.is_file.ensures c.if-is_file.true) (flag c.has_name.ensures c.if-has_name.false)

pub returns : goal.returns
returns c = stow_no_file _ _ _ _ (flag c.is_file.ensures c.if-is_file.false)
