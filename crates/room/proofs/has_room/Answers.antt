-- Content longer than the image fits nowhere, and a record that has no place ends the rule; else it is decided behind the last file.
use Rattle.std.specs.Prelude.{Some}
use Rattle.chain.specs.declared.Cursor.{Cursor}
use Rattle.room.specs.declared.Stowed.{Stowed}
use Rattle.chain.specs.Rest.{rest}
use Rattle.room.specs.Stows.{placed_address}
use Rattle.room.specs.Room.{others, stow_files, room_long, room_full, room_found}
use Rattle.spec.specs.Placed.{placed}
use native.Mathlib.Omega.{arith}
use mathlib.Core.Path.{sym, ap, ◌∙◌}
use Rattle.room.proofs.has_room.Goals as goal

pub returns-then-place-d : goal.returns-then-place-d
returns-then-place-d c =
    room_long c.args.s.place _ _ _ c.args.image.now c.requires.0.surveyed.place (omega arith)

pub returns-in_default : goal.returns-in_default
returns-in_default c =
    let a = c.args in
    room_full a.s.place _ _ _
    (sym (c.after-first.ensures ∙ ap (placed a.s.place) c.size-new.ensures)
    ∙ c.in_default.is)

pub stow_chain-stowed-requires : goal.stow_chain-stowed-requires
stow_chain-stowed-requires c =
    rw c.first_cursor.ensures c.requires.0.surveyed.tallied.sound

pub has_last-requires : goal.has_last-requires
has_last-requires c =
    placed_address _ _ _ (sym c.after-first.ensures ∙ c.in-Some.is)

pub returns : goal.returns
returns c =
    let a = c.args in
    let first : Stowed = record { placed = Some c.in-Some.x; largest = c.size-new.result } in
    let from : Cursor → Stowed = λ (k : Cursor). stow_files a.s.place first (others a.name.now (rest a.image.now k).entries) in
    let walked = c.stow_chain-stowed.ensures ∙ ap from c.first_cursor.ensures in
    room_found a.s.place _ _ _ c.requires.0.quiet _ _ _ _ c.size-new.ensures (sym c.in-Some.is ∙ c.after-first.ensures) walked
    c.has_last.ensures
