-- No room; or the copy, and then the rest.
use Rattle.std.proofs.Common.{sym, ◌∙◌, length}
use Rattle.spec.specs.Record.{size_of}
use Rattle.writing.specs.Placing.{placed_parts, placed_full}
use Rattle.planner.specs.Moves.{first_below, copy_inside, copy_walkable}
use Rattle.space.specs.Strides.{live_stop, live_on}
use Rattle.space.proofs.stride.stride_live.Goals as goal

pub returns-in_err-copied : goal.returns-in_err-copied
returns-in_err-copied c =
    let a = c.args in
    let p = c.requires.cursor_sound in
    let e = rw c.size.ensures at (sym c.after.ensures ∙ c.in_err-copied.was) in
    rw c.from_residual.ensures
    (live_stop a.image.now a.x a.past a.place a.copy a.wall p.1 p.3 (placed_full a.place (size_of a.x.n a.x.d) e))

pub stride_over-requires : goal.stride_over-requires
stride_over-requires c =
    let a = c.args in
    let i = a.image.now in
    let p = c.requires.cursor_sound in
    let at = c.in_ok-copied.copied.at in
    let parts = placed_parts a.place (size_of a.x.n a.x.d) _ _ _ (rw c.size.ensures at (sym c.after.ensures ∙ c.in_ok-copied.was)) in (
      p.0,
      rw c.first_of.ensures
          (first_below a.copy at (length i) p.2 (copy_inside i a.x a.past a.place a.copy p.1 p.3 parts.0 at parts.1 _ parts.3)),
      rw c.come_round.ensures (copy_walkable i a.x a.past a.place a.copy p.1 p.3 parts.0 at parts.1 _ parts.3),
    )

pub returns : goal.returns
returns c =
    let a = c.args in
    let p = c.requires.cursor_sound in
    let parts = placed_parts a.place (size_of a.x.n a.x.d) _ _ _ (rw c.size.ensures at (sym c.after.ensures ∙ c.in_ok-copied.was)) in
    live_on a.image.now a.x a.past a.place a.copy a.wall p.1 p.3 _ _ _ c.stride_over.result parts.0 parts.1 parts.2 parts.3
    (rw (c.come_round.ensures, c.first_of.ensures, c.put_wall.ensures) at c.stride_over.ensures)
