-- No room; or the copy, and then the rest.
use Rattle.std.proofs.Common.{sym, ◌∙◌, length}
use Rattle.spec.specs.Record.{size_of}
use Rattle.writing.specs.Placing.{placed_parts, placed_full}
use Rattle.planner.specs.Moves.{first_below, live_full, copy_inside, copy_walkable, live_over}
use Rattle.planner.proofs.sweep.hand_live.Goals as goal

pub returns-in_err-copied : goal.returns-in_err-copied
returns-in_err-copied c =
    let a = c.args in
    let p = c.requires.cursor_sound in
    let e = rw c.size.ensures at (sym c.after.ensures ∙ c.in_err-copied.was) in
    rw c.from_residual.ensures
    (live_full a.image.now a.x a.past a.place a.copy p.1 p.3 a.out.now (placed_full a.place (size_of a.x.n a.x.d) e))

pub hand_copy-requires-clause-whole : goal.hand_copy-requires-clause-whole
hand_copy-requires-clause-whole c =
    let a = c.args in
    let p = c.requires.cursor_sound in
    let parts = placed_parts a.place (size_of a.x.n a.x.d) _ _ _ (rw c.size.ensures at (sym c.after.ensures ∙ c.in_ok-copied.was)) in
    (p.1, c.requires.name_length.0, p.3, parts.0)

pub hand_over-requires-clause-cursor_sound : goal.hand_over-requires-clause-cursor_sound
hand_over-requires-clause-cursor_sound c =
    let a = c.args in
    let i = a.image.now in
    let p = c.requires.cursor_sound in
    let at = c.in_ok-copied.copied.at in
    let parts = placed_parts a.place (size_of a.x.n a.x.d) _ _ _ (rw c.size.ensures at (sym c.after.ensures ∙ c.in_ok-copied.was)) in (
      p.0,
      p.1,
      rw c.first_of.ensures
          (first_below a.copy at (length i) p.2 (copy_inside i a.x a.past a.place a.copy p.1 p.3 parts.0 at parts.1 _ parts.3)),
      rw c.come_round.ensures (copy_walkable i a.x a.past a.place a.copy p.1 p.3 parts.0 at parts.1 _ parts.3),
    )

pub returns : goal.returns
returns c =
    let a = c.args in
    let p = c.requires.cursor_sound in
    let parts = placed_parts a.place (size_of a.x.n a.x.d) _ _ _ (rw c.size.ensures at (sym c.after.ensures ∙ c.in_ok-copied.was)) in
    live_over a.image.now a.x a.past a.place a.copy p.1 p.3 parts.0 c.in_ok-copied.copied.at parts.1 _ parts.3 a.out.now _ _
    c.hand_over.result c.hand_copy.ensures.fact c.hand_copy.ensures.passed_bound_2
    (rw (c.come_round.ensures, c.first_of.ensures) at c.hand_over.ensures)
