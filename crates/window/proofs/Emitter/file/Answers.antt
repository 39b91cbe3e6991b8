-- A size that fits is placed;
-- then what goes before the record, and the rest.
use Rattle.std.proofs.Common.{arith, sym, ap, ◌∙◌, ◌^◌, is_some}
use Rattle.spec.specs.Placed.{placed}
use Rattle.writing.specs.Placing.{placed_fits}
use Rattle.writing.specs.Put.{spot, marker_spot, put_split}
use Rattle.writing.specs.Old.{old_entry}
use Rattle.window.specs.Handed.{handed_both}
use Rattle.window.specs.File.{lies_below}
use Rattle.window.proofs.Emitter.file.Goals as goal

pub unwrap-at-requires : goal.unwrap-at-requires
unwrap-at-requires c =
    ap is_some (c.after.ensures ∙ ap (placed c.args.place) c.size.ensures) ∙ placed_fits c.args.place _ ∙ c.requires.ready.taken

pub prepare-requires-clause-lies : goal.prepare-requires-clause-lies
prepare-requires-clause-lies c =
    let a = c.args in
    let r = c.requires.ready in
    let e = rw c.size.ensures at (sym c.after.ensures ∙ c.unwrap-at.ensures) in
    let short = r.sound.short in
    (lies_below a.old a.place.length (2 ^ 24) c.requires.lies short, λ k. omega (arith, marker_spot a.place _ _ _ _ _ _ _ r e k, short))

pub new_record-requires-clause-lies : goal.new_record-requires-clause-lies
new_record-requires-clause-lies c =
    let a = c.args in
    let r = c.requires.ready in
    let e = rw c.size.ensures at (sym c.after.ensures ∙ c.unwrap-at.ensures) in
    let inside = spot a.place _ _ _ _ _ _ _ r e in
    let short = r.sound.short in
    (lies_below a.old a.place.length (2 ^ 24) c.requires.lies short, omega (arith, inside, short), r.named, omega (arith, inside, short))

pub returns : goal.returns
returns c =
    let a = c.args in
    let e = rw c.size.ensures at (sym c.after.ensures ∙ c.unwrap-at.ensures) in
    rw (put_split a.place (old_entry a.old) a.name.now a.content.now _ _ _ e)
    (handed_both c.prepare.ensures c.new_record.ensures)
