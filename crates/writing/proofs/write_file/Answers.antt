-- A size that fits is placed, so that the other answer can't come; then the phases one after another.
use Rattle.writing.specs.Put.{never_full, spot, marker_spot, prepare_few, put_phases}
use Rattle.writing.specs.Old.{old_entry}
use Rattle.writing.specs.WriteSteps.{record_count}
use mathlib.Core.Path.{sym, ◌∙◌}
use native.Mathlib.Omega.{arith}
use Rattle.writing.proofs.write_file.Goals as goal

pub returns-in_default : goal.returns-in_default
returns-in_default c =
    absurd (never_full c.args.place _ c.requires.ready.taken
    (rw c.size.ensures at (sym c.after.ensures ∙ c.in_default.is)))

pub prepare-a-requires-clause-tail_in_bounds : goal.prepare-a-requires-clause-tail_in_bounds
prepare-a-requires-clause-tail_in_bounds c k =
    let e = rw c.size.ensures at (sym c.after.ensures ∙ c.in-Some.is) in
    omega (arith, marker_spot c.args.place _ _ _ _ _ _ _ c.requires.ready e k)

pub write_record-b-requires-clause-content_in_bounds : goal.write_record-b-requires-clause-content_in_bounds
write_record-b-requires-clause-content_in_bounds c =
    let e = rw c.size.ensures at (sym c.after.ensures ∙ c.in-Some.is) in
    omega (arith, spot c.args.place _ _ _ _ _ _ _ c.requires.ready e)

pub delete-requires-clause-can_count : goal.delete-requires-clause-can_count
delete-requires-clause-can_count c =
    let a = c.args in
    omega (
      arith,
      prepare_few a.old c.in-Some.field-0.marker a.place.tail,
      record_count c.in-Some.field-0.at a.name.now a.content.now,
    )

pub returns : goal.returns
returns c =
    let a = c.args in
    put_phases a.place (old_entry a.old) a.name.now a.content.now _ _ _
    (rw c.size.ensures at (sym c.after.ensures ∙ c.in-Some.is))
    c.prepare-a.ensures c.write_record-b.ensures c.delete.ensures
