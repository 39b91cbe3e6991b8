-- As write_file; what is done before the copy leaves the head's name and data as they were.
use Rattle.moving.specs.Copy.{copy_apart, copy_count, copy_phases}
use Rattle.writing.specs.Answers.{old_at}
use Rattle.writing.specs.Put.{never_full, spot, marker_spot, prepare_few}
use Rattle.writing.specs.Placing.{placed_parts}
use Rattle.spec.specs.Record.{size_of}
use mathlib.Core.Path.{sym, ◌∙◌}
use native.Mathlib.Omega.{arith}
use Rattle.moving.proofs.copy.copy_head.Goals as goal

pub returns-in_default : goal.returns-in_default
returns-in_default c =
    absurd (never_full c.args.place _ c.requires.ready.taken
    (rw c.size.ensures at (sym c.after.ensures ∙ c.in_default.is)))

pub prepare-a-requires-clause-tail_in_bounds : goal.prepare-a-requires-clause-tail_in_bounds
prepare-a-requires-clause-tail_in_bounds c k =
    let e = rw c.size.ensures at (sym c.after.ensures ∙ c.in-Some.is) in
    omega (arith, marker_spot c.args.place _ _ _ _ _ _ _ c.requires.ready e k)

pub copy_record-b-requires-clause-copyable : goal.copy_record-b-requires-clause-copyable
copy_record-b-requires-clause-copyable c =
    let p = c.args.place in
    let r = c.requires.ready in
    let z = size_of c.args.n c.args.d in
    let e = rw c.size.ensures at (sym c.after.ensures ∙ c.in-Some.is) in
    let apart = rw (placed_parts p z _ _ _ e).1 at (copy_apart p z c.requires.head_ends r.taken) in
    (r.named, omega (arith, r.whole), omega (arith, spot p _ _ _ _ _ _ _ r e), apart)

pub delete-requires-clause-can_count : goal.delete-requires-clause-can_count
delete-requires-clause-can_count c =
    let a = c.args in
    omega (
      arith,
      prepare_few (old_at a.place.head c.from_byte.result) c.in-Some.field-0.marker a.place.tail,
      copy_count c.prepare-a.new.image c.in-Some.field-0.at a.place.head a.n a.d (omega (arith, c.requires.ready.whole)),
    )

pub returns : goal.returns
returns c =
    let a = c.args in
    let r = c.requires.ready in
    copy_phases a.place a.n a.d _ _ _ c.requires.head_ends r.whole r.taken
    (rw c.size.ensures at (sym c.after.ensures ∙ c.in-Some.is)) c.from_byte.result c.from_byte.ensures
    c.prepare-a.ensures c.copy_record-b.ensures c.delete.ensures
