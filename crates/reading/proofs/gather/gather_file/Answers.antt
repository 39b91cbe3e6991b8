-- gather_file: the name is noted by its hash, the record as one behind the second; what was seen stays.
use mathlib.Core.Path.{refl, ap, ◌∙◌}
use Rattle.chain.specs.Tally.{addable_size}
use Rattle.filter.specs.Table.{signature_by}
use Rattle.reading.specs.Gather.{gathering_file}
use native.Mathlib.Omega.{arith}
use Rattle.reading.proofs.gather.gather_file.Goals as goal

pub signature_by-s-requires : goal.signature_by-s-requires
signature_by-s-requires c = c.requires.4

pub repeats_signed-requires : goal.repeats_signed-requires
repeats_signed-requires c =
    let p = c.requires in
    let s = c.signature_by-s.ensures in (
      p.0,
      p.1.passes.whole,
      p.1.state.carried,
      record { file = p.2.file; bits = s.0 ∙ ap signature_by p.3; inside = s.1 },
    )

pub noted_plain-requires : goal.noted_plain-requires
noted_plain-requires c =
    let p = c.requires in
    let w = p.1.state.passing in
    (omega (arith, w.few, p.0.inside, p.0.room, p.0.small), w.files, addable_size p.0 w p.1.passes)

pub returns : goal.returns
returns c =
    let p = c.requires in
    let g =
    gathering_file p.1 p.2.two p.2.unmarked p.2.file p.2.fine p.5 c.noted_plain.ensures
    c.repeats_signed.ensures in
    (g.0, refl, g.1)
