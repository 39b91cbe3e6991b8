-- overview: the pass found the definitions' entries and how the chain ends, and what the names tell.
use mathlib.Core.Path.{ap, ◌∙◌}
use Rattle.chain.specs.declared.Cursor.{Cursor}
use Rattle.chain.specs.Rest.{rest}
use Rattle.chain.specs.Repeats.{repeats_of}
use Rattle.reading.specs.Survey.{first_sound, seen}
use Rattle.reading.proofs.image.overview.Goals as goal

pub gather-all-requires : goal.gather-all-requires
gather-all-requires c =
    let p = c.requires in
    (rw c.first_cursor.ensures (first_sound c.args.image.now c.args.h p.0 p.1.1), p.1.0)

pub returns : goal.returns
returns c =
    let a = c.args in
    let e = c.gather-all.ensures in
    let q = c.first_cursor.ensures in (
      rw c.survey_of.ensures
          (seen a.image.now a.h c.requires.0 c.requires.1.1 c.gather-all.result.pass (rw q at e.0) e.1 e.2),
      e.3 ∙ ap (λ (k : Cursor). repeats_of (rest a.image.now k).entries) q,
      rw q at e.4,
    )
