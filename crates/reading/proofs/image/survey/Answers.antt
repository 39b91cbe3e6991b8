-- survey: the pass found the definitions' entries and how the chain ends, and nothing is judged.
use Rattle.reading.specs.Survey.{first_sound, seen}
use Rattle.reading.proofs.image.survey.Goals as goal

pub pass-p-requires : goal.pass-p-requires
pass-p-requires c =
    let a = c.args in (
      rw c.first_cursor.ensures (first_sound a.image.now a.h c.requires.0 c.requires.1.1),
      c.requires.1.0,
    )

pub returns : goal.returns
returns c =
    let a = c.args in
    rw c.survey_of.ensures
    (seen a.image.now a.h c.requires.0 c.requires.1.1 c.pass-p.result
    (rw c.first_cursor.ensures at c.pass-p.ensures.0)
    c.pass-p.ensures.1 c.pass-p.ensures.2)
