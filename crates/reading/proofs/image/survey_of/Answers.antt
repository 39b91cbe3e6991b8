-- survey_of: by how the chain ends.
use mathlib.Core.Path.{sym, ap, ◌∙◌}
use Rattle.reading.specs.Survey.{survey_of}
use Rattle.reading.proofs.image.survey_of.Goals as goal

pub returns-in-Record : goal.returns-in-Record
returns-in-Record c =
    let a = c.args in c.told.ensures
    ∙ ap (λ s. survey_of a.n a.h s a.t) (sym c.in-Record.is)

pub returns-in-End : goal.returns-in-End
returns-in-End c =
    let a = c.args in
    c.told-in-End.ensures ∙ ap (λ s. survey_of a.n a.h s a.t) (sym c.in-End.is)

pub returns-in-TornWrap : goal.returns-in-TornWrap
returns-in-TornWrap c =
    let a = c.args in
    c.told-in-TornWrap.ensures ∙ ap (λ s. survey_of a.n a.h s a.t) (sym c.in-TornWrap.is)

pub returns-in-Broken : goal.returns-in-Broken
returns-in-Broken c =
    let a = c.args in
    c.told-in-Broken.ensures ∙ ap (λ s. survey_of a.n a.h s a.t) (sym c.in-Broken.is)
