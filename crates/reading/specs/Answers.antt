-- What a reading answers, under names of their own.
use Rattle.std.specs.Prelude.{Result}
use Rattle.spec.specs.declared.Refusal.{Refusal}
use Rattle.reading.specs.declared.Survey.{Survey}
use Rattle.reading.specs.declared.Judged.{Judged}
use Rattle.reading.specs.declared.NamedSurvey.{NamedSurvey}

-- what an image reads as
abbrev pub Read : Type 0
Read = Result Survey Refusal

-- the same, with whether it is settled, and the file of a hash
abbrev pub Judgement : Type 0
Judgement = Result Judged Refusal

-- the same as Read, with the file of a name
abbrev pub NamedRead : Type 0
NamedRead = Result NamedSurvey Refusal
