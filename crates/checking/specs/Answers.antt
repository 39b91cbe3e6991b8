-- What the check answers, under a name of its own.
use Rattle.std.specs.Prelude.{Result}
use Rattle.spec.specs.declared.Refusal.{Refusal}
use Rattle.spec.specs.declared.Verdict.{Verdict}

-- the verdict
abbrev pub Checked : Type 0
Checked = Result Verdict Refusal
