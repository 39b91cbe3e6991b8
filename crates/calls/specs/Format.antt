-- Format, which checks the length and nothing else.
use Rattle.std.specs.Prelude.{ℕ, ◌≡◌, true, false, length}
use Rattle.spec.specs.Step.{Image}
use Rattle.spec.specs.Basics.{give, numbered}
use Rattle.spec.specs.Geometry.{good_length}
use Rattle.spec.specs.Write.{format_steps}
use Rattle.spec.specs.Numbers.{outcome_of, refusal}
use Rattle.spec.specs.Answers.{carry_out, doing, format_plan, format}

pub format_bad : (s : Image) (k : ℕ) → good_length (length s) ≡ false → outcome_of (refusal (numbered 22)) s ≡ format s k
unfolding format_plan carry_out
format_bad s k h = rw (format_plan, h, carry_out)

pub format_good : (s : Image) (k : ℕ) → good_length (length s) ≡ true → carry_out s k (give (doing (format_steps (length s)))) ≡ format s k
unfolding format_plan
format_good s k h = rw (format_plan, h)
