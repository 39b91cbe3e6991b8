-- What the answer of the check says in document 02's words.
use Rattle.std.specs.Prelude.{ℕ, Result, Err, Ok}
use Rattle.spec.specs.Refusals.{refusal_numbers, numbered}
use Rattle.spec.specs.declared.Verdict.{Verdict}
use Rattle.spec.specs.Basics.{Answer, refuse, give}
use Rattle.spec.specs.Verdict.{verdict, VerdictNumbers}
use Rattle.checking.specs.Answers.{Checked}
use Rattle.checking.specs.declared.Told.{Told}

abbrev pub checked_as : Checked → Answer Verdict
checked_as (Ok v) = give v
checked_as (Err x) = refuse (refusal_numbers x)

-- the same where a refusal is a number, whichever it is
abbrev pub numbered_as : Result Verdict ℕ → Answer Verdict
numbered_as (Ok v) = give v
numbered_as (Err n) = refuse (numbered n)

-- ---- as numbers

abbrev pub numbers : ℕ → ℕ → ℕ → ℕ → VerdictNumbers
numbers answer verdict number address = record { answer = answer; verdict = verdict; number = number; address = address }

abbrev pub told_as : Told → VerdictNumbers
told_as t = numbers t.answer t.verdict t.number t.address
