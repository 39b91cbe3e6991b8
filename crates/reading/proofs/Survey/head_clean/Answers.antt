-- head_clean: the first record's first byte, where there is a record.
use mathlib.Core.Path.{ap, ◌∙◌}
use native.Mathlib.Omega.{arith}
use borrow.Author.Tests.{le-ltb}
use Rattle.spec.specs.Bytes.{is_clean}
use Rattle.reading.specs.RuleLaws.{head_none, first_clean}
use Rattle.reading.proofs.Survey.head_clean.Goals as goal

pub returns-then-t-gt0 : goal.returns-then-t-gt0
returns-then-t-gt0 c =
    c.is_clean.ensures ∙ ap is_clean c.low_of.ensures ∙ first_clean c.requires.tallied (λ q. omega (arith, q))

pub returns-else-t-gt0 : goal.returns-else-t-gt0
returns-else-t-gt0 c = le-ltb 0 _ c.if-t-gt0.false ∙ head_none c.requires.tallied (omega arith)
