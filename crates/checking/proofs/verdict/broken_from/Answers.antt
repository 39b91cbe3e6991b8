use Rattle.std.proofs.Common.{sym, ◌∙◌}
use Rattle.checking.specs.Last.{broken_there, broken_not}
use Rattle.checking.proofs.verdict.broken_from.Goals as goal

pub unreachable-requires : goal.unreachable-requires
unreachable-requires c =
    broken_not _ _ c.survey.result c.survey.ensures.same c.requires.2 (sym c.in_default.is ∙ c.first_fault.ensures)

pub returns : goal.returns
returns c = broken_there _ _ c.survey.result c.survey.ensures.same _ (sym c.in-Some.is ∙ c.first_fault.ensures)
