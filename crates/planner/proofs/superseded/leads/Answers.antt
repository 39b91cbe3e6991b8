-- The tally names the second record, where there is one.
use Rattle.std.proofs.Common.{◌∙◌}
use Rattle.std.proofs.lemmas.Bool.{lt-leb}
use Rattle.reading.specs.RuleLaws.{second_none, second_low}
use Rattle.planner.proofs.superseded.leads.Goals as goal

pub returns-then-s-ge2 : goal.returns-then-s-ge2
returns-then-s-ge2 c =
    c.marked.ensures ∙ second_low c.requires.tallied c.if-s-ge2.true

pub returns-else-s-ge2 : goal.returns-else-s-ge2
returns-else-s-ge2 c =
    lt-leb 2 c.args.s.tally.records c.if-s-ge2.false ∙ second_none c.requires.tallied c.if-s-ge2.false
