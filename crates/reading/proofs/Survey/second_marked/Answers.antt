-- second_marked: the tally names the second record, where there is one.
use mathlib.Core.Path.{◌∙◌}
use Rattle.std.proofs.lemmas.Bool.{lt-leb}
use Rattle.reading.specs.RuleLaws.{second_none, second_low}
use Rattle.reading.proofs.Survey.second_marked.Goals as goal

pub returns-then-t-ge2 : goal.returns-then-t-ge2
returns-then-t-ge2 c = c.marked.ensures ∙ second_low c.requires.tallied c.if-t-ge2.true

pub returns-else-t-ge2 : goal.returns-else-t-ge2
returns-else-t-ge2 c = lt-leb 2 _ c.if-t-ge2.false ∙ second_none c.requires.tallied c.if-t-ge2.false
