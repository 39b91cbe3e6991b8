use Rattle.std.proofs.Common.{ap, ◌∙◌}
use Rattle.chain.specs.Rest.{rest}
use Rattle.checking.specs.Called.{cut_wrong}
use Rattle.checking.specs.Last.{rule_name, rule_end}
use Rattle.checking.proofs.verdict.cut_name.Goals as goal

pub returns-then-cut_wrong : goal.returns-then-cut_wrong
returns-then-cut_wrong c =
    rule_name _ _ _ _ (c.cut_wrong.ensures ∙ ap (cut_wrong (rest c.args.image.now c.args.start).entries _) c.name.ensures)
    c.if-cut_wrong.true

pub returns : goal.returns
returns c =
    rule_end _ _ _ _ (c.cut_wrong.ensures ∙ ap (cut_wrong (rest c.args.image.now c.args.start).entries _) c.name.ensures)
    c.if-cut_wrong.false
