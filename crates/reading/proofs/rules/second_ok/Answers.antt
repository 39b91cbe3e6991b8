-- second_ok: each test of the code is one of the rule's.
use Rattle.laws.specs.Flag.{flag}
use Rattle.reading.specs.RuleLaws.{second_plain, second_live, second_rest}
use Rattle.reading.proofs.rules.second_ok.Goals as goal

pub returns-then-not-is_live : goal.returns-then-not-is_live
returns-then-not-is_live c =
    second_rest _ _ _ (flag c.marked.ensures c.if-marked.true) (flag c.is_live.ensures c.if-not-is_live.true) _ c.second_placed.ensures

pub returns-else-not-is_live : goal.returns-else-not-is_live
returns-else-not-is_live c =
    rw c.if-not-is_live.false
    (second_live _ _ _ (flag c.marked.ensures c.if-marked.true) (flag c.is_live.ensures c.if-not-is_live.false))

pub returns : goal.returns
returns c = second_plain _ _ _ (flag c.marked.ensures c.if-marked.false)
