use Rattle.checking.specs.Following.{mark_first, mark_further}
use borrow.Author.Rules.{rules}
use Rattle.checking.proofs.records.mark_wrong.Goals as goal

pub returns-in-0 : goal.returns-in-0
returns-in-0 c = mark_first _ _ _ _ c.requires.3 c.in-0.is

pub returns-in_default : goal.returns-in_default
returns-in_default c = search (mark_further, rules)
