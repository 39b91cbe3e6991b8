use Rattle.checking.specs.Records.{has_before, has_cut, has_none}
use borrow.Author.Rules.{rules}
use Rattle.checking.proofs.records.has_committed.Goals as goal

pub returns-then-has_named : goal.returns-then-has_named
returns-then-has_named c = search (has_before, rules)

pub returns-in-Some : goal.returns-in-Some
returns-in-Some c =
    rw c.in-Some.is (has_cut _ _ _ 0xFC _ _ _ c.has_named.ensures c.if-has_named.false c.cut_named.ensures)

pub returns-in-None : goal.returns-in-None
returns-in-None c = has_none _ _ _ 0xFC _ _ c.has_named.ensures c.if-has_named.false c.in-None.is
