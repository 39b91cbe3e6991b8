use Rattle.reading.specs.Read.{reading_of}
use Rattle.checking.specs.Last.{end_free, end_stop}
use Rattle.checking.proofs.verdict.end_fault.Goals as goal

pub returns-then-whole : goal.returns-then-whole
returns-then-whole c = let a = c.args in
    end_free a.image.now (reading_of a.image.now a.s) _ c.whole.ensures _ _
    c.if-whole.true c.head_clean.ensures c.free_fault.ensures

pub returns : goal.returns
returns c = let a = c.args in
    end_stop a.image.now (reading_of a.image.now a.s) _ c.whole.ensures _ _ c.if-whole.false
    c.requires.2 c.stop_rule-rule.ensures
