-- By the first record: none, a CLEAN one, another.
use Rattle.flash.specs.Did.{did_none}
use Rattle.recovery.specs.Free.{head_missing, head_other, head_cleaned}
use Rattle.recovery.specs.Readable.{clean_told}
use Rattle.recovery.proofs.free.erase_free.Goals as goal

pub returns-then-s-eq0-clause-fact : goal.returns-then-s-eq0-clause-fact
returns-then-s-eq0-clause-fact c =
    rw (head_missing c.survey-s.ensures c.if-s-eq0.true) (did_none c.args.image.now c.args.m)

pub returns-then-is_clean-clause-fact : goal.returns-then-is_clean-clause-fact
returns-then-is_clean-clause-fact c =
    head_cleaned c.survey-s.ensures c.if-s-eq0.false (clean_told c.low_of-low.ensures c.is_clean.ensures c.if-is_clean.true)
    c.erase_run-a.ensures.fact (rw c.low_of-low.ensures at c.to_start.ensures.did)

pub returns-clause-fact : goal.returns-clause-fact
returns-clause-fact c =
    rw (head_other c.survey-s.ensures c.if-s-eq0.false (clean_told c.low_of-low.ensures c.is_clean.ensures c.if-is_clean.false))
    (did_none c.args.image.now c.args.m)
