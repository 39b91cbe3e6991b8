-- By the first record: none, a CLEAN one, another.
use Rattle.recovery.specs.Readable.{clean_told}
use Rattle.window.specs.Handed.{handed_none, handed_both}
use Rattle.planner.specs.Repairs.{first_missing, first_other, first_cleaned}
use Rattle.planner.proofs.free.hand_free.Goals as goal

pub returns-then-s-eq0-clause-handed : goal.returns-then-s-eq0-clause-handed
returns-then-s-eq0-clause-handed c =
    rw (first_missing c.requires.0 c.if-s-eq0.true) (handed_none c.args.out.now)

pub returns-then-is_clean-clause-handed : goal.returns-then-is_clean-clause-handed
returns-then-is_clean-clause-handed c =
    let low = c.low_of-low.ensures in
    let clean = clean_told low c.is_clean.ensures c.if-is_clean.true in
    rw (first_cleaned c.requires.0 c.if-s-eq0.false low clean) (handed_both c.hand_run.ensures.handed c.hand_start.ensures.handed)

pub returns-else-is_clean-clause-handed : goal.returns-else-is_clean-clause-handed
returns-else-is_clean-clause-handed c =
    let clean = clean_told c.low_of-low.ensures c.is_clean.ensures c.if-is_clean.false in
    rw (first_other c.requires.0 c.if-s-eq0.false clean) (handed_none c.args.out.now)
