-- By the second record: none, a CLEAN one, a START, another.
use Rattle.std.proofs.Common.{refl, ◌∙◌, length}
use Rattle.recovery.specs.Readable.{clean_told}
use Rattle.chain.specs.Rest.{entry_of}
use Rattle.window.specs.Handed.{handed_none}
use Rattle.planner.specs.Close.{standing, close_same}
use Rattle.planner.specs.Repairs.{second_missing, second_clean, second_start, second_other}
use Rattle.planner.proofs.finish.hand_finish.Goals as goal

pub returns-then-s-lt2-clause-handed : goal.returns-then-s-lt2-clause-handed
returns-then-s-lt2-clause-handed c =
    rw (second_missing c.requires.0 c.if-s-lt2.true) (handed_none c.args.out.now)

pub returns-then-is_clean-clause-handed : goal.returns-then-is_clean-clause-handed
returns-then-is_clean-clause-handed c =
    let i = c.args.image.now in
    let t = c.args.s.tally in
    let low = c.low_of-low.ensures in
    let clean = clean_told low c.is_clean.ensures c.if-is_clean.true in
    let same = close_same (length i) (entry_of i t.first) (entry_of i t.second) (standing t.second.at) _ refl in
    rw (second_clean c.requires.0 c.if-s-lt2.false low clean ∙ same) c.hand_close.ensures.handed

pub returns-then-low-eq-START-clause-handed : goal.returns-then-low-eq-START-clause-handed
returns-then-low-eq-START-clause-handed c =
    let low = c.low_of-low.ensures in
    let clean = clean_told low c.is_clean.ensures c.if-is_clean.false in
    rw (second_start c.requires.0 c.if-s-lt2.false low clean c.if-low-eq-START.true) c.program.ensures

pub returns-else-low-eq-START-clause-handed : goal.returns-else-low-eq-START-clause-handed
returns-else-low-eq-START-clause-handed c =
    let low = c.low_of-low.ensures in
    let clean = clean_told low c.is_clean.ensures c.if-is_clean.false in
    rw (second_other c.requires.0 c.if-s-lt2.false low clean c.if-low-eq-START.false) (handed_none c.args.out.now)
