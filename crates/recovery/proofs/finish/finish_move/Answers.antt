-- By the second record: none, a CLEAN one, a START, another.
use mathlib.Core.Path.{sym, ◌∙◌}
use Rattle.recovery.specs.Pair.{finish_few, finish_clean, finish_start, finish_plain}
use Rattle.recovery.specs.Readable.{clean_told}
use Rattle.recovery.proofs.finish.finish_move.Goals as goal

pub returns-then-t-lt2-clause-move_finished : goal.returns-then-t-lt2-clause-move_finished
returns-then-t-lt2-clause-move_finished c = rw c.at_head.ensures (finish_few c.survey.ensures c.if-t-lt2.true)

pub returns-then-is_clean-clause-move_finished : goal.returns-then-is_clean-clause-move_finished
returns-then-is_clean-clause-move_finished c =
    let clean = clean_told c.low_of-low.ensures c.is_clean.ensures c.if-is_clean.true in
    rw c.at_head-then-is_clean.ensures
    (finish_clean c.survey.ensures c.if-t-lt2.false clean (rw c.low_of-low.ensures at c.close.ensures.fact))

pub returns-then-low-eq-START-clause-move_finished : goal.returns-then-low-eq-START-clause-move_finished
returns-then-low-eq-START-clause-move_finished c =
    let other = clean_told c.low_of-low.ensures c.is_clean.ensures c.if-is_clean.false in
    rw c.at_head-then-low-eq-START.ensures
    (finish_start c.survey.ensures c.if-t-lt2.false other (sym c.low_of-low.ensures ∙ c.if-low-eq-START.true) c.program.ensures)

pub returns-clause-move_finished : goal.returns-clause-move_finished
returns-clause-move_finished c =
    let other = clean_told c.low_of-low.ensures c.is_clean.ensures c.if-is_clean.false in
    rw c.at_head-2.ensures
    (finish_plain c.survey.ensures c.if-t-lt2.false other (λ q. c.if-low-eq-START.false (c.low_of-low.ensures ∙ q)))
