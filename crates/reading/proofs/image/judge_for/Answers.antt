-- judge_for: the head's refusal, or the reading from the head on.
use mathlib.Core.Path.{sym, ap, ◌∙◌}
use Rattle.std.proofs.lemmas.Result.{err_from_is_err_and}
use Rattle.reading.specs.RuleLaws.{reading_by, reading_refused}
use Rattle.chain.specs.HeadLaws.{headed}
use Rattle.reading.proofs.image.judge_for.Goals as goal

pub judge_from-requires : goal.judge_from-requires
judge_from-requires c =
    let e = c.head-found.ensures in
    (rw c.in_ok-h.was at e.1, c.requires, e.2)

pub returns : goal.returns
returns c =
    let e = c.judge_from.ensures in (
      e.result_value ∙ reading_by c.args.image.now c.in_ok-h.h (sym (ap headed c.in_ok-h.was) ∙ c.head-found.ensures.0),
      e.judged_well.0,
      e.judged_well.1,
    )

pub returns-in_err-h : goal.returns-in_err-h
returns-in_err-h c =
    let p = err_from_is_err_and c.from_residual.result c.from_residual.ensures.1 in
    rw (p.1, p.2)
    (reading_refused c.args.image.now _ (sym (ap headed c.in_err-h.was) ∙ c.head-found.ensures.0), tt, tt)
