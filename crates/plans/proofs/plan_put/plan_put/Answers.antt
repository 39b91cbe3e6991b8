-- What the door refuses is refused; else the call goes on with what was read.
use Rattle.std.proofs.Common.{refl, ◌∙◌, rules}
use Rattle.std.proofs.lemmas.Result.{err_from_is_err_and}
use Rattle.spec.specs.Answers.{put_into}
use Rattle.reading.specs.Read.{reading_of}
use Rattle.window.specs.Handed.{slices}
use Rattle.calls.specs.Numbers.{answer_told}
use Rattle.plans.specs.Planned.{answer_of, lent_out, shut_out, let_out, put_planned}
use Rattle.plans.proofs.plan_put.plan_put.Goals as goal

pub returns-in_err-x : goal.returns-in_err-x
returns-in_err-x c =
    let a = c.args in
    let s = slices a.kinds.now a.addresses.now a.bytes.now in
    let i = a.image.now in
    let d = c.in_err-x.ensures in
    let p = err_from_is_err_and c.from_residual.result c.from_residual.ensures.1 in
    rw (p.1, p.2) (
      shut_out _ a.first s (put_into a.name.now a.content.now i) d.0 ∙ put_planned i a.first s a.name.now a.content.now,
      d.1,
      refl,
    )

pub plan_put_from-requires : goal.plan_put_from-requires
plan_put_from-requires c =
    let d = c.in_ok-x.ensures in
    (d.1.0, d.1.1, d.0, d.2, refl)

pub returns : goal.returns
returns c =
    let a = c.args in
    let s = slices a.kinds.now a.addresses.now a.bytes.now in
    let i = a.image.now in
    let p = c.plan_put_from in (
      lent_out p.ensures.lent (
          p.ensures.told
          ∙ let_out (reading_of i c.in_ok-x.x.survey) a.first s (put_into a.name.now a.content.now i) c.in_ok-x.ensures.0
          ∙ put_planned i a.first s a.name.now a.content.now
          ) (search rules) (search rules) (search rules),
      answer_told (answer_of p.result),
      refl,
    )
