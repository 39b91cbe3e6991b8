-- What the door refuses is refused; else the call goes on with what was read.
use Rattle.std.proofs.Common.{refl, ap, ◌∙◌, rules}
use Rattle.std.proofs.lemmas.Result.{err_from_is_err_and}
use Rattle.spec.specs.Basics.{Answer}
use Rattle.spec.specs.Answers.{Plan, file_of, removing}
use Rattle.spec.specs.Planner.{hand_out}
use Rattle.reading.specs.Read.{reading_of}
use Rattle.window.specs.Handed.{slices}
use Rattle.calls.specs.Numbers.{answer_told}
use Rattle.calls.specs.Look.{plan_with}
use Rattle.plans.specs.Planned.{answer_of, lent_out, shut_out, let_out, remove_planned}
use Rattle.plans.proofs.plan_remove.plan_remove.Goals as goal

pub returns-in_err-x : goal.returns-in_err-x
returns-in_err-x c =
    let a = c.args in
    let s = slices a.kinds.now a.addresses.now a.bytes.now in
    let d = c.in_err-x.ensures in
    let p = err_from_is_err_and c.from_residual.result c.from_residual.ensures.1 in
    rw (p.1, p.2) (
      shut_out _ a.first s (file_of a.name.now removing) d.0 ∙ remove_planned a.image.now a.first s a.name.now,
      d.1,
      refl,
    )

pub returns : goal.returns
returns c =
    let a = c.args in
    let s = slices a.kinds.now a.addresses.now a.bytes.now in
    let i = a.image.now in
    let n = a.name.now in
    let x = c.in_ok-x.x in
    let d = c.in_ok-x.ensures in
    let p = c.plan_remove_from in (
      lent_out p.ensures.lent (
          p.ensures.told
          ∙ ap (λ (q : Answer Plan). hand_out q a.first s) (plan_with i x.survey d.1.0 x.file n removing d.2)
          ∙ let_out (reading_of i x.survey) a.first s (file_of n removing) d.0
          ∙ remove_planned i a.first s n
          ) (search rules) (search rules) (search rules),
      answer_told (answer_of p.result),
      refl,
    )
