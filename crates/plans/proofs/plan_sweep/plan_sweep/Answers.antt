-- What the door refuses is refused; else the call goes on with what was read.
use Rattle.std.proofs.Common.{refl, ◌∙◌, rules}
use Rattle.std.proofs.lemmas.Result.{err_from_is_err_and}
use Rattle.spec.specs.Answers.{sweep_of}
use Rattle.reading.specs.Read.{reading_of}
use Rattle.window.specs.Handed.{slices}
use Rattle.calls.specs.Numbers.{answer_told}
use Rattle.plans.specs.Planned.{answer_of, lent_out, shut_out, let_out, sweep_planned}
use Rattle.plans.proofs.plan_sweep.plan_sweep.Goals as goal

pub returns-in_err-s : goal.returns-in_err-s
returns-in_err-s c =
    let a = c.args in
    let s = slices a.kinds.now a.addresses.now a.bytes.now in
    let i = a.image.now in
    let d = c.in_err-s.ensures in
    let p = err_from_is_err_and c.from_residual.result c.from_residual.ensures.1 in
    rw (p.1, p.2) (shut_out _ a.first s (sweep_of i) d.0 ∙ sweep_planned i a.first s, d.1, refl)

pub plan_sweep_from-requires : goal.plan_sweep_from-requires
plan_sweep_from-requires c =
    let d = c.in_ok-s.ensures in
    (d.1, d.0, refl)

pub returns : goal.returns
returns c =
    let a = c.args in
    let s = slices a.kinds.now a.addresses.now a.bytes.now in
    let i = a.image.now in
    let p = c.plan_sweep_from in (
      lent_out p.ensures.lent
          (p.ensures.told ∙ let_out (reading_of i c.in_ok-s.s) a.first s (sweep_of i) c.in_ok-s.ensures.0 ∙ sweep_planned i a.first s)
          (search rules) (search rules) (search rules),
      answer_told (answer_of p.result),
      refl,
    )
