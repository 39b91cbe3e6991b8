-- What the door refuses is refused; else the call goes on with what was read.
use Rattle.std.proofs.Common.{refl, ◌∙◌, rules}
use Rattle.std.proofs.lemmas.Result.{err_from_is_err_and}
use Rattle.spec.specs.Answers.{mount_of}
use Rattle.reading.specs.Read.{reading_of}
use Rattle.window.specs.Handed.{slices}
use Rattle.calls.specs.Space.{legal_given}
use Rattle.plans.specs.Planned.{lent_out, shut_out, let_out, mount_planned}
use Rattle.plans.proofs.plan_mount.plan_mount.Goals as goal

pub returns-in_err-j : goal.returns-in_err-j
returns-in_err-j c =
    let a = c.args in
    let s = slices a.kinds.now a.addresses.now a.bytes.now in
    let i = a.image.now in
    let d = c.in_err-j.ensures in
    let p = err_from_is_err_and c.from_residual.result c.from_residual.ensures.1 in
    rw (p.1, p.2) (shut_out _ a.first s (mount_of i) d.0 ∙ mount_planned i a.first s, d.1, refl)

pub plan_mount_from-requires : goal.plan_mount_from-requires
plan_mount_from-requires c =
    let d = c.in_ok-j.ensures in
    (d.1.0, legal_given c.args.image.now c.in_ok-j.j d.0 refl, d.1.1, refl)

pub returns : goal.returns
returns c =
    let a = c.args in
    let s = slices a.kinds.now a.addresses.now a.bytes.now in
    let i = a.image.now in
    let p = c.plan_mount_from in (
      lent_out p.ensures.lent
          (
          p.ensures.told
          ∙ let_out (reading_of i c.in_ok-j.j.survey) a.first s (mount_of i) c.in_ok-j.ensures.0
          ∙ mount_planned i a.first s
          )
          (search rules) (search rules) (search rules),
      tt,
      refl,
    )
