-- What the door refuses is refused; else the call goes on with what was read.
use Rattle.std.proofs.Common.{refl, ◌∙◌}
use Rattle.std.proofs.lemmas.Result.{err_from_is_err_and}
use Rattle.spec.specs.Answers.{mount_of}
use Rattle.reading.specs.Read.{reading_of}
use Rattle.calls.specs.Carry.{shut, let_in}
use Rattle.calls.specs.Calls.{mount_is}
use Rattle.calls.specs.Space.{legal_given}
use Rattle.calls.proofs.mount.mount.Goals as goal

pub returns-in_err-j : goal.returns-in_err-j
returns-in_err-j c =
    let g = c.args in
    let s = g.image.now in
    let d = c.in_err-j.ensures in
    let p = err_from_is_err_and c.from_residual.result c.from_residual.ensures.1 in
    rw (p.1, p.2) (shut s g.allowance _ (mount_of s) d.0 ∙ mount_is s g.allowance, d.1)

pub mount_from-requires : goal.mount_from-requires
mount_from-requires c =
    let d = c.in_ok-j.ensures in
    (d.1.0, d.1.1, legal_given _ c.in_ok-j.j d.0 refl)

pub returns : goal.returns
returns c =
    let g = c.args in
    let s = g.image.now in
    let r = reading_of s c.in_ok-j.j.survey in (
      c.mount_from.ensures ∙ let_in s g.allowance r (mount_of s) c.in_ok-j.ensures.0 ∙ mount_is s g.allowance,
      tt,
    )
