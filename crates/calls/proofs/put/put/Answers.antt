-- What the door refuses is refused; else the call goes on with what was read.
use Rattle.std.proofs.Common.{◌∙◌}
use Rattle.std.proofs.lemmas.Result.{err_from_is_err_and}
use Rattle.spec.specs.Answers.{put_into}
use Rattle.reading.specs.Read.{reading_of}
use Rattle.calls.specs.Carry.{shut, let_in}
use Rattle.calls.specs.Calls.{put_is}
use Rattle.calls.proofs.put.put.Goals as goal

pub returns-in_err-x : goal.returns-in_err-x
returns-in_err-x c =
    let a = c.args in
    let s = a.image.now in
    let d = c.in_err-x.ensures in
    let p = err_from_is_err_and c.from_residual.result c.from_residual.ensures.1 in
    rw (p.1, p.2) (
      shut s a.allowance _ (put_into a.name.now a.content.now s) d.0 ∙ put_is s a.allowance a.name.now a.content.now,
      d.1,
    )

pub put_from-requires : goal.put_from-requires
put_from-requires c =
    let d = c.in_ok-x.ensures in
    (d.1.0, d.1.1, d.0, d.2)

pub returns : goal.returns
returns c =
    let a = c.args in
    let s = a.image.now in (
      c.put_from.ensures.0
          ∙ let_in s a.allowance (reading_of s c.in_ok-x.x.survey) (put_into a.name.now a.content.now s) c.in_ok-x.ensures.0
          ∙ put_is s a.allowance a.name.now a.content.now,
      c.put_from.ensures.1,
    )
