-- What the door refuses is refused; else the call goes on with the file that was found.
use Rattle.std.proofs.Common.{◌∙◌}
use Rattle.std.proofs.lemmas.Result.{err_from_is_err_and}
use Rattle.spec.specs.Answers.{file_of, removing}
use Rattle.reading.specs.Read.{reading_of}
use Rattle.calls.specs.Carry.{shut, let_in}
use Rattle.calls.specs.Calls.{remove_is}
use Rattle.calls.specs.Look.{done_with}
use Rattle.calls.proofs.remove.remove.Goals as goal

pub returns-in_err-x : goal.returns-in_err-x
returns-in_err-x c =
    let a = c.args in
    let s = a.image.now in
    let n = a.name.now in
    let d = c.in_err-x.ensures in
    let p = err_from_is_err_and c.from_residual.result c.from_residual.ensures.1 in
    rw (p.1, p.2) (shut s a.allowance _ (file_of n removing) d.0 ∙ remove_is s a.allowance n, d.1)

pub returns : goal.returns
returns c =
    let a = c.args in
    let s = a.image.now in
    let n = a.name.now in
    let x = c.in_ok-x.x in
    let d = c.in_ok-x.ensures in (
      c.remove_from.ensures.0
          ∙ done_with s x.survey d.1.0 x.file a.allowance n removing d.2
          ∙ let_in s a.allowance (reading_of s x.survey) (file_of n removing) d.0
          ∙ remove_is s a.allowance n,
      c.remove_from.ensures.1,
    )
