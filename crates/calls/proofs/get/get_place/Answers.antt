-- What the door refuses is refused; else the call goes on with the file that was found.
use Rattle.std.proofs.Common.{◌∙◌, arith}
use Rattle.std.proofs.lemmas.Result.{err_from_is_err_and}
use Rattle.spec.specs.Answers.{file_of, getting}
use Rattle.reading.specs.Read.{reading_of}
use Rattle.calls.specs.Carry.{shut, let_in}
use Rattle.calls.specs.Calls.{get_is}
use Rattle.calls.specs.Look.{done_with}
use Rattle.calls.proofs.get.get_place.Goals as goal

pub returns-in_err-x : goal.returns-in_err-x
returns-in_err-x c =
    let s = c.args.image.now in
    let n = c.args.name.now in
    let p = err_from_is_err_and c.from_residual.result c.from_residual.ensures.1 in
    rw (p.1, p.2) (shut s 0 _ (file_of n getting) c.in_err-x.ensures.0 ∙ get_is s n, omega arith)

pub returns : goal.returns
returns c =
    let s = c.args.image.now in
    let n = c.args.name.now in
    let x = c.in_ok-x.x in
    let d = c.in_ok-x.ensures in (
      c.get_from.ensures.0
          ∙ done_with s x.survey d.1.0 x.file 0 n getting d.2
          ∙ let_in s 0 (reading_of s x.survey) (file_of n getting) d.0 ∙ get_is s n,
      c.get_from.ensures.1,
    )
