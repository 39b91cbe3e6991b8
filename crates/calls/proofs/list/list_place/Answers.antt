-- What the door refuses is refused; else the call goes on with what was read.
use Rattle.std.proofs.Common.{◌∙◌, arith}
use Rattle.std.proofs.lemmas.Result.{err_from_is_err_and}
use Rattle.spec.specs.Answers.{list_of}
use Rattle.reading.specs.Read.{reading_of}
use Rattle.calls.specs.Carry.{shut, let_in}
use Rattle.calls.specs.Calls.{list_is}
use Rattle.calls.proofs.list.list_place.Goals as goal

pub returns-in_err-s : goal.returns-in_err-s
returns-in_err-s c =
    let g = c.args in
    let s = g.image.now in
    let p = err_from_is_err_and c.from_residual.result c.from_residual.ensures.1 in
    rw (p.1, p.2) (shut s 0 _ (list_of g.index) c.in_err-s.ensures.0 ∙ list_is s g.index, omega arith)

pub returns : goal.returns
returns c =
    let g = c.args in
    let s = g.image.now in (
      c.list_from.ensures.0 ∙ let_in s 0 (reading_of s c.in_ok-s.s) (list_of g.index) c.in_ok-s.ensures.0 ∙ list_is s g.index,
      c.list_from.ensures.1,
    )
