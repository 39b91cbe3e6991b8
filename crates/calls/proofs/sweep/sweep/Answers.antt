-- What the door refuses is refused; else the call goes on with what was read.
use Rattle.std.proofs.Common.{◌∙◌}
use Rattle.std.proofs.lemmas.Result.{err_from_is_err_and}
use Rattle.spec.specs.Answers.{sweep_of}
use Rattle.reading.specs.Read.{reading_of}
use Rattle.calls.specs.Carry.{shut, let_in}
use Rattle.calls.specs.Calls.{sweep_is}
use Rattle.calls.proofs.sweep.sweep.Goals as goal

pub returns-in_err-s : goal.returns-in_err-s
returns-in_err-s c =
    let g = c.args in
    let s = g.image.now in
    let d = c.in_err-s.ensures in
    let p = err_from_is_err_and c.from_residual.result c.from_residual.ensures.1 in
    rw (p.1, p.2) (shut s g.allowance _ (sweep_of s) d.0 ∙ sweep_is s g.allowance, d.1)

pub sweep_from-requires : goal.sweep_from-requires
sweep_from-requires c =
    let d = c.in_ok-s.ensures in
    (d.1, d.0)

pub returns : goal.returns
returns c =
    let g = c.args in
    let s = g.image.now in (
      c.sweep_from.ensures.0
          ∙ let_in s g.allowance (reading_of s c.in_ok-s.s) (sweep_of s) c.in_ok-s.ensures.0
          ∙ sweep_is s g.allowance,
      c.sweep_from.ensures.1,
    )
