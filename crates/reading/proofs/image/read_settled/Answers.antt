-- read_settled: a refusal stays; what was read is settled or refused, and a settled reading has nothing superseded.
use mathlib.Core.Path.{refl}
use Rattle.std.proofs.lemmas.Result.{err_from_is_err_and}
use Rattle.reading.specs.RuleLaws.{settled_none, settled_told}
use Rattle.reading.proofs.image.read_settled.Goals as goal

pub returns : goal.returns
returns c =
    let e = c.in_ok-judge.ensures in
    rw c.if_settled.ensures (settled_told c.args.image.now c.in_ok-judge.field-0 _ refl e.0 e.1)

pub returns-in_err-judge : goal.returns-in_err-judge
returns-in_err-judge c =
    let p = err_from_is_err_and c.from_residual.result c.from_residual.ensures.1 in
    rw (p.1, p.2) (settled_none c.args.image.now _ (c.in_err-judge.ensures).0, tt, tt)
