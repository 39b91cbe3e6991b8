-- An entry that can be carried out is, any other leaves the image.
use Rattle.std.proofs.Common.{sym, ◌∙◌}
use Rattle.std.proofs.lemmas.Result.{err_from_is_err_and}
use Rattle.replay.specs.Entry.{carried_on, carried_not}
use Rattle.replay.specs.Told.{stopped}
use Rattle.replay.proofs.entry.Entry.carry_out.Goals as goal

pub returns-in_err-check : goal.returns-in_err-check
returns-in_err-check c =
    let e = c.in_err-check.ensures in
    let p = err_from_is_err_and c.from_residual.result c.from_residual.ensures.1 in
    rw (p.1, p.2) (e, sym (carried_not _ _ _ _ (λ q. stopped c.in_err-check.field-0.0 (e ∙ q))))

pub returns : goal.returns
returns c =
    let e = c.in_ok-check.ensures in
    (e, c.carry.ensures ∙ sym (carried_on _ _ _ _ (sym e)))
