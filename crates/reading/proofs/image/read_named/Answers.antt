-- read_named: a refusal stays; what was read is settled or refused, and the file is the one of the name.
use mathlib.Core.Path.{refl}
use Rattle.std.proofs.lemmas.Result.{err_from_is_err_and}
use Rattle.reading.specs.RuleLaws.{settled_none, settled_told}
use Rattle.reading.proofs.image.read_named.Goals as goal

pub named_of-requires : goal.named_of-requires
named_of-requires c =
    let e = c.in_ok-j.ensures in (e.1, rw c.hash.ensures.0 at e.2)

pub returns : goal.returns
returns c =
    let e = c.in_ok-j.ensures in
    let n = c.named_of.ensures in
    let t = settled_told c.args.image.now c.in_ok-j.j _ refl e.0 e.1 in
    (rw n.0 t.0, rw n.0 t.1, rw n.0 t.2, n.1)

pub returns-in_err-j : goal.returns-in_err-j
returns-in_err-j c =
    let p = err_from_is_err_and c.from_residual.result c.from_residual.ensures.1 in
    rw (p.1, p.2) (settled_none c.args.image.now _ (c.in_err-j.ensures).0, tt, tt, tt)
