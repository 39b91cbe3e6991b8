-- 22 for the image's length, 22 for the name, else the walk.
use Rattle.std.proofs.Common.{ap, ◌∙◌}
use Rattle.std.proofs.lemmas.Result.{err_from_is_err_and}
use Rattle.spec.specs.Refusals.{FaultNumbers}
use Rattle.spec.specs.Basics.{refuse}
use Rattle.laws.specs.Flag.{flag}
use Rattle.laws.specs.Length.{good}
use Rattle.door.specs.Door.{good_told, bad_told}
use Rattle.calls.specs.Length.{bad_size, bad_name, good_asked}
use Rattle.calls.proofs.length.asked.Goals as goal

pub returns-then-not-good_length : goal.returns-then-not-good_length
returns-then-not-good_length c =
    let a = c.args in
    bad_size a.image.now a.head a.name.now (flag c.good_length.ensures c.if-not-good_length.true)

pub returns-in_err-check_name : goal.returns-in_err-check_name
returns-in_err-check_name c =
    let a = c.args in
    let long = flag c.good_length.ensures c.if-not-good_length.false in
    let told = c.in_err-check_name.ensures in
    let p = err_from_is_err_and c.from_residual.result c.from_residual.ensures.1 in
    rw (p.1, p.2) (
    ap (λ (x : FaultNumbers). refuse (record { number = 22; name = x })) told
    ∙ bad_name a.image.now a.head a.name.now long (bad_told a.name.now _ told)
    )

pub measure-requires : goal.measure-requires
measure-requires c = (good _ (flag c.good_length.ensures c.if-not-good_length.false)).most

pub returns : goal.returns
returns c =
    let a = c.args in
    let long = flag c.good_length.ensures c.if-not-good_length.false in
    c.measure.ensures ∙ good_asked a.image.now a.head a.name.now long (good_told a.name.now c.in_ok-check_name.ensures)
