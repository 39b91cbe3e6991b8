-- A bad length is 22, a bad name is 22 with its fault; else what was read stands, with the facts that go with it and the file.
use Rattle.std.proofs.Common.{sym, ap, ◌∙◌, Err}
use Rattle.std.proofs.lemmas.Result.{err_from_is_err_and}
use Rattle.spec.specs.Refusals.{FaultNumbers}
use Rattle.spec.specs.declared.Refusal.{Refusal}
use Rattle.spec.specs.Basics.{refuse}
use Rattle.laws.specs.Flag.{flag}
use Rattle.laws.specs.Door.{named_good, named_bad, named_short}
use Rattle.door.specs.Door.{good_told, bad_told, admits_named, workable}
use Rattle.door.proofs.admitted_named.Goals as goal

pub returns-then-not-good_length : goal.returns-then-not-good_length
returns-then-not-good_length c =
    let s = c.args.image.now in
    let n = c.args.name.now in
    let e = sym (named_short s (flag c.good_length.ensures c.if-not-good_length.true) n) in
    (e, admits_named s n (Err Refusal.BadLength) e tt tt, tt)

pub returns-in_err-check_name : goal.returns-in_err-check_name
returns-in_err-check_name c =
    let s = c.args.image.now in
    let n = c.args.name.now in
    let long = flag c.good_length.ensures c.if-not-good_length.false in
    let told = c.in_err-check_name.ensures in
    let f = c.in_err-check_name.field-0.0 in
    let e = ap (λ (x : FaultNumbers). refuse (record { number = 22; name = x })) told
    ∙ sym (named_bad s long n (bad_told n f told)) in
    let p = err_from_is_err_and c.from_residual.result c.from_residual.ensures.1 in
    rw (p.1, p.2) (e, admits_named s n (Err (Refusal.BadName f)) e tt tt, tt)

pub read_named-requires : goal.read_named-requires
read_named-requires c =
    workable c.args.image.now (flag c.good_length.ensures c.if-not-good_length.false)

pub returns : goal.returns
returns c =
    let s = c.args.image.now in
    let n = c.args.name.now in
    let long = flag c.good_length.ensures c.if-not-good_length.false in
    let r = c.read_named in
    let e = r.ensures.0 ∙ sym (named_good s long n (good_told n c.in_ok-check_name.ensures)) in
    (e, admits_named s n _ e r.ensures.1 r.ensures.2, r.ensures.3)
