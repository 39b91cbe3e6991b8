-- A bad length is 22; else what was read stands, with the facts that go with it.
use Rattle.std.proofs.Common.{sym, ◌∙◌, Err}
use Rattle.spec.specs.declared.Refusal.{Refusal}
use Rattle.laws.specs.Flag.{flag}
use Rattle.laws.specs.Door.{admitted_good, admitted_bad}
use Rattle.door.specs.Door.{admits, workable}
use Rattle.door.proofs.admitted.Goals as goal

pub read_settled-requires : goal.read_settled-requires
read_settled-requires c = workable c.args.image.now (flag c.good_length.ensures c.if-good_length.true)

pub returns-then-good_length : goal.returns-then-good_length
returns-then-good_length c =
    let s = c.args.image.now in
    let e = c.read_settled.ensures.0 ∙ sym (admitted_good s (flag c.good_length.ensures c.if-good_length.true)) in
    (e, admits s c.read_settled.result e c.read_settled.ensures.1 c.read_settled.ensures.2)

pub returns : goal.returns
returns c =
    let s = c.args.image.now in
    let e = sym (admitted_bad s (flag c.good_length.ensures c.if-good_length.false)) in
    (e, admits s (Err Refusal.BadLength) e tt tt)
