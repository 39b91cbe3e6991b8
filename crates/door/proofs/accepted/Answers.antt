-- A bad length is 22; else what was read stands, with the facts that go with it.
use Rattle.std.proofs.Common.{sym, ◌∙◌, Err}
use Rattle.spec.specs.declared.Refusal.{Refusal}
use Rattle.laws.specs.Flag.{flag}
use Rattle.laws.specs.Door.{accepted_good, accepted_bad}
use Rattle.door.specs.Door.{accepts, workable}
use Rattle.door.proofs.accepted.Goals as goal

pub judge-requires : goal.judge-requires
judge-requires c = workable c.args.image.now (flag c.good_length.ensures c.if-good_length.true)

pub returns-then-good_length : goal.returns-then-good_length
returns-then-good_length c =
    let s = c.args.image.now in
    let e = c.judge.ensures.0 ∙ sym (accepted_good s (flag c.good_length.ensures c.if-good_length.true)) in
    (e, accepts s c.judge.result e c.judge.ensures.1)

pub returns : goal.returns
returns c =
    let s = c.args.image.now in
    let e = sym (accepted_bad s (flag c.good_length.ensures c.if-good_length.false)) in
    (e, accepts s (Err Refusal.BadLength) e tt)
