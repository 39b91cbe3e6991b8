use mathlib.Core.Path.{refl, sym, ◌∙◌}
use Rattle.chain.specs.FileLaws.{same_step, same_stop, same_done, same_lengths}
use native.Mathlib.Omega.{arith}
use Rattle.chain.proofs.files.same_bytes.Goals as goal

pub returns-then-x-y : goal.returns-then-x-y
returns-then-x-y c = sym (same_lengths c.args.x.now c.args.y.now c.if-x-y.true)

pub loop-i-init : goal.loop-i-init
loop-i-init c = refl

pub returns-then-x-i : goal.returns-then-x-i
returns-then-x-i c =
    let l = c.loop-i in
    let a = c.args in
    sym (l.invariant ∙ same_stop a.x.now a.y.now l.i (omega arith) (omega arith) c.if-x-i.true)

pub loop-i-preserved : goal.loop-i-preserved
loop-i-preserved c =
    let l = c.loop-i in
    let a = c.args in
    l.invariant ∙ same_step a.x.now a.y.now l.i (omega arith) (omega arith) c.if-x-i.false

pub returns : goal.returns
returns c =
    let a = c.args in
    sym (c.loop-i.invariant ∙ same_done a.x.now a.y.now c.loop-i.i (omega arith) (omega arith))
