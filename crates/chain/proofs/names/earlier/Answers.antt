use Prim.Native.Nat.{◌-◌}
use native.Mathlib.Omega.{arith}
use Rattle.chain.specs.Rest.{entry_of}
use Rattle.chain.specs.Fold.{passes, fold_start}
use Rattle.chain.specs.Skip.{earlier_beyond}
use Rattle.chain.specs.Prefix.{earlier_over, earlier_out, earlier_next}
use Rattle.chain.proofs.Others.{other_step}
use Rattle.chain.proofs.names.earlier.Goals as goal

pub loop-e-init : goal.loop-e-init
loop-e-init c = fold_start _ _ _ _ c.requires.0

pub skip_other_names-o-requires : goal.skip_other_names-o-requires
skip_other_names-o-requires c = (c.loop-e.invariant.sound, c.requires.1)

pub returns-then-o-eq0 : goal.returns-then-o-eq0
returns-then-o-eq0 c =
    let a = c.args in
    let e = entry_of a.image.now a.e in
    earlier_out e (earlier_beyond e c.loop-e.invariant c.skip_other_names-o.ensures) c.if-o-eq0.true

pub advance-requires : goal.advance-requires
advance-requires c = c.skip_other_names-o.ensures.gone.sound

pub returns-in_default : goal.returns-in_default
returns-in_default c =
    let a = c.args in
    let e = entry_of a.image.now a.e in
    let adv = c.advance in
    earlier_over e (earlier_beyond e c.loop-e.invariant c.skip_other_names-o.ensures) adv.result adv.ensures.0
    (other_step adv.result c.in_default.not-Record)

pub earlier_with-f-requires : goal.earlier_with-f-requires
earlier_with-f-requires c =
    (c.requires.1, (passes c.advance.ensures c.in-Record.is).whole)

pub loop-e-smaller : goal.loop-e-smaller
loop-e-smaller c =
    omega (arith, (passes c.advance.ensures c.in-Record.is).onward.less, c.skip_other_names-o.ensures.gone.few)

pub loop-e-preserved : goal.loop-e-preserved
loop-e-preserved c =
    let a = c.args in
    let e = entry_of a.image.now a.e in
    let t = passes c.advance.ensures c.in-Record.is in
    let o = c.skip_other_names-o in
    rw c.earlier_with-f.ensures
    (earlier_next e (earlier_beyond e c.loop-e.invariant o.ensures) t (o.result.left - 1) (omega (arith, c.if-o-eq0.false)))
