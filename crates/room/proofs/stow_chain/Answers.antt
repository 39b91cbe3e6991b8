use native.Mathlib.Omega.{arith}
use Rattle.chain.specs.Fold.{passes, fold_start, fold_both}
use Rattle.room.specs.Room.{stow_over, stow_onward}
use Rattle.chain.proofs.Others.{other_step}
use Rattle.room.proofs.stow_chain.Goals as goal

pub loop-e-init : goal.loop-e-init
loop-e-init c = fold_start _ _ _ _ c.requires

pub stow_far-f-requires : goal.stow_far-f-requires
stow_far-f-requires c = c.loop-e.invariant.sound

pub advance-requires : goal.advance-requires
advance-requires c = c.stow_far-f.ensures.0.sound

pub returns-in_default : goal.returns-in_default
returns-in_default c =
    let adv = c.advance in
    let w = fold_both _ _ _ _ c.loop-e.invariant c.stow_far-f.ensures.0 in
    stow_over _ _ w adv.result adv.ensures.0 (other_step adv.result c.in_default.not-Record)

pub stow_record-stowed-requires : goal.stow_record-stowed-requires
stow_record-stowed-requires c =
    let t = passes c.advance.ensures c.in-Record.is in
    (t.whole, t.onward.name, t.onward.data_len)

pub loop-e-smaller : goal.loop-e-smaller
loop-e-smaller c =
    let t = passes c.advance.ensures c.in-Record.is in
    omega (arith, t.onward.less, c.stow_far-f.ensures.1)

pub loop-e-preserved : goal.loop-e-preserved
loop-e-preserved c =
    let t = passes c.advance.ensures c.in-Record.is in
    stow_onward _ _ (fold_both _ _ _ _ c.loop-e.invariant c.stow_far-f.ensures.0) t _ c.stow_record-stowed.ensures
