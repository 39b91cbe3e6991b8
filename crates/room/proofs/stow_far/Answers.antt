use native.Mathlib.Omega.{arith}
use Rattle.laws.specs.Flag.{flag}
use Rattle.room.specs.declared.Stowed.{Stowed}
use Rattle.chain.specs.Fold.{fold_start}
use Rattle.room.specs.Room.{stow_onward, stow_past}
use Rattle.room.proofs.stow_far.Goals as goal

pub loop-e-init : goal.loop-e-init
loop-e-init c = (fold_start _ _ _ _ c.requires, omega arith)

pub near-requires : goal.near-requires
near-requires c = c.loop-e.invariant.0.sound

pub returns : goal.returns
returns c = rw c.stowed_at.ensures c.loop-e.invariant

pub size-requires : goal.size-requires
size-requires c =
    let w = rw c.in-Some.is at c.near.ensures in
    (omega (arith, w.0.onward.name), w.0.onward.data_len)

pub larger-largest-requires : goal.larger-largest-requires
larger-largest-requires c =
    (rw c.in-Some.is at c.near.ensures).0.whole

pub loop-e-smaller : goal.loop-e-smaller
loop-e-smaller c =
    (rw c.in-Some.is at c.near.ensures).0.onward.less

pub loop-e-preserved : goal.loop-e-preserved
loop-e-preserved c =
    let a = c.args in
    let inv = c.loop-e.invariant in
    let w = rw c.in-Some.is at c.near.ensures in
    let far = flag c.in_head_sector.ensures c.if-in_head_sector.false in
    let m : Stowed = record { placed = a.first.placed; largest = c.loop-e.largest } in
    let e = stow_past a.place a.name.now a.image.now _ m _ _ w.0.whole c.size.ensures far c.larger-largest.ensures in
    (stow_onward _ _ inv.0 w.0 _ e, omega (arith, inv.1, w.0.onward.less))
