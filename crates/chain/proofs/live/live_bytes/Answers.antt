use mathlib.Core.Path.{sym, ◌∙◌}
use Rattle.chain.specs.Along.{reached}
use Rattle.chain.specs.Fold.{passes}
use Rattle.chain.specs.Sums.{sum_start, sum_over, sum_most, sum_room, sum_step}
use Rattle.chain.proofs.Others.{other_step}
use native.Mathlib.Omega.{arith}
use Rattle.chain.proofs.live.live_bytes.Goals as goal

pub loop-e-init : goal.loop-e-init
loop-e-init c = sum_start _ c.requires

pub advance-requires : goal.advance-requires
advance-requires c = c.loop-e.invariant.fold.sound

pub returns : goal.returns
returns c =
    let w = c.loop-e.invariant in
    let over = other_step c.advance.result c.in_default.not-Record in
    (sum_over _ w c.advance.result c.advance.ensures.0 over, sum_most _ w)

pub size-requires : goal.size-requires
size-requires c =
    let t = passes c.advance.ensures c.in-Record.is in
    (omega (arith, t.onward.name), t.onward.data_len)

pub is_live-requires : goal.is_live-requires
is_live-requires c =
    (c.requires, (passes c.advance.ensures c.in-Record.is).whole)

pub added-live-requires : goal.added-live-requires
added-live-requires c =
    let t = passes c.advance.ensures c.in-Record.is in
    let r = reached _ _ _ _ (sym c.advance.ensures.0 ∙ c.in-Record.is) in
    let p = c.requires in
    omega (arith, c.size.ensures, sum_room _ c.loop-e.invariant t r, p.inside, p.room, p.small)

pub loop-e-smaller : goal.loop-e-smaller
loop-e-smaller c =
    (passes c.advance.ensures c.in-Record.is).onward.less

pub loop-e-preserved : goal.loop-e-preserved
loop-e-preserved c =
    let w = c.loop-e.invariant in
    let t = passes c.advance.ensures c.in-Record.is in
    let r = reached _ _ _ _ (sym c.advance.ensures.0 ∙ c.in-Record.is) in
    rw (c.added-live.ensures, c.size.ensures) (sum_step _ w t r c.is_live.result (sym c.is_live.ensures))
