use mathlib.Core.Path.{◌∙◌}
use Rattle.laws.specs.Flag.{flag}
use Rattle.headers.specs.Walk.{steps, walking_start, walk_end, walk_fails, walk_step}
use Rattle.chain.proofs.Others.{other_step}
use Rattle.headers.proofs.measure.walk_on.Goals as goal

pub loop-e-init : goal.loop-e-init
loop-e-init c = walking_start _ c.requires.0 c.requires.1

pub forward-s-requires : goal.forward-s-requires
forward-s-requires c = c.loop-e.invariant.fold.sound

pub returns-in_default : goal.returns-in_default
returns-in_default c =
    c.ended.ensures ∙ walk_end c.loop-e.invariant c.forward-s.ensures (other_step c.forward-s.result c.in_default.not-Record)

pub stands-requires : goal.stands-requires
stands-requires c =
    (steps _ _ c.loop-e.invariant.shut _ c.forward-s.ensures c.in-Record.is).whole

pub returns-then-not-stands : goal.returns-then-not-stands
returns-then-not-stands c =
    walk_fails c.loop-e.invariant (steps _ _ c.loop-e.invariant.shut _ c.forward-s.ensures c.in-Record.is)
    (flag c.stands.ensures c.if-not-stands.true)

pub noted-x-requires : goal.noted-x-requires
noted-x-requires c =
    (steps _ _ c.loop-e.invariant.shut _ c.forward-s.ensures c.in-Record.is).whole

pub loop-e-smaller : goal.loop-e-smaller
loop-e-smaller c =
    (steps _ _ c.loop-e.invariant.shut _ c.forward-s.ensures c.in-Record.is).onward.less

pub loop-e-preserved : goal.loop-e-preserved
loop-e-preserved c =
    walk_step c.loop-e.invariant (steps _ _ c.loop-e.invariant.shut _ c.forward-s.ensures c.in-Record.is) c.noted-x.ensures
    (flag c.stands.ensures c.if-not-stands.false)
