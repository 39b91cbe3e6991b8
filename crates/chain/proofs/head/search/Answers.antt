use Rattle.laws.specs.Flag.{flag}
use Rattle.chain.specs.HeadLaws.{sought_start, sought_hit, sought_end}
use Rattle.chain.specs.HeadSkip.{sought_skip}
use native.Mathlib.Omega.{arith}
use Rattle.chain.proofs.head.search.Goals as goal

pub loop-at-init : goal.loop-at-init
loop-at-init c = sought_start _ _ c.requires.1

pub mark_here-requires : goal.mark_here-requires
mark_here-requires c = omega arith

pub loop-at-smaller : goal.loop-at-smaller
loop-at-smaller c = omega (arith, c.past_blank-at.ensures.far, c.past_blank-at.ensures.inside)

pub loop-at-preserved : goal.loop-at-preserved
loop-at-preserved c =
    sought_skip _ _ _ _ c.loop-at.invariant (flag c.mark_here.ensures c.if-mark_here.false)
    c.if-image-at.false
    c.past_blank-at.ensures

pub returns-then-mark_here : goal.returns-then-mark_here
returns-then-mark_here c = (sought_hit _ _ _ c.loop-at.invariant (flag c.mark_here.ensures c.if-mark_here.true), omega arith)

pub returns-then-image-at : goal.returns-then-image-at
returns-then-image-at c = (
  sought_end _ _ _ c.loop-at.invariant (flag c.mark_here.ensures c.if-mark_here.false)
      c.if-image-at.true,
  omega arith,
)
