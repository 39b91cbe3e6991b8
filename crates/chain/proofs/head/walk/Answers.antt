use Rattle.laws.specs.Flag.{flag}
use Rattle.chain.specs.HeadLaws.{walked_start, walked_torn, walked_stop, walked_step}
use Rattle.chain.proofs.Others.{other_next}
use native.Mathlib.Omega.{arith}
use Rattle.chain.proofs.head.walk.Goals as goal

pub loop-at-init : goal.loop-at-init
loop-at-init c = walked_start _

pub walk_plain-at-requires : goal.walk_plain-at-requires
walk_plain-at-requires c = (c.loop-at.invariant, c.requires)

pub torn_here-requires : goal.torn_here-requires
torn_here-requires c = omega arith

pub overflow_add-result : goal.overflow_add-result
overflow_add-result c = omega arith

pub returns-then-torn_here : goal.returns-then-torn_here
returns-then-torn_here c = (
  walked_torn _ _ c.walk_plain-at.ensures.0
      (flag c.torn_here.ensures c.if-torn_here.true),
  omega arith,
)

pub walk_next-requires : goal.walk_next-requires
walk_next-requires c = omega arith

pub returns-in_default : goal.returns-in_default
returns-in_default c =
    let x = c.walk_next.result in (
      walked_stop _ _ c.walk_plain-at.ensures.0 x (flag c.torn_here.ensures c.if-torn_here.false)
          c.walk_next.ensures.0 (other_next x c.in_default.not-Record),
      omega arith,
    )

pub size-at-requires : goal.size-at-requires
size-at-requires c = let w = rw c.in-Record.is at c.walk_next.ensures.1 in omega arith

pub overflow_add-at : goal.overflow_add-at
overflow_add-at c = let w = rw c.in-Record.is at c.walk_next.ensures.1 in omega arith

pub loop-at-smaller : goal.loop-at-smaller
loop-at-smaller c = let w = rw c.in-Record.is at c.walk_next.ensures.1 in omega arith

pub loop-at-preserved : goal.loop-at-preserved
loop-at-preserved c =
    let w = rw c.in-Record.is at c.walk_next.ensures.1 in
    rw c.size-at.ensures
    (walked_step _ _ c.walk_plain-at.ensures.0 c.walk_next.result (flag c.torn_here.ensures c.if-torn_here.false)
    c.walk_next.ensures.0
    c.in-Record.n c.in-Record.d c.in-Record.is (omega arith))
