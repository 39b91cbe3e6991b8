use Rattle.laws.specs.Flag.{flag}
use Rattle.chain.specs.Skip.{skips_none, skips_more}
use native.Mathlib.Omega.{arith}
use Rattle.chain.proofs.skip.skip_others.Goals as goal

pub loop-left-init : goal.loop-left-init
loop-left-init c = skips_none c.requires

pub near-s-requires : goal.near-s-requires
near-s-requires c = c.loop-left.invariant.gone.sound

pub returns-in_default : goal.returns-in_default
returns-in_default c = c.loop-left.invariant

pub is_file_named-requires : goal.is_file_named-requires
is_file_named-requires c = (rw c.in-Some.is at c.near-s.ensures).0.whole

pub returns-then-is_file_named : goal.returns-then-is_file_named
returns-then-is_file_named c = c.loop-left.invariant

pub loop-left-smaller : goal.loop-left-smaller
loop-left-smaller c =
    (rw c.in-Some.is at c.near-s.ensures).0.onward.less

pub loop-left-preserved : goal.loop-left-preserved
loop-left-preserved c =
    let loop = c.loop-left in
    skips_more loop.invariant (rw c.in-Some.is at c.near-s.ensures).0 (flag c.is_file_named.ensures c.if-is_file_named.false)
    (omega arith)

pub returns : goal.returns
returns c = c.loop-left.invariant
