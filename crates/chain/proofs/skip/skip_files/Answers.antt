use native.Mathlib.Omega.{arith}
use Rattle.laws.specs.Flag.{flag}
use Rattle.chain.specs.Fold.{fold_start}
use Rattle.chain.specs.FileLaws.{is_file}
use Rattle.chain.specs.Seek.{nth_onward, nth_skip}
use Rattle.chain.proofs.skip.skip_files.Goals as goal

pub loop-e-init : goal.loop-e-init
loop-e-init c = (fold_start _ _ _ _ c.requires, omega arith)

pub near-s-requires : goal.near-s-requires
near-s-requires c = c.loop-e.invariant.0.sound

pub returns-in_default : goal.returns-in_default
returns-in_default c = c.loop-e.invariant

pub is_file-requires : goal.is_file-requires
is_file-requires c = (rw c.in-Some.is at c.near-s.ensures).0.whole

pub returns-then-more-eq0 : goal.returns-then-more-eq0
returns-then-more-eq0 c = c.loop-e.invariant

pub loop-e-smaller-else-more-eq0 : goal.loop-e-smaller-else-more-eq0
loop-e-smaller-else-more-eq0 c =
    (rw c.in-Some.is at c.near-s.ensures).0.onward.less

pub loop-e-preserved-else-more-eq0 : goal.loop-e-preserved-else-more-eq0
loop-e-preserved-else-more-eq0 c =
    let inv = c.loop-e.invariant in
    let w = rw c.in-Some.is at c.near-s.ensures in
    let f = flag c.is_file.ensures c.if-is_file.true in
    (nth_onward is_file inv.0 w.0 f c.if-more-eq0.false, omega (arith, inv.1, w.0.onward.less))

pub loop-e-smaller : goal.loop-e-smaller
loop-e-smaller c =
    (rw c.in-Some.is at c.near-s.ensures).0.onward.less

pub loop-e-preserved : goal.loop-e-preserved
loop-e-preserved c =
    let inv = c.loop-e.invariant in
    let w = rw c.in-Some.is at c.near-s.ensures in
    (nth_skip is_file inv.0 w.0 (flag c.is_file.ensures c.if-is_file.false), omega (arith, inv.1, w.0.onward.less))
