use native.Mathlib.Omega.{arith}
use Rattle.laws.specs.Flag.{flag}
use Rattle.chain.specs.Fold.{passes, fold_start, fold_both}
use Rattle.chain.specs.FileLaws.{is_file}
use Rattle.chain.specs.Seek.{nth_over, nth_found, nth_onward, nth_skip}
use Rattle.chain.proofs.Others.{other_step}
use Rattle.chain.proofs.files.file_indexed.Goals as goal

pub loop-e-init : goal.loop-e-init
loop-e-init c = fold_start _ _ _ _ c.requires

pub skip_files-o-requires : goal.skip_files-o-requires
skip_files-o-requires c = c.loop-e.invariant.sound

pub advance-requires : goal.advance-requires
advance-requires c = c.skip_files-o.ensures.0.sound

pub returns-in_default : goal.returns-in_default
returns-in_default c =
    let adv = c.advance in
    let w = fold_both _ _ _ _ c.loop-e.invariant c.skip_files-o.ensures.0 in
    (nth_over is_file w adv.result adv.ensures.0 (other_step adv.result c.in_default.not-Record), tt)

pub is_file-requires : goal.is_file-requires
is_file-requires c = (passes c.advance.ensures c.in-Record.is).whole

pub returns-then-left-eq0 : goal.returns-then-left-eq0
returns-then-left-eq0 c =
    let w = fold_both _ _ _ _ c.loop-e.invariant c.skip_files-o.ensures.0 in
    let t = passes c.advance.ensures c.in-Record.is in
    (nth_found is_file w t (flag c.is_file.ensures c.if-is_file.true) c.if-left-eq0.true, t.whole)

pub loop-e-smaller-else-left-eq0 : goal.loop-e-smaller-else-left-eq0
loop-e-smaller-else-left-eq0 c =
    omega (arith, (passes c.advance.ensures c.in-Record.is).onward.less, c.skip_files-o.ensures.1)

pub loop-e-preserved-else-left-eq0 : goal.loop-e-preserved-else-left-eq0
loop-e-preserved-else-left-eq0 c =
    let w = fold_both _ _ _ _ c.loop-e.invariant c.skip_files-o.ensures.0 in
    let t = passes c.advance.ensures c.in-Record.is in
    nth_onward is_file w t (flag c.is_file.ensures c.if-is_file.true) c.if-left-eq0.false

pub loop-e-smaller : goal.loop-e-smaller
loop-e-smaller c =
    omega (arith, (passes c.advance.ensures c.in-Record.is).onward.less, c.skip_files-o.ensures.1)

pub loop-e-preserved : goal.loop-e-preserved
loop-e-preserved c =
    let w = fold_both _ _ _ _ c.loop-e.invariant c.skip_files-o.ensures.0 in
    let t = passes c.advance.ensures c.in-Record.is in
    nth_skip is_file w t (flag c.is_file.ensures c.if-is_file.false)
