use Rattle.laws.specs.Flag.{flag}
use Rattle.chain.specs.Fold.{passes, fold_start}
use Rattle.chain.specs.FileLaws.{is_file}
use Rattle.chain.specs.Skip.{first_beyond}
use Rattle.chain.specs.Seek.{first_over, first_found, first_other, first_skip}
use Rattle.spec.specs.Files.{has_name}
use Rattle.chain.proofs.Others.{other_step}
use native.Mathlib.Omega.{arith}
use Rattle.chain.proofs.files.file_named.Goals as goal
use Rattle.chain.proofs.files.file_named.Goals.{else-is_file-via-then-is_file+else-has_name, else-is_file-via-else-is_file}

pub loop-e-init : goal.loop-e-init
loop-e-init c = fold_start _ _ _ _ c.requires

pub skip_others-o-requires : goal.skip_others-o-requires
skip_others-o-requires c = c.loop-e.invariant.sound

pub advance-requires : goal.advance-requires
advance-requires c = c.skip_others-o.ensures.gone.sound

pub returns-in_default : goal.returns-in_default
returns-in_default c =
    let adv = c.advance in (
      first_over (has_name c.args.name.now) is_file (first_beyond c.loop-e.invariant c.skip_others-o.ensures) adv.result
          adv.ensures.0 (other_step adv.result c.in_default.not-Record),
      tt,
    )

pub is_file-requires : goal.is_file-requires
is_file-requires c = (passes c.advance.ensures c.in-Record.is).whole

pub has_name-requires : goal.has_name-requires
has_name-requires c =
    (passes c.advance.ensures c.in-Record.is).whole

pub returns-then-has_name : goal.returns-then-has_name
returns-then-has_name c =
    let t = passes c.advance.ensures c.in-Record.is in (
      first_found (has_name c.args.name.now) is_file (first_beyond c.loop-e.invariant c.skip_others-o.ensures) t
          (flag c.is_file.ensures c.if-is_file.true)
          (flag c.has_name.ensures c.if-has_name.true),
      t.whole,
    )

pub loop-e-smaller : goal.loop-e-smaller
loop-e-smaller c =
    omega (arith, (passes c.advance.ensures c.in-Record.is).onward.less, c.skip_others-o.ensures.gone.few)

pub loop-e-preserved : goal.loop-e-preserved
loop-e-preserved c =
    let t = passes c.advance.ensures c.in-Record.is in
    let w = first_beyond c.loop-e.invariant c.skip_others-o.ensures in
    elim c.else-is_file.branch [
      | else-is_file-via-then-is_file+else-has_name v ↦
          first_other (has_name c.args.name.now) is_file w t (flag c.is_file.ensures v.if-is_file.true)
          (flag v.has_name.ensures v.if-has_name.false)
      | else-is_file-via-else-is_file v ↦
          first_skip (has_name c.args.name.now) is_file w t (flag c.is_file.ensures v.if-is_file.false)
    ]
