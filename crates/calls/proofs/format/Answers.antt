-- A bad length is refused; else the answer is read off the meter that format_image leaves.
use Rattle.std.proofs.Common.{refl, ◌∙◌, arith, length}
use Rattle.spec.specs.declared.Refusal.{Refusal}
use Rattle.laws.specs.Flag.{flag}
use Rattle.laws.specs.Length.{good}
use Rattle.calls.specs.Numbers.{refusal_told}
use Rattle.calls.specs.Carry.{carried}
use Rattle.calls.specs.Format.{format_bad, format_good}
use Rattle.calls.proofs.format.Goals as goal

pub returns-then-not-good_length : goal.returns-then-not-good_length
returns-then-not-good_length c =
    let a = c.args in
    (format_bad a.image.now a.allowance (flag c.good_length.ensures c.if-not-good_length.true), refusal_told Refusal.BadLength)

pub format_image-requires : goal.format_image-requires
format_image-requires c =
    let long = length c.args.image.now in
    let g = good long (flag c.good_length.ensures c.if-not-good_length.false) in
    (omega (arith, g.two), g.most, omega (arith, g.most))

pub returns : goal.returns
returns c =
    let a = c.args in
    rw c.ended.ensures (
      carried a.allowance refl refl c.format_image.ensures
          ∙ format_good a.image.now a.allowance (flag c.good_length.ensures c.if-not-good_length.false),
      tt,
    )
