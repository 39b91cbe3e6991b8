-- Nothing found is 2; else the one step, and the answer is read off its meter.
use Rattle.std.proofs.Common.{refl, sym, ap, ◌∙◌}
use Rattle.spec.specs.Refusals.{numbered}
use Rattle.spec.specs.Answers.{carry_out, found, removing}
use Rattle.chain.specs.Answers.{Found}
use Rattle.chain.specs.Seek.{found_in}
use Rattle.calls.specs.Numbers.{refusal_told}
use Rattle.calls.specs.Carry.{carried, refused}
use Rattle.spec.specs.declared.Refusal.{Refusal}
use Rattle.calls.proofs.remove.remove_from.Goals as goal

pub returns-in_default : goal.returns-in_default
returns-in_default c =
    let a = c.args in
    let s = a.image.now in (
      refused s a.allowance (numbered 2)
          ∙ ap (λ (f : Found). carry_out s a.allowance (found removing (found_in s f))) (sym c.in_default.is),
      refusal_told Refusal.NoFile,
    )

pub returns : goal.returns
returns c =
    let a = c.args in
    let s = a.image.now in
    rw c.ended.ensures (
      carried a.allowance refl refl c.set_status.ensures
          ∙ ap (λ (f : Found). carry_out s a.allowance (found removing (found_in s f))) (sym c.in-Some.is),
      tt,
    )
