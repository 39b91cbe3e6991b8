-- One step, done if the allowance has one left.
use Prim.Native.Nat.{◌-◌}
use mathlib.Core.Path.{◌∙◌}
use native.Mathlib.Omega.{arith}
use Rattle.std.proofs.Common.{length-take, length-drop}
use Rattle.spec.specs.Step.{erase}
use Rattle.flash.specs.Did.{one_in, one_out}
use Rattle.flash.specs.Sector.{filled_erased}
use Rattle.flash.proofs.erase.Goals as goal
use Rattle.flash.proofs.erase.Goals.{then-m, else-m}

pub returns : goal.returns
returns c =
    let a = c.args in
    let k = a.m.allowance - a.m.asked in
    elim c.if-m.branch [
      | then-m w ↦ record {
        bytes =
            w.image-is ∙ filled_erased a.image.now a.at _ _ (omega arith) (simp (length-take, length-drop) (omega arith))
            (w.fill.ensures.after (λ y e. e))
            ∙ one_in a.image.now k (erase a.at) (omega arith);
        count = c.counted.ensures.0;
        same = c.counted.ensures.1;
      }
      | else-m w ↦ record {
        bytes = w.image-is ∙ one_out a.image.now k (erase a.at) (omega arith);
        count = c.counted.ensures.0;
        same = c.counted.ensures.1;
      }
    ]
