-- The numbers of the plan's answer, through pointers.
use Rattle.std.proofs.Common.{refl}
use Rattle.spec.specs.Numbers.{Numbers}
use Rattle.window.specs.Handed.{slices}
use Rattle.calls.specs.Numbers.{stored_given}
use Rattle.plans.specs.Planned.{handing, handed_of, converts_answer}
use Rattle.lilota.proofs.c_plan.lilota_plan_put.Goals as goal

pub returns : goal.returns
returns c =
    let p = c.plan_put-p in
    rw (c.tell_fault.ensures, c.tell_space.ensures, c.handed.ensures) (
      stored_given (λ (m : Numbers). handing m (handed_of p.result) (slices p.new.kinds p.new.addresses p.new.bytes)) _ _
          (converts_answer _ p.result _ c.from-n.ensures) p.ensures.0,
      refl,
    )
