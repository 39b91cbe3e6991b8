-- The numbers of the plan's answer, through pointers.
use Rattle.std.proofs.Common.{refl}
use Rattle.laws.specs.Nameless.{sweep_planned_nameless}
use Rattle.spec.specs.Numbers.{of_sweep, Numbers}
use Rattle.spec.specs.Planner.{Handing}
use Rattle.window.specs.Handed.{slices}
use Rattle.calls.specs.Numbers.{swept_given, nameless}
use Rattle.plans.specs.Planned.{handing, handed_of, converts_answer}
use Rattle.lilota.proofs.c_plan.lilota_plan_sweep.Goals as goal

pub returns : goal.returns
returns c =
    let n = c.from-n.result in
    let p = c.plan_sweep-p in
    let out : Numbers → Handing = λ m. handing m (handed_of p.result) (slices p.new.kinds p.new.addresses p.new.bytes) in
    let e = swept_given out _ _ (converts_answer _ p.result _ c.from-n.ensures) p.ensures.0 in
    rw (c.tell_space.ensures, c.handed.ensures)
    (nameless out (λ o. o.numbers.name) (λ m. refl) (of_sweep n.answer n.moves n.space n.steps) _ e (sweep_planned_nameless _ _ _), refl)
