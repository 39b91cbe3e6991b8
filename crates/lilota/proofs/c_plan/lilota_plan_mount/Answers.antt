-- The numbers of the plan's answer, through pointers.
use Rattle.std.proofs.Common.{refl}
use Rattle.laws.specs.Nameless.{mount_planned_nameless}
use Rattle.spec.specs.Numbers.{of_mount, Numbers}
use Rattle.spec.specs.Planner.{Handing}
use Rattle.window.specs.Handed.{slices}
use Rattle.calls.specs.Numbers.{mounted_given, nameless}
use Rattle.plans.specs.Planned.{handing, handed_of, converts_answer}
use Rattle.lilota.proofs.c_plan.lilota_plan_mount.Goals as goal

pub returns : goal.returns
returns c =
    let n = c.from-n.result in
    let p = c.plan_mount-p in
    let out : Numbers → Handing = λ m. handing m (handed_of p.result) (slices p.new.kinds p.new.addresses p.new.bytes) in
    let e = mounted_given out _ _ (converts_answer _ p.result _ c.from-n.ensures) p.ensures.0 in
    rw (c.tell_space.ensures, c.handed.ensures)
    (nameless out (λ o. o.numbers.name) (λ m. refl) (of_mount n.answer n.report n.space n.steps) _ e (mount_planned_nameless _ _ _), refl)
