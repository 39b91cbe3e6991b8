-- The numbers of mount's answer, through pointers.
use Rattle.std.proofs.Common.{refl}
use Rattle.laws.specs.Nameless.{mount_nameless}
use Rattle.spec.specs.Numbers.{of_mount, Numbers, Outcome, outcome_of}
use Rattle.calls.specs.Numbers.{mounted_given, nameless}
use Rattle.lilota.proofs.c.lilota_mount.Goals as goal

pub returns : goal.returns
returns c =
    let n = c.from-n.result in
    let out : Numbers → Outcome = λ m. outcome_of m c.mount.new.image in
    let e = mounted_given out _ _ c.from-n.ensures c.mount.ensures.0 in
    rw c.tell_space.ensures
    (nameless out (λ o. o.numbers.name) (λ m. refl) (of_mount n.answer n.report n.space n.steps) _ e (mount_nameless _ _))
