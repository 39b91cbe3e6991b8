-- The numbers of sweep's answer, through pointers.
use Rattle.std.proofs.Common.{refl}
use Rattle.laws.specs.Nameless.{sweep_nameless}
use Rattle.spec.specs.Numbers.{of_sweep, Numbers, Outcome, outcome_of}
use Rattle.calls.specs.Numbers.{swept_given, nameless}
use Rattle.lilota.proofs.c.lilota_sweep.Goals as goal

pub returns : goal.returns
returns c =
    let n = c.from-n.result in
    let out : Numbers → Outcome = λ m. outcome_of m c.sweep.new.image in
    let e = swept_given out _ _ c.from-n.ensures c.sweep.ensures.0 in
    rw c.tell_space.ensures
    (nameless out (λ o. o.numbers.name) (λ m. refl) (of_sweep n.answer n.moves n.space n.steps) _ e (sweep_nameless _ _))
