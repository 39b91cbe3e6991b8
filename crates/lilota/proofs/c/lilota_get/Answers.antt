-- The numbers of get's answer, through pointers.
use Rattle.spec.specs.Numbers.{outcome_of}
use Rattle.calls.specs.Numbers.{located_given}
use Rattle.lilota.proofs.c.lilota_get.Goals as goal

pub returns : goal.returns
returns c =
    rw c.tell_fault.ensures (located_given (λ m. outcome_of m c.args.image.now) _ _ c.from-n.ensures c.get_place.ensures.0)
