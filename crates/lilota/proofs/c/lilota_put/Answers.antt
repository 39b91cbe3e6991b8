-- The numbers of put's answer, through pointers.
use Rattle.spec.specs.Numbers.{outcome_of}
use Rattle.calls.specs.Numbers.{stored_given}
use Rattle.lilota.proofs.c.lilota_put.Goals as goal

pub returns : goal.returns
returns c =
    rw (c.tell_fault.ensures, c.tell_space.ensures)
    (stored_given (λ m. outcome_of m c.put.new.image) _ _ c.from-n.ensures c.put.ensures.0)
