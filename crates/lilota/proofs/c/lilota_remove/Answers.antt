-- The numbers of remove's answer, through pointers.
use Rattle.spec.specs.Numbers.{outcome_of}
use Rattle.calls.specs.Numbers.{written_given}
use Rattle.lilota.proofs.c.lilota_remove.Goals as goal

pub returns : goal.returns
returns c =
    rw c.tell_fault.ensures (written_given (λ m. outcome_of m c.remove.new.image) _ _ c.from-n.ensures c.remove.ensures.0)
