-- The numbers of the length's answer, through pointers.
use Rattle.calls.specs.Numbers.{told}
use Rattle.calls.specs.Length.{length_given}
use Rattle.lilota.proofs.c_length.lilota_length.Goals as goal

pub returns : goal.returns
returns c =
    rw c.tell_fault.ensures (length_given _ (told c.of_length-n.result) c.of_length-n.ensures c.file_length.ensures)
