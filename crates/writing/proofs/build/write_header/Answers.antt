-- The phases one after another; the four length bytes are those that four_of gives.
use Rattle.flash.specs.Did.{did_both}
use Rattle.writing.proofs.build.write_header.Goals as goal

pub returns : goal.returns
returns c =
    did_both
    (did_both
    (did_both c.program-a.ensures
    c.program-b.ensures) (rw c.four_of-four.ensures at c.program_bytes-c.ensures))
    c.set_status.ensures
