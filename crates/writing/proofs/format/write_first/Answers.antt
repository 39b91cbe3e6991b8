-- The phases one after another.
use Rattle.flash.specs.Did.{did_both}
use Rattle.writing.proofs.format.write_first.Goals as goal

pub returns : goal.returns
returns c =
    did_both c.program_bytes-a.ensures
    (did_both c.set_status-b.ensures
    (did_both c.program-c.ensures
    c.program.ensures))
