-- The nine steps one after another.
use Rattle.flash.specs.Did.{did_both}
use Rattle.recovery.proofs.last.build_void.Goals as goal

pub returns : goal.returns
returns c =
    did_both c.program-a.ensures (did_both c.program-b.ensures
    (did_both c.program_bytes-c.ensures c.void_status.ensures))
