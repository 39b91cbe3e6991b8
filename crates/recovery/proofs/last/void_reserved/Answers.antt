-- The name's end, then the status.
use Rattle.flash.specs.Did.{did_both}
use Rattle.recovery.specs.Last.{reserved_is}
use Rattle.recovery.proofs.last.void_reserved.Goals as goal

pub returns-clause-fact : goal.returns-clause-fact
returns-clause-fact c =
    rw (reserved_is c.args.image.now c.args.e c.requires.whole) (did_both c.end_name-a.ensures.fact c.void_status.ensures)
