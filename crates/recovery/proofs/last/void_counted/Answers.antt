-- The last record is the one that the tally names.
use Rattle.flash.specs.Did.{did_none}
use Rattle.recovery.specs.Last.{none_counted, last_counted}
use Rattle.recovery.proofs.last.void_counted.Goals as goal

pub returns-then-t-eq0-clause-fact : goal.returns-then-t-eq0-clause-fact
returns-then-t-eq0-clause-fact c =
    rw (none_counted c.requires.tallied c.if-t-eq0.true) (did_none c.args.image.now c.args.m)

pub returns-clause-fact : goal.returns-clause-fact
returns-clause-fact c = rw (last_counted c.requires.tallied c.if-t-eq0.false) c.void_record.ensures.fact
