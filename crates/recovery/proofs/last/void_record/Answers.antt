-- By the status.
use Rattle.flash.specs.Did.{did_none}
use Rattle.recovery.specs.Last.{void_torn, void_reserved, void_finished}
use Rattle.recovery.proofs.last.void_record.Goals as goal

pub returns-then-status-clause-fact : goal.returns-then-status-clause-fact
returns-then-status-clause-fact c = rw (void_torn c.args.image.now c.args.e c.if-status.true) c.void_torn.ensures

pub returns-then-status-2-clause-fact : goal.returns-then-status-2-clause-fact
returns-then-status-2-clause-fact c =
    rw (void_reserved c.args.image.now c.args.e c.if-status-2.true) c.void_reserved.ensures.fact

pub returns-clause-fact : goal.returns-clause-fact
returns-clause-fact c =
    rw (void_finished c.args.image.now c.args.e c.if-status.false c.if-status-2.false) (did_none c.args.image.now c.args.m)
