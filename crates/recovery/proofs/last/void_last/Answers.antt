-- The last record, then the torn wrap.
use Rattle.recovery.specs.Last.{ended_last}
use Rattle.recovery.proofs.last.void_last.Goals as goal

pub returns-clause-fact : goal.returns-clause-fact
returns-clause-fact c =
    ended_last c.args.h c.survey-s.result c.survey-s.ensures c.void_counted-a.ensures.fact c.finish_wrap.ensures.did
