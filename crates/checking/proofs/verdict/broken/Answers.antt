use Rattle.std.proofs.Common.{sym, ap, ◌∙◌}
use Rattle.chain.specs.HeadLaws.{headed}
use Rattle.checking.specs.Last.{unlawful, verdict_headed, verdict_headless}
use Rattle.checking.proofs.verdict.broken.Goals as goal

pub broken_from-requires : goal.broken_from-requires
broken_from-requires c = (
  rw c.in-Ok.is at c.head.ensures.1,
  c.requires.0,
  unlawful _ _ (sym (ap headed c.in-Ok.is) ∙ c.head.ensures.0) c.requires.1,
)

pub returns-in-Ok : goal.returns-in-Ok
returns-in-Ok c = verdict_headed _ _ _ (sym (ap headed c.in-Ok.is) ∙ c.head.ensures.0) c.broken_from.ensures

pub returns-in-Err : goal.returns-in-Err
returns-in-Err c = verdict_headless _ _ (sym (ap headed c.in-Err.is) ∙ c.head.ensures.0)
