-- On a settled image the tally has both.
use Rattle.std.proofs.Common.{sym, ◌∙◌}
use Rattle.reading.specs.RuleLaws.{settled_quiet}
use Rattle.reading.specs.Read.{reading_of}
use Rattle.space.proofs.counting.count_any.Goals as goal

pub count-requires : goal.count-requires
count-requires c =
    let a = c.args in
    let p = c.requires in
    (p.0, settled_quiet a.image.now (reading_of a.image.now a.s) (sym p.1 ∙ c.if-idle.true))
