use Rattle.std.proofs.Common.{sym, ◌∙◌}
use Rattle.checking.specs.Last.{sound_settled, sound_recovery}
use Rattle.checking.proofs.verdict.sound.Goals as goal

pub returns-then-j : goal.returns-then-j
returns-then-j c = sound_settled _ _ _ c.requires.1 c.if-j.true

pub first_repair-requires : goal.first_repair-requires
first_repair-requires c = (c.requires.0, sym c.requires.1 ∙ c.if-j.false)

pub returns : goal.returns
returns c = sound_recovery _ _ _ _ c.requires.1 c.if-j.false (c.number-number.ensures ∙ c.first_repair.ensures)
