-- marks_ok: the tally tells of all records but the first two, and these are compared.
use mathlib.Core.Path.{refl, ◌∙◌}
use Rattle.laws.specs.Flag.{flag_not}
use Rattle.reading.specs.RuleLaws.{marks_none, marks_further, marks_second}
use Rattle.reading.proofs.rules.marks_ok.Goals as goal

pub returns-then-t-lt2 : goal.returns-then-t-lt2
returns-then-t-lt2 c = marks_none c.requires c.if-t-lt2.true

pub second_ok-requires : goal.second_ok-requires
second_ok-requires c =
    let p = c.requires in
    (p.sound, p.spots.first, p.spots.second)

pub returns-then-not-t : goal.returns-then-not-t
returns-then-not-t c = c.second_ok.ensures ∙ marks_second c.requires c.if-t-lt2.false (flag_not refl c.if-not-t.true)

pub returns-else-not-t : goal.returns-else-not-t
returns-else-not-t c = rw c.if-not-t.false (marks_further c.requires c.if-t-lt2.false (flag_not refl c.if-not-t.false))
