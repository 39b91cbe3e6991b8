-- Behind the first record, where there is one; else nothing is left.
use Rattle.std.proofs.Common.{refl, sym, ap, ◌∙◌}
use Rattle.chain.specs.Fold.{passes}
use Rattle.chain.proofs.Others.{other_step}
use Rattle.planning.specs.Told.{later}
use Rattle.planner.specs.Superseded.{entries_on, entries_end}
use Rattle.planner.proofs.superseded.behind_first.Goals as goal

pub returns-then-not-gone : goal.returns-then-not-gone
returns-then-not-gone c =
    (c.requires, rw c.if-not-gone.true refl)

pub returns-in-Record : goal.returns-in-Record
returns-in-Record c =
    let a = c.args in
    let t = passes c.advance.ensures c.in-Record.is in
    (t.onward.sound, rw c.if-not-gone.false (sym (ap later (entries_on a.image.now a.start c.in-Record.spot c.in-Record.next t))))

pub returns-in_default : goal.returns-in_default
returns-in_default c =
    let a = c.args in
    let r = c.advance in
    let none = entries_end a.image.now a.start r.result r.ensures.0 (other_step r.result c.in_default.not-Record) in
    (c.requires, rw c.if-not-gone.false (none ∙ sym (ap later none)))
