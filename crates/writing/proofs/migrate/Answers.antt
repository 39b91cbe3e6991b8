-- A committed old file gets its step, another none.
use Rattle.std.proofs.Common.{◌≡◌, true, false, sym, ◌∙◌}
use Rattle.spec.specs.Bytes.{is_committed}
use Rattle.spec.specs.Write.{migrate_steps}
use Rattle.flash.specs.Did.{did_none}
use Rattle.writing.proofs.migrate.Goals as goal

pub returns-in-Some : goal.returns-in-Some
unfolding is_committed
returns-in-Some c =
    let is = c.in-Some.is in
    let e : is_committed c.in-Some.field-0.status.byte ≡ true = sym (rw is at c.eq.ensures) ∙ c.if-eq.true in
    rw (is, e, migrate_steps) (rw is at c.set_status.ensures)

pub returns-in_default : goal.returns-in_default
unfolding is_committed
returns-in_default c =
    let is = c.in-Some.is in
    let e : is_committed c.in-Some.field-0.status.byte ≡ false = sym (rw is at c.eq.ensures) ∙ c.if-eq.false in
    rw (is, e, migrate_steps) (did_none c.args.image.now c.args.m)
