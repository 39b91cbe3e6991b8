-- By the status of the old file, if there is one.
use Rattle.std.proofs.Common.{rules}
use Rattle.spec.specs.Bytes.{is_committed}
use Rattle.spec.specs.Write.{migrate_steps}
use Rattle.window.specs.Handed.{handed_none}
use Rattle.window.proofs.Emitter.migrate.Goals.{in_default-via-in-None-1, in_default-via-in-Some+else-eq}
use Rattle.window.proofs.Emitter.migrate.Goals as goal

pub returns-then-eq : goal.returns-then-eq
unfolding is_committed
returns-then-eq c =
    rw (c.in-Some.is, migrate_steps, is_committed, ← c.if-eq.ensures) c.status.ensures

pub returns-in_default : goal.returns-in_default
unfolding is_committed
returns-in_default c =
    elim c.in_default.branch [
      | in_default-via-in-None-1 u ↦ search (rules, handed_none)
      | in_default-via-in-Some+else-eq u ↦
          rw (u.in-Some.is, migrate_steps, is_committed, ← u.if-eq.ensures) (handed_none c.args.self.now)
    ]
