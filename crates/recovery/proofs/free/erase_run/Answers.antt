-- Before the turn two stretches, of which the first lies below the second.
use Rattle.recovery.specs.Free.{run_turned, run_unturned}
use Rattle.recovery.proofs.free.erase_run.Goals as goal

pub returns-then-p-clause-fact : goal.returns-then-p-clause-fact
returns-then-p-clause-fact c =
    rw (run_turned c.args.image.now c.args.p c.if-p.true)
    (rw (c.ceiling-from.ensures.value, c.floor-low.ensures.0) at c.erase_dirty.ensures.fact)

pub returns-clause-fact : goal.returns-clause-fact
returns-clause-fact c =
    run_unturned c.args.image.now c.args.p c.floor-low.ensures.0 c.ceiling-from.ensures.value c.if-p.false
    (c.requires.head_le_tail c.if-p.false) c.erase_dirty-a.ensures.image_unchanged c.erase_dirty-a.ensures.fact
    c.erase_dirty-2.ensures.fact
