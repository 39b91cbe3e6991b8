-- A sector that is all FF has no step.
use native.Mathlib.Omega.{arith}
use Rattle.flash.specs.Did.{did_none}
use Rattle.recovery.specs.DirtySectors.{dirty_is, erase_kept, erased_behind}
use Rattle.recovery.proofs.sectors.erase_if_dirty.Goals as goal

pub returns-then-is_blank-clause-fact : goal.returns-then-is_blank-clause-fact
returns-then-is_blank-clause-fact c =
    let a = c.args in
    rw (erase_kept a.image.now a.at (dirty_is a.image.now a.at c.is_blank.ensures c.if-is_blank.true)) (did_none a.image.now a.m)

pub returns-clause-fact : goal.returns-clause-fact
returns-clause-fact c =
    let a = c.args in
    rw (erase_kept a.image.now a.at (dirty_is a.image.now a.at c.is_blank.ensures c.if-is_blank.false)) c.erase.ensures

pub returns-clause-by_index : goal.returns-clause-by_index
returns-clause-by_index c k h = erased_behind c.args.at k h (omega arith) c.erase.ensures
