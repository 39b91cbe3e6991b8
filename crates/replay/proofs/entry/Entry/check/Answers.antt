-- The three tests in their order, one to each way out.
use Rattle.std.proofs.Common.{sym}
use borrow.Author.Rules.{rules}
use Rattle.laws.specs.Flag.{flag}
use Rattle.replay.specs.Entry.{range_in, fault_range, fault_erase, fault_clears, fault_sets, fault_kind}
use Rattle.replay.proofs.entry.Entry.check.Goals as goal

pub returns-then-out_of_range : goal.returns-then-out_of_range
returns-then-out_of_range c = sym (fault_range _ _ _ _ (flag c.out_of_range.ensures c.if-out_of_range.true))

pub returns-in-2 : goal.returns-in-2
returns-in-2 c = sym (fault_erase _ _ _ _ (flag c.out_of_range.ensures c.if-out_of_range.false) c.in-2.is)

pub bounds-image-self : goal.bounds-image-self
bounds-image-self c = range_in _ _ _ _ (flag c.out_of_range.ensures c.if-out_of_range.false)

pub returns-in-1 : goal.returns-in-1
returns-in-1 c =
    sym (fault_clears _ _ _ _ (flag c.out_of_range.ensures c.if-out_of_range.false) c.in-1.is
    (flag c.only_clears.ensures c.if-only_clears.true))

pub returns-in-1-2 : goal.returns-in-1-2
returns-in-1-2 c =
    sym (fault_sets _ _ _ _ (flag c.out_of_range.ensures c.if-out_of_range.false) c.in-1.is
    (flag c.only_clears.ensures c.if-only_clears.false))

pub returns-in_default : goal.returns-in_default
returns-in_default c = sym (fault_kind _ _ _ _ (flag c.out_of_range.ensures c.if-out_of_range.false) (search rules) (search rules))
