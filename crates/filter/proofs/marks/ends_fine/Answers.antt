-- ends_fine: the tests in their order; the definitions go to the last byte, which the code reads at once.
use mathlib.Core.Path.{ap}
use mathlib.Core.Bool.{not}
use native.Mathlib.Omega.{arith}
use borrow.Author.Tests.{eq-eqb, ne_eqb}
use Rattle.laws.specs.Spaces.{space_last}
use Rattle.record.specs.NameLaws.{slash_last}
use Rattle.record.specs.Flags.{and_first, and_second}
use Rattle.filter.specs.Marks.{fine_space, fine_more}
use Rattle.filter.proofs.marks.ends_fine.Goals as goal

pub returns-in-empty-2 : goal.returns-in-empty-2
returns-in-empty-2 c = fine_space c.args.name.now (omega arith) (omega arith)

pub returns-then-last-ne32 : goal.returns-then-last-ne32
returns-then-last-ne32 c =
    let n = c.args.name.now in
    let h = c.in-len1-up.len_at_least in
    fine_more n _ (omega arith) (λ e. omega arith)
    (and_second (ap not (space_last n h)) (ap not (ne_eqb _ _ c.if-last-ne32.true)) (ap not (slash_last n h)))

pub returns-else-last-ne32 : goal.returns-else-last-ne32
returns-else-last-ne32 c =
    let n = c.args.name.now in
    let h = c.in-len1-up.len_at_least in
    fine_more n _ (omega arith) (λ e. omega arith) (and_first (ap not (space_last n h)) _ (ap not (eq-eqb _ _ c.if-last-ne32.false)))
