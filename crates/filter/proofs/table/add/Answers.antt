-- add: the bits that were there, and those that are now.
use mathlib.Core.Path.{refl, sym, ◌∙◌}
use Rattle.std.proofs.lemmas.Bool.{false≢true}
use borrow.Author.Tests.{eq-eqb, ne_eqb}
use Rattle.filter.specs.Table.{has_bits, with_bits}
use Rattle.filter.proofs.table.add.Goals as goal
use Rattle.filter.proofs.table.add.Goals.{then-x-s, else-x-s}

pub returns-then-y-s : goal.returns-then-y-s
unfolding has_bits with_bits
returns-then-y-s c = (
  elim c.if-x-s.branch [
    | then-x-s w ↦ rw (eq-eqb _ _ w.if-x-s.true, sym w.value-is ∙ c.if-y-s.true)
    | else-x-s w ↦ absurd (false≢true (sym (w.value-is ∙ ne_eqb _ _ w.if-x-s.false) ∙ c.if-y-s.true))
  ],
  refl,
)

pub returns-else-y-s : goal.returns-else-y-s
unfolding has_bits with_bits
returns-else-y-s c = (
  elim c.if-x-s.branch [
    | then-x-s w ↦ rw (eq-eqb _ _ w.if-x-s.true, sym w.value-is ∙ c.if-y-s.false) c.if-y-s.false
    | else-x-s w ↦ rw (ne_eqb _ _ w.if-x-s.false) (w.value-is ∙ ne_eqb _ _ w.if-x-s.false)
  ],
  refl,
)
