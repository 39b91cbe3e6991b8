-- mark_here: START or CLEAN, asked one after the other.
use mathlib.Core.Path.{◌∙◌}
use borrow.Author.Tests.{eq-eqb, ne_eqb}
use Rattle.laws.specs.Flag.{flag}
use Rattle.spec.specs.Bytes.{is_start, is_high}
use Rattle.chain.proofs.head.mark_here.Goals as goal

pub returns-then-magic : goal.returns-then-magic
unfolding is_start is_high
returns-then-magic c = c.if-magic.true ∙ search (eq-eqb, ne_eqb, flag c.magic.ensures c.if-magic.true)

pub returns-else-magic : goal.returns-else-magic
unfolding is_start is_high
returns-else-magic c = search (eq-eqb, ne_eqb, flag c.magic.ensures c.if-magic.false, c.clean_magic.ensures)
