-- name_fine: only a file's name is checked.
use Rattle.laws.specs.Flag.{flag}
use mathlib.Core.Path.{ap, ◌∙◌}
use Rattle.spec.specs.Record.{name_ok}
use Rattle.chain.specs.Tally.{name_fine}
use Rattle.chain.proofs.scan.name_fine.Goals as goal

pub returns-then-not-is_file : goal.returns-then-not-is_file
unfolding name_fine
returns-then-not-is_file c = rw (c.if-not-is_file.true, name_fine, flag c.is_file.ensures c.if-not-is_file.true)

pub returns-else-not-is_file : goal.returns-else-not-is_file
unfolding name_fine
returns-else-not-is_file c =
    rw (name_fine, flag c.is_file.ensures c.if-not-is_file.false) (c.name_ok.ensures ∙ ap name_ok c.name.ensures)
