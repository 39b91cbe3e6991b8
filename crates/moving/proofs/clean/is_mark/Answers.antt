-- The first byte, then the second.
use mathlib.Core.Path.{sym, ap, ◌∙◌}
use mathlib.Core.Bool.{◌&&◌}
use Rattle.spec.specs.Bytes.{is_high}
use Rattle.moving.proofs.clean.is_mark.Goals as goal

pub returns-then-is_low : goal.returns-then-is_low
unfolding is_high
returns-then-is_low c =
    ap (λ t. t && is_high c.args.c) (sym c.if-is_low.true ∙ c.is_low.ensures)
