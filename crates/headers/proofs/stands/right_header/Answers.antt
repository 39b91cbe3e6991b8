use Rattle.spec.specs.Length.{right_mark}
use mathlib.Core.Path.{ap, ◌∙◌}
use Rattle.laws.specs.Flag.{flag}
use Rattle.headers.proofs.stands.right_header.Goals as goal

pub returns-then-right_mark : goal.returns-then-right_mark
returns-then-right_mark c =
    let a = c.args in
    rw (
      flag (c.right_mark.ensures ∙ ap (right_mark a.first) c.low_of.ensures) c.if-right_mark.true,
      c.unfinished.ensures,
    )

pub returns-else-right_mark : goal.returns-else-right_mark
returns-else-right_mark c =
    let a = c.args in
    rw (flag (c.right_mark.ensures ∙ ap (right_mark a.first) c.low_of.ensures) c.if-right_mark.false) c.if-right_mark.false
