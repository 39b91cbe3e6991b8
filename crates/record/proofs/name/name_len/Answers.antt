-- name_len: the first byte that ends the name, among 64, or 64.
use Rattle.std.specs.Prelude.{ℕ, Option, unwrap_or}
use Rattle.std.proofs.Common.{arith, ap, ◌∙◌}
use Rattle.record.specs.NameLaws.{name_position, name_most}
use Rattle.record.proofs.name.name_len.Goals as goal

pub returns : goal.returns
returns c =
    let a = c.args in
    let e = c.unwrap_or.ensures ∙ ap (λ (o : Option ℕ). unwrap_or o 64) c.name_end.ensures ∙ name_position 64 a.reserved a.part.now in
    (e, omega (arith, e, name_most 64 a.reserved a.part.now))
