-- tail_blank: up to the end of the tail's sector or up to the limit, whichever comes first.
use mathlib.Core.Path.{refl, ap, ap₂, ◌∙◌}
use Rattle.chain.specs.FreeLaws.{limit_inside, tail_blanks}
use Prim.Native.Nat.{ℕ, ◌+◌, min}
use Rattle.spec.specs.Reading.{blank_part}
use native.Mathlib.Omega.{arith}
use Rattle.chain.proofs.free.tail_blank.Goals as goal

pub overflow_add-end : goal.overflow_add-end
overflow_add-end c = omega (arith, c.requires.1.tail, c.requires.1.small)

pub blank_beside-requires : goal.blank_beside-requires
blank_beside-requires c =
    let a = c.args in
    (c.requires.0, omega (arith, c.min.ensures, c.limit.ensures, limit_inside a.image.now a.p _ c.requires.1 refl))

pub returns : goal.returns
returns c =
    let a = c.args in
    tail_blanks a.image.now a.p _
    (c.blank_beside.ensures
    ∙ ap (λ (n : ℕ). blank_part a.p.tail n a.image.now)
    (c.min.ensures ∙ ap₂ (λ (f l : ℕ). min (f + 4096) l) c.floor-end.ensures.0 c.limit.ensures))
