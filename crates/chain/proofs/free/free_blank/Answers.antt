-- free_blank: one stretch after the turn, two before it.
use mathlib.Core.Path.{◌∙◌}
use Rattle.laws.specs.Flag.{flag}
use Rattle.chain.specs.FreeLaws.{free_turned, free_first, free_both}
use native.Mathlib.Omega.{arith}
use Rattle.chain.proofs.free.free_blank.Goals as goal

pub blank_beside-requires : goal.blank_beside-requires
blank_beside-requires c = (c.requires.0, omega (arith, c.requires.1.head))

pub returns-then-p : goal.returns-then-p
returns-then-p c =
    let a = c.args in
    free_turned a.image.now a.p c.floor-low.result c.floor-low.ensures.0 _ c.if-p.true
    c.blank_beside.ensures

pub blank_beside-requires-2 : goal.blank_beside-requires-2
blank_beside-requires-2 c = (c.requires.0, omega (arith, c.requires.1.head))

pub blank_beside-requires-then-blank_beside : goal.blank_beside-requires-then-blank_beside
blank_beside-requires-then-blank_beside c =
    let p = c.requires in
    (p.0, omega (arith, p.1.whole))

pub returns-then-blank_beside : goal.returns-then-blank_beside
returns-then-blank_beside c =
    let a = c.args in
    free_both a.image.now a.p c.floor-low.result c.floor-low.ensures.0 _ c.if-p.false
    (flag c.blank_beside-2.ensures c.if-blank_beside.true) c.blank_beside-then-blank_beside.ensures

pub returns-else-blank_beside : goal.returns-else-blank_beside
returns-else-blank_beside c =
    let a = c.args in
    c.if-blank_beside.false ∙ free_first a.image.now a.p c.floor-low.result c.floor-low.ensures.0 c.if-p.false
    (flag c.blank_beside-2.ensures c.if-blank_beside.false)
