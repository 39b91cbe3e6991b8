-- near: the part that is lent is the cursor's stretch.
use Rattle.chain.specs.Plain.{near_passes}
use native.Mathlib.Omega.{arith}
use Rattle.chain.proofs.plain.near.Goals as goal

pub size-requires : goal.size-requires
size-requires c =
    let w = rw c.in-Record.is at c.plain_of.ensures in
    (omega (arith, w.1.0), w.1.2)

pub overflow_add-result : goal.overflow_add-result
overflow_add-result c =
    let w = rw c.in-Record.is at c.plain_of.ensures in
    omega (arith, c.size.ensures, w.1.1, c.requires.ordered, c.requires.inside, c.requires.small)

pub returns : goal.returns
returns c =
    near_passes _ _ c.requires c.if-c.false _ _ _
    (rw c.in-Record.is at c.plain_of.ensures) c.size.ensures
