use Prim.Native.Nat.{ℕ}
use mathlib.Core.Path.{subst}
use mathlib.Core.List.{List}
use borrow.Author.Rules.{part_to_end}
use native.Mathlib.Omega.{arith}
use Rattle.spec.specs.declared.Next.{Next}
use Rattle.chain.specs.HeadLaws.{length_part}
use Rattle.chain.specs.Plain.{PlainFront}
use Rattle.chain.specs.HeadPlain.{walked_plain}
use Rattle.chain.proofs.head.walk_plain.Goals as goal

pub loop-n-init : goal.loop-n-init
loop-n-init c = (c.requires.0, omega arith)

pub slice_bounds-plain_of-count : goal.slice_bounds-plain_of-count
slice_bounds-plain_of-count c = omega (arith, c.loop-n.invariant.0.inside)

pub returns : goal.returns
returns c = c.loop-n.invariant

pub size-at-requires : goal.size-at-requires
size-at-requires c =
    let w = rw c.in-Record.is at c.plain_of.ensures in
    (omega (arith, w.1.0), w.1.2)

pub overflow_add-at : goal.overflow_add-at
overflow_add-at c =
    let p = c.loop-n.invariant in
    let w = rw c.in-Record.is at c.plain_of.ensures in
    let l = length_part c.args.image.now c.loop-n.at in
    omega (arith, c.size-at.ensures, w.1.1, l, p.0.inside, c.requires.1)

pub loop-n-smaller : goal.loop-n-smaller
loop-n-smaller c =
    let p = c.loop-n.invariant in
    let w = rw c.in-Record.is at c.plain_of.ensures in
    let l = length_part c.args.image.now c.loop-n.at in
    omega (arith, c.size-at.ensures, w.1.1, l, p.0.inside)

pub loop-n-preserved : goal.loop-n-preserved
loop-n-preserved c =
    let p = c.loop-n.invariant in
    let s = c.args.image.now in
    let at = c.loop-n.at in
    let n = c.in-Record.n in
    let d = c.in-Record.d in
    let w = rw c.in-Record.is at c.plain_of.ensures in (
      rw c.size-at.ensures
          (walked_plain s at n d p.0 (subst (λ (t : List ℕ). PlainFront t (Next.Record n d)) (part_to_end s at) w)),
      omega (arith, p.1),
    )
