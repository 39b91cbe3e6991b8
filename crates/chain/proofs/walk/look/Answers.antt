-- look: the part that is lent is the definitions' stretch, and what is not allowed is Bad, which bounds nothing.
use mathlib.Core.Path.{sym, subst}
use Prim.Native.Nat.{ℕ, ◌-◌}
use borrow.Rule.Slice.PartAt.{part_count}
use Rattle.spec.specs.declared.Next.{Next}
use Rattle.record.specs.Within.{Within}
use Rattle.chain.specs.CursorLaws.{look_is}
use Rattle.laws.specs.Fits.{allowed_keeps}
use Rattle.chain.proofs.walk.look.Goals as goal

pub returns : goal.returns
returns c =
    let p = c.requires in
    let a = c.args in
    let s = a.image.now in
    let k = a.c in
    let w = subst (λ (l : ℕ). Within c.next_of.result l) (sym (part_count s k.at k.end (p.ordered, p.inside)))
    c.next_of.ensures.1 in (
      look_is s k c.allowed.result c.next_of.result p.ordered c.next_of.ensures.0 c.allowed.ensures,
      subst (λ (x : Next). Within x (k.end - k.at)) (sym c.allowed.ensures)
          (allowed_keeps (λ (x : Next). Within x (k.end - k.at)) k.pending c.next_of.result tt w),
    )
