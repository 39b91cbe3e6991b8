-- walk_next: the part from here to the image's end is the definition's.
use mathlib.Core.Path.{subst}
use Rattle.laws.specs.Flag.{flag}
use Prim.Native.Nat.{ℕ}
use lib.ListN.{drop}
use borrow.Author.Rules.{part_to_end}
use Rattle.record.specs.Within.{Within}
use Rattle.chain.specs.HeadLaws.{walk_next_is, length_part}
use Rattle.laws.specs.Walk.{walk_next_none}
use Rattle.chain.proofs.head.walk_next.Goals as goal

pub returns-then-walked_here : goal.returns-then-walked_here
returns-then-walked_here c =
    let a = c.args in
    let s = a.image.now in
    let at = a.at in (
      walk_next_is at (drop at s) _ c.record_of.result _ (flag c.walked_here.ensures c.if-walked_here.true)
          c.byte.ensures
          (part_to_end s at) c.record_of.ensures.0,
      subst (λ (l : ℕ). Within c.record_of.result l) (length_part s at) c.record_of.ensures.1,
    )

pub returns : goal.returns
returns c = (walk_next_none _ _ (flag c.walked_here.ensures c.if-walked_here.false), tt)
