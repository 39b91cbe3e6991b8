use mathlib.Core.Path.{sym, subst}
use Prim.Native.Nat.{ℕ}
use borrow.Rule.Slice.PartAt.{part_count}
use Rattle.record.specs.Within.{Within}
use Rattle.headers.specs.Fore.{fore_look_is}
use Rattle.headers.proofs.front.look.Goals as goal

pub returns : goal.returns
returns c =
    let p = c.requires in
    let a = c.args in (
      fore_look_is a.image.now a.c c.front_of.result p.ordered c.front_of.ensures.0,
      subst (λ (l : ℕ). Within c.front_of.result l) (sym (part_count a.image.now a.c.at a.c.end (p.ordered, p.inside)))
          c.front_of.ensures.1,
    )
