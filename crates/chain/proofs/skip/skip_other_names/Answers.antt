-- skip_other_names: the part that is lent is the record's name.
use mathlib.Core.Path.{subst}
use mathlib.Core.List.{List}
use Prim.Native.Nat.{ℕ}
use Rattle.chain.specs.Skip.{SkipsOthers}
use Rattle.chain.proofs.skip.skip_other_names.Goals as goal

pub returns : goal.returns
returns c =
    let a = c.args in
    let r = c.skip_others.result in
    subst (λ (name : List ℕ). SkipsOthers a.image.now a.start name a.most r.cursor r.left)
    c.name.ensures c.skip_others.ensures
