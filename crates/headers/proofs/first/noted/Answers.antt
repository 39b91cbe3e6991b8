use Prim.Native.Nat.{ℕ}
use mathlib.Core.Path.{sym, ap₂, ◌∙◌}
use mathlib.Core.Bool.{Bool}
use Rattle.chain.specs.Fold.{content_length_is}
use Rattle.headers.specs.Answers.{Size}
use Rattle.headers.specs.Sizes.{first_of}
use Rattle.headers.proofs.first.noted.Goals as goal

pub returns : goal.returns
returns c =
    let a = c.args in
    let d = sym (content_length_is a.image.now a.e c.requires) in
    ap₂ (λ (p q : Size). record { committed = p; migrating = q })
    (c.first_of.ensures ∙ ap₂ (λ (t : Bool) (n : ℕ). first_of a.x.committed t n) c.of_name-fc.ensures d)
    (c.first_of-2.ensures ∙ ap₂ (λ (t : Bool) (n : ℕ). first_of a.x.migrating t n) c.of_name-f8.ensures d)
