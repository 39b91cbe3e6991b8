-- What a `_` arm leaves of the variants that it stands for.
use mathlib.Core.Path.{◌≡◌, refl}
use mathlib.Core.List.{[]}
use Prim.Native.Nat.{ℕ}
use Rattle.spec.specs.declared.Ending.{Ending}
use Rattle.spec.specs.Mount.{torn_wrap_steps}

pub no_torn_wrap : (x : Ending) → ((a : ℕ) → x ≡ Ending.TornWrap a → ⊥) → torn_wrap_steps x ≡ []
no_torn_wrap Ending.Tail z = refl
no_torn_wrap (Ending.TornWrap a) z = absurd (z a refl)
no_torn_wrap Ending.Broken z = refl
