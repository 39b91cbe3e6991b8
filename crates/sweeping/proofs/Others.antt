-- What a `_` arm, or an `if let` that is not taken, leaves of the variants that it stands for.
use mathlib.Core.Path.{◌≡◌, refl}
use mathlib.Core.Bool.{Bool, false}
use mathlib.Core.List.{[]}
use Prim.Native.Nat.{ℕ}
use Rattle.spec.specs.declared.Place.{Place}
use Rattle.spec.specs.Step.{Image}
use Rattle.sweeping.specs.declared.Plan.{Plan}
use Rattle.sweeping.specs.MoveSteps.{copying}
use Rattle.sweeping.specs.Planned.{Planned, Going, full}

pub not_stopped : (s : Image) (p : Place) (x : Plan) → ((b : Bool) → x ≡ Plan.Stop b → ⊥) → Planned s p x → Going s p x
not_stopped s p (Plan.Stop b) z w = absurd (z b refl)
not_stopped s p Plan.Leave z w = w
not_stopped s p (Plan.Copy n d) z w = w

pub not_full : (x : Plan) → ((b : Bool) → x ≡ Plan.Stop b → ⊥) → false ≡ full x
not_full (Plan.Stop b) z = absurd (z b refl)
not_full Plan.Leave z = refl
not_full (Plan.Copy n d) z = refl

pub not_copying : (s : Image) (p : Place) (x : Plan) → ((n d : ℕ) → x ≡ Plan.Copy n d → ⊥) → Going s p x → copying s p.head ≡ []
not_copying s p (Plan.Stop b) z w = absurd w
not_copying s p Plan.Leave z w = w.1
not_copying s p (Plan.Copy n d) z w = absurd (z n d refl)
