-- A flag that a function of the code gives: what the function ensures of it, and what a branch on it says.
use Rattle.std.specs.Prelude.{◌≡◌, Bool, true, false, not}
use Rattle.std.proofs.Common.{sym, ap, ◌∙◌}

pub flag : {A : Type 0} {x y z : A} → x ≡ y → x ≡ z → y ≡ z
flag p q = sym p ∙ q

not_swap : (b t : Bool) → not b ≡ t → b ≡ not t
not_swap true t h = ap not h
not_swap false t h = ap not h

-- the same where the code tests that it is not so
pub flag_not : {b x t : Bool} → b ≡ x → not b ≡ t → x ≡ not t
flag_not {b} {x} {t} e h = sym e ∙ not_swap b t h

pub unflag : {A : Type 0} {x y z : A} → x ≡ y → (x ≡ z → ⊥) → y ≡ z → ⊥
unflag p q e = q (p ∙ e)
