-- Back from an answer to what gave it: the tests that a value passed.
use Rattle.std.specs.Prelude.{ℕ, ◌≡◌, refl, Bool, true, false}
use Rattle.std.proofs.Common.{arith}
use Rattle.spec.specs.Refusals.{RefusalNumbers}
use Rattle.spec.specs.Basics.{Answer, refuse, give, checked, onward}

-- a refusal gives nothing
pub never_gives : {A : Type 0} (x : RefusalNumbers) (a : A) → ◌≡◌ {A = Answer A} (refuse x) (give a) → ⊥
never_gives x a e = let z : ◌≡◌ {A = ℕ} 0 1 = cc in omega arith

-- the value that went on
pub record Gave {A B : Type 0} (x : Answer A) (f : A → Answer B) (b : B) : Type 0 where
  pub value : A
  pub from : x ≡ give value
  pub on : f value ≡ give b

pub gave : {A B : Type 0} (x : Answer A) (f : A → Answer B) (b : B) → onward x f ≡ give b → Gave x f b
gave (refuse n) f b e = absurd (never_gives n b e)
gave (give a) f b e = record { value = a; from = refl; on = e }

-- the test, and what stood behind it
pub checked_on : {A : Type 0} (t : Bool) (x : RefusalNumbers) (a : Answer A) (b : A) → checked t x a ≡ give b → (t ≡ true) × (a ≡ give b)
checked_on true x a b e = (refl, e)
checked_on false x a b e = absurd (never_gives x b e)

pub passed : {A : Type 0} (t : Bool) (x : RefusalNumbers) (a b : A) → checked t x (give a) ≡ give b → (t ≡ true) × (a ≡ b)
passed true x a b e = (refl, cc)
passed false x a b e = absurd (never_gives x b e)

-- equal answers give equal values
pub given_is : {A : Type 0} {a b : A} → ◌≡◌ {A = Answer A} (give a) (give b) → a ≡ b
given_is e = cc
