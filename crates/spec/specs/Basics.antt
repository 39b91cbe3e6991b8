-- Tests on lists, and a result that may be a refusal. Nothing here is of document 01 itself.
use Rattle.spec.specs.Refusals.{RefusalNumbers}
pub use Rattle.spec.specs.Refusals.{no_fault, numbered}
use Rattle.std.specs.Prelude.{ℕ, zero, suc, Bool, true, false, List, [], ◌∷◌, ◌++◌, take, drop, eqb}
use Rattle.spec.specs.Prelude.{Option, none, some}

-- a value, or a refusal with all that it gives back
pub data Answer (A : Type 0) : Type 0 where
  refuse : RefusalNumbers → Answer A
  give : A → Answer A

-- go on if the test passes, else refuse
abbrev pub checked : {A : Type 0} → Bool → RefusalNumbers → Answer A → Answer A
checked true x a = a
checked false x a = refuse x

-- go on with the value; a refusal stays
abbrev pub onward : {A B : Type 0} → Answer A → (A → Answer B) → Answer B
onward (refuse x) f = refuse x
onward (give a) f = f a

-- the bytes of s from address a up to b
abbrev pub part : ℕ → ℕ → List ℕ → List ℕ
part a b s = drop a (take b s)

-- s has at least k bytes
unfoldable pub long : ℕ → List ℕ → Bool
long zero s = true
long (suc k) [] = false
long (suc k) (x ∷ s) = long k s

-- s is all FF
unfoldable pub blank : List ℕ → Bool
blank [] = true
blank (x ∷ s) = elim (eqb x 0xFF) [ true ↦ blank s | false ↦ false ]

-- two lists of bytes are equal
unfoldable pub same : List ℕ → List ℕ → Bool
same [] [] = true
same [] (y ∷ t) = false
same (x ∷ s) [] = false
same (x ∷ s) (y ∷ t) = elim (eqb x y) [ true ↦ same s t | false ↦ false ]

module _ {A : Type 0} where
  abbrev pub empty : List A → Bool
  empty [] = true
  empty (x ∷ xs) = false

  -- some element passes the test
  abbrev pub any : (A → Bool) → List A → Bool
  any p [] = false
  any p (x ∷ xs) = elim (p x) [ true ↦ true | false ↦ any p xs ]

  -- every element passes the test
  abbrev pub all : (A → Bool) → List A → Bool
  all p [] = true
  all p (x ∷ xs) = elim (p x) [ true ↦ all p xs | false ↦ false ]

  -- those that pass the test, in their order
  abbrev pub keep : (A → Bool) → List A → List A
  keep p [] = []
  keep p (x ∷ xs) = elim (p x) [ true ↦ x ∷ keep p xs | false ↦ keep p xs ]

  -- the first that passes the test
  abbrev pub first_such : (A → Bool) → List A → Option A
  first_such p [] = none
  first_such p (x ∷ xs) = elim (p x) [ true ↦ some x | false ↦ first_such p xs ]

  -- the lists of a list, one after another
  abbrev pub concat : List (List A) → List A
  concat [] = []
  concat (xs ∷ xss) = xs ++ concat xss

  -- a statement that holds of each element
  abbrev pub Each : (A → Type 0) → List A → Type 0
  Each P [] = Unit {0}
  Each P (x ∷ xs) = P x × Each P xs
