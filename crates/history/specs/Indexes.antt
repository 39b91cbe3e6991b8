-- Elements of a list by their index, and facts on each of them.
use Rattle.std.specs.Prelude.{ℕ, zero, suc, ◌≤◌, ◌<◌, ◌≡◌, refl, List, [], ◌∷◌, ◌++◌, length}
use Rattle.std.proofs.Common.{arith, not-suc-le-zero, sym, ◌∙◌, subst, append_assoc}
use Rattle.std.proofs.Math.Option.{none, some}
use Rattle.std.proofs.Math.ListN.{get_elem?}
use Rattle.spec.specs.Basics.{Each}

module _ {A : Type 0} where
  -- what holds of each element at its index
  pub each_index : (P : A → Type 0) (xs : List A) → ((i : ℕ) (x : A) → get_elem? xs i ≡ some x → P x) → Each P xs
  each_index P [] f = tt
  each_index P (x ∷ xs) f = (f 0 x refl, each_index P xs (λ i y e. f (suc i) y e))

  -- what holds of each holds of the one at an index
  pub index_each : (P : A → Type 0) (xs : List A) (i : ℕ) (x : A) → get_elem? xs i ≡ some x → Each P xs → P x
  index_each P [] i x e h = absurd (let z : ◌≡◌ {A = ℕ} 0 1 = cc in omega arith)
  index_each P (y ∷ xs) zero x e h = subst P (some_is y x e) h.0
    where
      some_is : (a b : A) → some a ≡ some b → a ≡ b
      some_is a b e = cc
  index_each P (y ∷ xs) (suc i) x e h = index_each P xs i x e h.1

  -- what holds of each element among the others
  pub each_split : (P : A → Type 0) (zs xs : List A) → ((before behind : List A) (x : A) → zs ++ xs ≡ before ++ (x ∷ behind) → P x)
      → Each P xs
  each_split P zs [] f = tt
  each_split P zs (x ∷ xs) f =
      (f zs xs x refl, each_split P (zs ++ (x ∷ [])) xs (λ before behind y e. f before behind y (sym (append_assoc zs (x ∷ []) xs) ∙ e)))

  -- an index that has an element is below the length
  pub index_below : (xs : List A) (i : ℕ) (x : A) → get_elem? xs i ≡ some x → i < length xs
  index_below [] i x e = absurd (let z : ◌≡◌ {A = ℕ} 0 1 = cc in omega arith)
  index_below (y ∷ xs) zero x e = omega arith
  index_below (y ∷ xs) (suc i) x e = let h = index_below xs i x e in omega arith

  -- an index below the length has an element
  pub at_index : (xs : List A) (i : ℕ) → i < length xs → (x : A) × (get_elem? xs i ≡ some x)
  at_index [] i h = absurd (not-suc-le-zero h)
  at_index (y ∷ xs) zero h = (y, refl)
  at_index (y ∷ xs) (suc i) h = at_index xs i (omega arith)

  -- any other has none
  pub past_end : (xs : List A) (i : ℕ) → length xs ≤ i → get_elem? xs i ≡ none
  past_end [] i h = refl
  past_end (x ∷ xs) zero h = absurd (not-suc-le-zero h)
  past_end (x ∷ xs) (suc i) h = past_end xs i (omega arith)
