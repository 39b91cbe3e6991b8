-- Lists: any, keep and first_such at an element that passes and at one that does not; facts on each element (Each); same.
use Rattle.std.specs.Prelude.{ℕ, ◌≡◌, refl, Bool, true, false, List, [], ◌∷◌, ◌++◌, eqb}
use Rattle.std.proofs.Common.{sym, ap₂, ◌∙◌, eqb-true}
use Rattle.std.proofs.lemmas.Bool.{false≢true}
use Rattle.std.proofs.Math.Option.{some}
use Rattle.spec.specs.Basics.{any, keep, first_such, same, Each}

module _ {A : Type 0} (p : A → Bool) (x : A) (xs : List A) where
  pub any_yes : p x ≡ true → any p (x ∷ xs) ≡ true
  any_yes e = rw (e, any)

  pub any_no : p x ≡ false → any p (x ∷ xs) ≡ any p xs
  any_no e = rw (e, any)

  pub keep_yes : p x ≡ true → keep p (x ∷ xs) ≡ x ∷ keep p xs
  keep_yes e = rw (e, keep)

  pub keep_no : p x ≡ false → keep p (x ∷ xs) ≡ keep p xs
  keep_no e = rw (e, keep)

  pub first_yes : p x ≡ true → first_such p (x ∷ xs) ≡ some x
  first_yes e = rw (e, first_such)

  pub first_no : p x ≡ false → first_such p (x ∷ xs) ≡ first_such p xs
  first_no e = rw (e, first_such)

module _ {A : Type 0} where
  -- equal lists have equal first elements
  pub cons_first : {x y : A} {xs ys : List A} → x ∷ xs ≡ y ∷ ys → x ≡ y
  cons_first h = cc

  -- and equal rests
  pub cons_rest : {x y : A} {xs ys : List A} → x ∷ xs ≡ y ∷ ys → xs ≡ ys
  cons_rest h = cc

  -- none passes
  pub any_none : (p : A → Bool) (xs : List A) → Each (λ x. p x ≡ false) xs → any p xs ≡ false
  any_none p [] h = refl
  any_none p (x ∷ xs) h = any_no p x xs h.0 ∙ any_none p xs h.1

  -- none passes, so each does not
  pub any_none_each : (p : A → Bool) (xs : List A) → any p xs ≡ false → Each (λ x. p x ≡ false) xs
  any_none_each p [] h = tt
  any_none_each p (x ∷ xs) h = go (p x) refl h (any_none_each p xs)
    where
      go : (b : Bool) → p x ≡ b → elim b as (λ b. Bool) [ true ↦ true | false ↦ any p xs ] ≡ false
          → (any p xs ≡ false → Each (λ x. p x ≡ false) xs) → Each (λ x. p x ≡ false) (x ∷ xs)
      go true k e f = absurd (false≢true (sym e))
      go false k e f = (k, f e)

  -- from one fact to another, on each
  pub each_map : {P Q : A → Type 0} (xs : List A) → ((x : A) → P x → Q x) → Each P xs → Each Q xs
  each_map [] f h = tt
  each_map (x ∷ xs) f h = (f x h.0, each_map xs f h.1)

  -- two facts on each
  pub each_both : (P Q : A → Type 0) (xs : List A) → Each P xs → Each Q xs → Each (λ x. P x × Q x) xs
  each_both P Q [] p q = tt
  each_both P Q (x ∷ xs) p q = ((p.0, q.0), each_both P Q xs p.1 q.1)

  -- of each that is kept
  pub each_keep : (P : A → Type 0) (p : A → Bool) (xs : List A) → Each P xs → Each P (keep p xs)
  each_keep P p [] h = tt
  each_keep P p (x ∷ xs) h = go (p x) refl (each_keep P p xs h.1) where
    go : (t : Bool) → p x ≡ t → Each P (keep p xs) → Each P (keep p (x ∷ xs))
    go true e ih = rw (keep, e) (h.0, ih)
    go false e ih = rw (keep, e) ih

  -- of each in two lists
  pub each_append : (P : A → Type 0) (xs ys : List A) → Each P xs → Each P ys → Each P (xs ++ ys)
  each_append P [] ys p q = q
  each_append P (x ∷ xs) ys p q = (p.0, each_append P xs ys p.1 q)

  -- so of each in the first
  pub each_left : (P : A → Type 0) (xs ys : List A) → Each P (xs ++ ys) → Each P xs
  each_left P [] ys h = tt
  each_left P (x ∷ xs) ys h = (h.0, each_left P xs ys h.1)

  -- and of each in the second
  pub each_right : (P : A → Type 0) (xs ys : List A) → Each P (xs ++ ys) → Each P ys
  each_right P [] ys h = h
  each_right P (x ∷ xs) ys h = each_right P xs ys h.1

-- names that are the same are equal
pub same_is : (s t : List ℕ) → same s t ≡ true → s ≡ t
unfolding same
same_is [] [] h = refl
same_is [] (y ∷ t) h = cc
same_is (x ∷ s) [] h = cc
same_is (x ∷ s) (y ∷ t) h = go (eqb x y) refl (same_is s t) h
  where
    go : (b : Bool) → eqb x y ≡ b → (same s t ≡ true → s ≡ t)
        → elim b as (λ b. Bool) [ true ↦ same s t | false ↦ false ] ≡ true → x ∷ s ≡ y ∷ t
    go true e ih h = ap₂ ◌∷◌ (eqb-true x y e) (ih h)
    go false e ih h = cc
