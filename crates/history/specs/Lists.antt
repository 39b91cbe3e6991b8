-- Laws of lists that know nothing of flash: any, all and keep over facts on each element (Each), on each pair (Pairwise), and with one
-- element more or less.
use Rattle.std.specs.Prelude.{ℕ, ◌≡◌, refl, Bool, true, false, List, [], ◌∷◌, ◌++◌, length}
use Rattle.std.proofs.Common.{arith, sym, ap, ◌∙◌}
use Rattle.spec.specs.Basics.{any, all, keep, Each}
use Rattle.laws.specs.Lists.{any_yes, any_no, keep_yes, keep_no, each_map, each_both}

module _ {A : Type 0} where
  -- tests that agree on each
  pub keep_same : (p q : A → Bool) (xs : List A) → Each (λ x. p x ≡ q x) xs → keep p xs ≡ keep q xs
  keep_same p q [] h = refl
  keep_same p q (x ∷ xs) h = go (q x) refl (keep_same p q xs h.1)
    where
      go : (b : Bool) → q x ≡ b → keep p xs ≡ keep q xs → keep p (x ∷ xs) ≡ keep q (x ∷ xs)
      go true e i = keep_yes p x xs (h.0 ∙ e) ∙ ap (λ (l : List A). x ∷ l) i ∙ sym (keep_yes q x xs e)
      go false e i = keep_no p x xs (h.0 ∙ e) ∙ i ∙ sym (keep_no q x xs e)

  -- a relation between each element and each behind it
  abbrev pub Pairwise : (A → A → Type 0) → List A → Type 0
  Pairwise S [] = Unit {0}
  Pairwise S (x ∷ xs) = Each (S x) xs × Pairwise S xs

  -- what holds of each and itself, and of any two both ways, holds of all pairs
  pub all_pairs : (R S : A → A → Type 0) → ((x : A) → R x x) → ((x y : A) → S x y → R x y) → ((x y : A) → S x y → R y x) → (xs : List A)
      → Pairwise S xs → Each (λ x. Each (R x) xs) xs
  all_pairs R S r a b [] h = tt
  all_pairs R S r a b (x ∷ xs) h = (
    (r x, each_map xs (λ y s. a x y s) h.0),
    each_map xs (λ y p. (p.0, p.1))
        (each_both (λ y. R y x) (λ y. Each (R y) xs) xs (each_map {Q = λ y. R y x} xs (λ y s. b x y s) h.0) (all_pairs R S r a b xs h.1)),
  )

  -- one more at the end
  pub each_end : (P : A → Type 0) (xs : List A) (y : A) → Each P xs → P y → Each P (xs ++ (y ∷ []))
  each_end P [] y p q = (q, tt)
  each_end P (x ∷ xs) y p q = (p.0, each_end P xs y p.1 q)

  -- one more at the end
  pub pairwise_end : (S : A → A → Type 0) (xs : List A) (y : A) → Pairwise S xs → Each (λ x. S x y) xs → Pairwise S (xs ++ (y ∷ []))
  pairwise_end S [] y p e = (tt, tt)
  pairwise_end S (x ∷ xs) y p e = (each_end (S x) xs y p.0 e.0, pairwise_end S xs y p.1 e.1)

  -- from one relation to another
  pub pairwise_map : (S R : A → A → Type 0) (xs : List A) → ((x y : A) → S x y → R x y) → Pairwise S xs → Pairwise R xs
  pairwise_map S R [] f h = tt
  pairwise_map S R (x ∷ xs) f h = (each_map xs (λ y s. f x y s) h.0, pairwise_map S R xs f h.1)

  -- what is kept of two lists
  pub keep_append : (p : A → Bool) (xs ys : List A) → keep p (xs ++ ys) ≡ keep p xs ++ keep p ys
  keep_append p [] ys = refl
  keep_append p (x ∷ xs) ys = go (p x) refl (keep_append p xs ys)
    where
      go : (b : Bool) → p x ≡ b → keep p (xs ++ ys) ≡ keep p xs ++ keep p ys → keep p (x ∷ (xs ++ ys)) ≡ keep p (x ∷ xs) ++ keep p ys
      go true e i = keep_yes p x (xs ++ ys) e ∙ ap (λ (l : List A). x ∷ l) i ∙ ap (λ (l : List A). l ++ keep p ys) (sym (keep_yes p x xs e))
      go false e i = keep_no p x (xs ++ ys) e ∙ i ∙ ap (λ (l : List A). l ++ keep p ys) (sym (keep_no p x xs e))

  -- one more that does not pass
  pub any_insert : (p : A → Bool) (xs ys : List A) (o : A) → p o ≡ false → any p (xs ++ (o ∷ ys)) ≡ any p (xs ++ ys)
  any_insert p [] ys o e = any_no p o ys e
  any_insert p (x ∷ xs) ys o e = go (p x) refl (any_insert p xs ys o e)
    where
      go : (b : Bool) → p x ≡ b → any p (xs ++ (o ∷ ys)) ≡ any p (xs ++ ys) → any p (x ∷ (xs ++ (o ∷ ys))) ≡ any p (x ∷ (xs ++ ys))
      go true h i = any_yes p x (xs ++ (o ∷ ys)) h ∙ sym (any_yes p x (xs ++ ys) h)
      go false h i = any_no p x (xs ++ (o ∷ ys)) h ∙ i ∙ sym (any_no p x (xs ++ ys) h)

  -- each passes
  pub all_each : (p : A → Bool) (xs : List A) → Each (λ x. p x ≡ true) xs → all p xs ≡ true
  all_each p [] h = refl
  all_each p (x ∷ xs) h = rw (h.0, all) (all_each p xs h.1)

  -- none is kept
  pub keep_all : (p : A → Bool) (xs : List A) → Each (λ x. p x ≡ true) xs → keep p xs ≡ xs
  keep_all p [] h = refl
  keep_all p (x ∷ xs) h = keep_yes p x xs h.0 ∙ ap (λ (l : List A). x ∷ l) (keep_all p xs h.1)

  -- two tests, either way round
  pub keep_swap : (p q : A → Bool) (xs : List A) → keep p (keep q xs) ≡ keep q (keep p xs)
  keep_swap p q [] = refl
  keep_swap p q (x ∷ xs) = go (p x) (q x) refl refl (keep_swap p q xs)
    where
      go : (a b : Bool) → p x ≡ a → q x ≡ b → keep p (keep q xs) ≡ keep q (keep p xs)
          → keep p (keep q (x ∷ xs)) ≡ keep q (keep p (x ∷ xs))
      go true true e f i =
          ap (keep p) (keep_yes q x xs f) ∙ keep_yes p x (keep q xs) e ∙ ap (λ (l : List A). x ∷ l) i ∙ sym (keep_yes q x (keep p xs) f)
          ∙ sym (ap (keep q) (keep_yes p x xs e))
      go true false e f i = ap (keep p) (keep_no q x xs f) ∙ i ∙ sym (keep_no q x (keep p xs) f) ∙ sym (ap (keep q) (keep_yes p x xs e))
      go false true e f i = ap (keep p) (keep_yes q x xs f) ∙ keep_no p x (keep q xs) e ∙ i ∙ sym (ap (keep q) (keep_no p x xs e))
      go false false e f i = ap (keep p) (keep_no q x xs f) ∙ i ∙ sym (ap (keep q) (keep_no p x xs e))

  pub keep_none : (p : A → Bool) (xs : List A) → Each (λ x. p x ≡ false) xs → keep p xs ≡ []
  keep_none p [] h = refl
  keep_none p (x ∷ xs) h = keep_no p x xs h.0 ∙ keep_none p xs h.1

  -- what holds of each that passes holds of those that are kept
  pub each_keep : (P : A → Type 0) (p : A → Bool) (xs : List A) → Each (λ x. p x ≡ true → P x) xs → Each P (keep p xs)
  each_keep P p [] h = tt
  each_keep P p (x ∷ xs) h = go (p x) refl (each_keep P p xs h.1)
    where
      go : (b : Bool) → p x ≡ b → Each P (keep p xs) → Each P (keep p (x ∷ xs))
      go true e i = rw (keep_yes p x xs e) (h.0 e, i)
      go false e i = rw (keep_no p x xs e) i

  -- what holds of all
  pub each_all : (P : A → Type 0) → ((x : A) → P x) → (xs : List A) → Each P xs
  each_all P f [] = tt
  each_all P f (x ∷ xs) = (f x, each_all P f xs)

  -- ---- one element among others

  -- one element replaced
  pub each_swap : (P : A → Type 0) (xs ys : List A) (e f : A) → Each P (xs ++ (e ∷ ys)) → P f → Each P (xs ++ (f ∷ ys))
  each_swap P [] ys e f h q = (q, h.1)
  each_swap P (x ∷ xs) ys e f h q = (h.0, each_swap P xs ys e f h.1 q)

  -- one more
  pub each_insert : (P : A → Type 0) (xs ys : List A) (e : A) → Each P (xs ++ ys) → P e → Each P (xs ++ (e ∷ ys))
  each_insert P [] ys e h q = (q, h)
  each_insert P (x ∷ xs) ys e h q = (h.0, each_insert P xs ys e h.1 q)

  -- one less
  pub each_without : (P : A → Type 0) (xs ys : List A) (e : A) → Each P (xs ++ (e ∷ ys)) → Each P (xs ++ ys)
  each_without P [] ys e h = h.1
  each_without P (x ∷ xs) ys e h = (h.0, each_without P xs ys e h.1)

  -- what holds of each holds of the one
  pub each_at : (P : A → Type 0) (xs ys : List A) (e : A) → Each P (xs ++ (e ∷ ys)) → P e
  each_at P [] ys e h = h.0
  each_at P (x ∷ xs) ys e h = each_at P xs ys e h.1

  -- one less
  pub pairwise_without : (S : A → A → Type 0) (xs ys : List A) (e : A) → Pairwise S (xs ++ (e ∷ ys)) → Pairwise S (xs ++ ys)
  pairwise_without S [] ys e h = h.1
  pairwise_without S (x ∷ xs) ys e h = (each_without (S x) xs ys e h.0, pairwise_without S xs ys e h.1)

  -- each before e stands so to e
  pub pairwise_before : (S : A → A → Type 0) (xs ys : List A) (e : A) → Pairwise S (xs ++ (e ∷ ys)) → Each (λ x. S x e) xs
  pairwise_before S [] ys e h = tt
  pairwise_before S (x ∷ xs) ys e h = (each_at (S x) xs ys e h.0, pairwise_before S xs ys e h.1)

  -- and e to each behind it
  pub pairwise_behind : (S : A → A → Type 0) (xs ys : List A) (e : A) → Pairwise S (xs ++ (e ∷ ys)) → Each (S e) ys
  pairwise_behind S [] ys e h = h.0
  pairwise_behind S (x ∷ xs) ys e h = pairwise_behind S xs ys e h.1

  -- one more
  pub pairwise_insert : (S : A → A → Type 0) (xs ys : List A) (e : A) → Pairwise S (xs ++ ys) → Each (λ x. S x e) xs → Each (S e) ys
      → Pairwise S (xs ++ (e ∷ ys))
  pairwise_insert S [] ys e h b a = (a, h)
  pairwise_insert S (x ∷ xs) ys e h b a = (each_insert (S x) xs ys e h.0 b.0, pairwise_insert S xs ys e h.1 b.1 a)

  -- the last passes
  pub any_last : (p : A → Bool) (xs : List A) (e : A) → p e ≡ true → any p (xs ++ (e ∷ [])) ≡ true
  any_last p [] e h = any_yes p e [] h
  any_last p (x ∷ xs) e h = go (p x) refl (any_last p xs e h)
    where
      go : (b : Bool) → p x ≡ b → any p (xs ++ (e ∷ [])) ≡ true → any p (x ∷ (xs ++ (e ∷ []))) ≡ true
      go true k i = any_yes p x (xs ++ (e ∷ [])) k
      go false k i = any_no p x (xs ++ (e ∷ [])) k ∙ i

-- a list with an element in it is not empty
pub some_behind : {A : Type 0} (xs ys : List A) (y : A) → xs ++ (y ∷ ys) ≡ [] → ⊥
some_behind [] ys y e = let z : ◌≡◌ {A = ℕ} 0 1 = cc in omega arith
some_behind (x ∷ xs) ys y e = let z : ◌≡◌ {A = ℕ} 0 1 = cc in omega arith

-- a list without length has no element
pub none_at : (s : List ℕ) → length s ≡ 0 → s ≡ []
none_at [] e = refl
none_at (x ∷ s) e = absurd (omega arith)
