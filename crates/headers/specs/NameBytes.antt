-- Two lists that agree in the bytes of a name, with its 00 or without, have one name.
use Rattle.std.specs.Prelude.{ℕ, zero, suc, ◌≡◌, refl, Bool, true, false, List, [], ◌∷◌, length, take}
use Rattle.std.proofs.Common.{arith, sym, ap, ◌∙◌}
use Rattle.spec.specs.Bytes.{ends_name}
use Rattle.spec.specs.Record.{name_length}
use Rattle.laws.specs.Lists.{cons_first, cons_rest}

-- the bytes that are looked at for a name of k bytes at most
abbrev pub looked : ℕ → List ℕ → ℕ
looked k u = length (take (suc (name_length k false u)) u)

-- one length, and one name
abbrev pub OneName : ℕ → List ℕ → List ℕ → Type 0
OneName k u v = (name_length k false u ≡ name_length k false v) × (take (name_length k false u) u ≡ take (name_length k false u) v)

suc_same : (n m : ℕ) → suc n ≡ suc m → n ≡ m
suc_same n m e = omega arith

no_length : (x : ℕ) (u : List ℕ) → ◌≡◌ {A = ℕ} 0 (length (x ∷ u)) → ⊥
no_length x u e = omega arith

ended : (k x y : ℕ) (u v : List ℕ) → x ≡ y → ends_name false x ≡ true → OneName (suc k) (x ∷ u) (y ∷ v)
unfolding name_length
ended k x y u v e h = let g : ends_name false y ≡ true = sym (ap (ends_name false) e) ∙ h in (rw (name_length, h, g), rw (name_length, h))

went_on : (k x y : ℕ) (u v : List ℕ) → x ≡ y → ends_name false x ≡ false → OneName k u v → OneName (suc k) (x ∷ u) (y ∷ v)
unfolding name_length
went_on k x y u v e h n =
    let g : ends_name false y ≡ false = sym (ap (ends_name false) e) ∙ h in
    (rw (name_length, h, g) (ap suc n.0), rw (name_length, h, e) (ap (λ (l : List ℕ). y ∷ l) n.1))

pub one_name : (k : ℕ) (u v : List ℕ) → length u ≡ length v → take (looked k u) u ≡ take (looked k u) v → OneName (suc k) u v
unfolding name_length
one_name k [] [] l e = (refl, refl)
one_name k [] (y ∷ v) l e = absurd (no_length y v l)
one_name k (x ∷ u) [] l e = absurd (no_length x u (sym l))
one_name zero (x ∷ u) (y ∷ v) l e = go (ends_name false x) refl where
  go : (t : Bool) → ends_name false x ≡ t → OneName 1 (x ∷ u) (y ∷ v)
  go true h = ended 0 x y u v (cons_first e) h
  go false h = went_on 0 x y u v (cons_first e) h (refl, refl)
one_name (suc k) (x ∷ u) (y ∷ v) l e = go (ends_name false x) refl (one_name k u v (suc_same (length u) (length v) l)) where
  go : (t : Bool) → ends_name false x ≡ t → (take (looked k u) u ≡ take (looked k u) v → OneName (suc k) u v)
      → OneName (suc (suc k)) (x ∷ u) (y ∷ v)
  go true h ih = let f : x ∷ [] ≡ y ∷ [] = rw (name_length, h) at e in ended (suc k) x y u v (cons_first f) h
  go false h ih =
      let f : x ∷ take (looked k u) u ≡ y ∷ take (looked k u) v = rw (name_length, h) at e in
      went_on (suc k) x y u v (cons_first f) h (ih (cons_rest f))
