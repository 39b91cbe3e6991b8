-- The end of a name, and the name check, one byte at a time.
use Rattle.std.specs.Prelude.{ℕ, zero, suc, ◌+◌, ◌-◌, ◌≤◌, ◌<◌, ◌≡◌, refl, Bool, true, false, List, [], ◌∷◌, length, take, drop, get_or, eqb, ltb, cond, Some, None, unwrap_or, position}
use Rattle.std.specs.List.{ends_with}
use Rattle.std.proofs.Common.{arith, inl, inr, sym, ap, ◌∙◌, drop_of_length-le}
use Rattle.std.proofs.Math.Bool.{and-true}
use Rattle.std.proofs.lemmas.Bool.{cases_lt, lt-ltb, le-ltb, eq-eqb, eqb-true}
use Rattle.spec.specs.Bytes.{ends_name, is_slash}
use Rattle.spec.specs.Record.{name_length, may_stand, first_bad, ends_in_slash}
use Rattle.laws.specs.Parts.{drop_next}
use Rattle.laws.specs.Tests.{iff}

-- ---- the end of a name: the first byte that ends it, among the first k

place_past : (m l k : ℕ)
    → unwrap_or (cond (ltb (1 + m) (suc l)) (Some (1 + m)) None) (suc k) ≡ suc (unwrap_or (cond (ltb m l) (Some m) None) k)
place_past m l k = elim (cases_lt m l) [
  | inl h ↦ rw (lt-ltb m l h, lt-ltb (1 + m) (suc l) (omega arith)) (omega arith)
  | inr h ↦ rw (le-ltb m l h, le-ltb (1 + m) (suc l) (omega arith)) refl
]

pub name_position : (k : ℕ) (reserved : Bool) (s : List ℕ)
    → unwrap_or (position (ends_name reserved) (take k s)) k ≡ name_length k reserved s
unfolding name_length
name_position zero reserved s = refl
name_position (suc k) reserved [] = refl
name_position (suc k) reserved (b ∷ s) = go (ends_name reserved b) refl (name_position k reserved s) where
  go : (t : Bool) → ends_name reserved b ≡ t → unwrap_or (position (ends_name reserved) (take k s)) k ≡ name_length k reserved s
      → unwrap_or (position (ends_name reserved) (b ∷ take k s)) (suc k) ≡ name_length (suc k) reserved (b ∷ s)
  go true q ih = rw (q, name_length, lt-ltb 0 (suc (length (take k s))) (omega arith)) refl
  go false q ih = rw (q, name_length) (place_past _ (length (take k s)) k ∙ ap suc ih)

pub name_most : (k : ℕ) (reserved : Bool) (s : List ℕ) → name_length k reserved s ≤ k
unfolding name_length
name_most zero reserved s = omega arith
name_most (suc k) reserved [] = omega arith
name_most (suc k) reserved (b ∷ s) = go (ends_name reserved b) refl (name_most k reserved s) where
  go : (t : Bool) → ends_name reserved b ≡ t → name_length k reserved s ≤ k → name_length (suc k) reserved (b ∷ s) ≤ suc k
  go true q ih = rw (q, name_length) (omega arith)
  go false q ih = rw (q, name_length) (omega arith)

-- ---- the first bad byte of a name of k bytes, from the place i on

module _ (k : ℕ) (s : List ℕ) (i : ℕ) where
  pub bad_next : i < length s → may_stand k i (get_or s i 0) ≡ true → first_bad k i (drop i s) ≡ first_bad k (i + 1) (drop (i + 1) s)
  unfolding first_bad
  bad_next h q = rw (drop_next s i h, q, first_bad)

  pub bad_here : i < length s → may_stand k i (get_or s i 0) ≡ false → first_bad k i (drop i s) ≡ i
  unfolding first_bad
  bad_here h q = rw (drop_next s i h, q, first_bad)

  pub bad_none : length s ≤ i → first_bad k i (drop i s) ≡ k
  unfolding first_bad
  bad_none h = rw (drop_of_length-le s h)

-- ---- the last byte

pub slash_last : (n : List ℕ) → 0 < length n → eqb (get_or n (length n - 1) 0) 0x2F ≡ ends_in_slash n
unfolding ends_in_slash is_slash
slash_last [] h = absurd (omega arith)
slash_last (b ∷ []) h = refl
slash_last (b ∷ (c ∷ s)) h =
    let e : suc (suc (length s)) - 1 ≡ suc (suc (length s) - 1) = omega arith in
    rw e (slash_last (c ∷ s) (omega arith))

eqb_sym : (a b : ℕ) → eqb a b ≡ eqb b a
eqb_sym a b = iff (eqb a b) (eqb b a) (λ t. eq-eqb b a (sym (eqb-true a b t))) (λ t. eq-eqb a b (sym (eqb-true b a t)))

pub slash_ends : (n : List ℕ) → ends_with eqb n (0x2F ∷ []) ≡ ends_in_slash n
unfolding ends_in_slash is_slash
slash_ends [] = refl
slash_ends (b ∷ []) = and-true (eqb 0x2F b) ∙ eqb_sym 0x2F b
slash_ends (b ∷ (c ∷ s)) =
    let e : suc (suc (length s)) - 1 ≡ suc (suc (length s) - 1) = omega arith in
    rw e (slash_ends (c ∷ s))
