-- A word of fewer than eight bytes, filled up with letters, is readable where its bytes are.
use Rattle.std.specs.Prelude.{ℕ, zero, suc, ◌+◌, ◌-◌, ◌*◌, ◌/◌, ◌%◌, ◌≤◌, ◌<◌, ◌^◌, min, ◌≡◌, refl, Bool, true, false, ◌&&◌, List, [], ◌∷◌, ◌++◌, length, take, replicate}
use Rattle.std.proofs.Common.{arith, sym, ap, ◌∙◌, length-append, length-take}
use Rattle.std.proofs.lemmas.List.{length-replicate}
use Rattle.spec.specs.Basics.{all, Each}
use Rattle.laws.specs.Lists.{each_append}
use Rattle.laws.specs.Spaces.{is_readable}
use Rattle.record.specs.Digits.{number, digits, number_append, digits_number, length_digits}

-- the k bytes of w, and letters above them
abbrev pub filled : ℕ → ℕ → ℕ
filled w k = w + (0x6161_6161_6161_6161 - 0x6161_6161_6161_6161 % 256 ^ k)

-- what holds of 0 to 7
below_8 : (P : ℕ → Type 0) → P 0 → P 1 → P 2 → P 3 → P 4 → P 5 → P 6 → P 7 → (k : ℕ) → k < 8 → P k
below_8 P a b c d e f g i zero h = a
below_8 P a b c d e f g i (suc zero) h = b
below_8 P a b c d e f g i (suc (suc zero)) h = c
below_8 P a b c d e f g i (suc (suc (suc zero))) h = d
below_8 P a b c d e f g i (suc (suc (suc (suc zero)))) h = e
below_8 P a b c d e f g i (suc (suc (suc (suc (suc zero))))) h = f
below_8 P a b c d e f g i (suc (suc (suc (suc (suc (suc zero)))))) h = g
below_8 P a b c d e f g i (suc (suc (suc (suc (suc (suc (suc zero))))))) h = i
below_8 P a b c d e f g i (suc (suc (suc (suc (suc (suc (suc (suc k)))))))) h = absurd (omega arith)

-- a shift by k bytes
pub shifted : (k : ℕ) → k < 8
    → ((1 * 2 ^ (8 * k)) % 2 ^ 64 ≡ 256 ^ k) × (0 < (1 * 2 ^ (8 * k)) % 2 ^ 64) × ((1 * 2 ^ (8 * k)) % 2 ^ 64 ≤ 2 ^ 56)
shifted =
    below_8
    (λ k. ((1 * 2 ^ (8 * k)) % 2 ^ 64 ≡ 256 ^ k) × (0 < (1 * 2 ^ (8 * k)) % 2 ^ 64) × ((1 * 2 ^ (8 * k)) % 2 ^ 64 ≤ 2 ^ 56))
    (refl, omega arith, omega arith) (refl, omega arith, omega arith) (refl, omega arith, omega arith) (refl, omega arith, omega arith)
    (refl, omega arith, omega arith) (refl, omega arith, omega arith) (refl, omega arith, omega arith) (refl, omega arith, omega arith)

letters : (k : ℕ) → k < 8 → 0x6161_6161_6161_6161 - 0x6161_6161_6161_6161 % 256 ^ k ≡ 256 ^ k * number (replicate (8 - k) 0x61)
unfolding number
letters =
    below_8 (λ k. 0x6161_6161_6161_6161 - 0x6161_6161_6161_6161 % 256 ^ k ≡ 256 ^ k * number (replicate {A = ℕ} (8 - k) 0x61))
    refl refl refl refl refl refl refl refl

-- all of two lists, one after the other
pub all_append : (p : ℕ → Bool) (s t : List ℕ) → all p (s ++ t) ≡ (all p s && all p t)
all_append p [] t = refl
all_append p (b ∷ s) t = go (p b) refl (all_append p s t)
  where
    go : (x : Bool) → p b ≡ x → all p (s ++ t) ≡ (all p s && all p t) → all p (b ∷ (s ++ t)) ≡ (all p (b ∷ s) && all p t)
    go true e ih = rw (e, all) ih
    go false e ih = rw (e, all) refl

all_letters : (k : ℕ) → all is_readable (replicate k 0x61) ≡ true
unfolding is_readable
all_letters zero = refl
all_letters (suc k) = all_letters k

bytes_letters : (k : ℕ) → Each (λ b. b < 256) (replicate k 0x61)
bytes_letters zero = tt
bytes_letters (suc k) = (omega arith, bytes_letters k)

and_true : (a : Bool) → (a && true) ≡ a
and_true true = refl
and_true false = refl

-- filled up, its bytes tell
pub filled_readable : (s : List ℕ) → Each (λ b. b < 256) s → length s < 8
    → all is_readable (digits 8 (filled (number s) (length s))) ≡ all is_readable s
filled_readable s b h =
    let k = length s in
    let t : List ℕ = replicate {A = ℕ} (8 - k) 0x61 in
    let e : filled (number s) k ≡ number (s ++ t) = ap (λ (x : ℕ). number s + x) (letters k h) ∙ sym (number_append s t) in
    let l : length (s ++ t) ≡ 8 = length-append s t ∙ ap (λ (x : ℕ). k + x) (length-replicate {A = ℕ} (8 - k) 0x61) ∙ omega arith in
    let d : digits 8 (number (s ++ t)) ≡ s ++ t =
    ap (λ (x : ℕ). digits x (number (s ++ t))) (sym l)
    ∙ digits_number (s ++ t) (each_append (λ x. x < 256) s t b (bytes_letters (8 - k))) in
    ap (λ (x : ℕ). all is_readable (digits 8 x)) e ∙ ap (all is_readable) d ∙ all_append is_readable s t
    ∙ ap (λ (x : Bool). all is_readable s && x) (all_letters (8 - k)) ∙ and_true (all is_readable s)

bytes_digits : (j k w : ℕ) → Each (λ b. b < 256) (take j (digits k w))
unfolding digits
bytes_digits zero k w = tt
bytes_digits (suc j) zero w = tt
bytes_digits (suc j) (suc k) w = (omega arith, bytes_digits j k (w / 256))

-- the k lowest bytes of a word
pub low_readable : (k w : ℕ) → k < 8
    → all is_readable (digits 8 (filled (number (take k (digits 8 w))) k)) ≡ all is_readable (take k (digits 8 w))
low_readable k w h =
    let s : List ℕ = take k (digits 8 w) in
    let l : length s ≡ k = length-take k (digits 8 w) ∙ ap (min k) (length_digits 8 w) ∙ least in
    ap (λ (j : ℕ). all is_readable (digits 8 (filled (number s) j))) (sym l)
    ∙ filled_readable s (bytes_digits k 8 w) (omega (arith, l)) where
      least : min k 8 ≡ k
      least = omega arith
