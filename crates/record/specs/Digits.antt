-- A word of eight bytes as one number: its bytes, the first the lowest, and what a sum and a mask of the whole word say of each of them.
use Rattle.std.specs.Prelude.{ℕ, zero, suc, ◌+◌, ◌*◌, ◌/◌, ◌%◌, ◌≤◌, ◌<◌, ◌^◌, ◌≡◌, refl, List, [], ◌∷◌, ◌++◌, map, length, take, drop, get_or}
use Rattle.std.proofs.Common.{arith, pow-suc, mul_right_comm, sym, ap, ap₂, ◌∙◌}
use Rattle.std.proofs.Math.Seq.{take-suc, take-length}
use Rattle.std.proofs.lemmas.List.{length-take-le}
use Rattle.std.proofs.Math.Nat.{mod-one}
use Rattle.std.specs.Int.{w64, byte_worth, sum_through, from_le_bytes}
use Rattle.std.specs.Int.Bits.{bit_and, and_zero_r}
use Rattle.std.proofs.lemmas.Nat.{and_block, and_le_r}
use Rattle.std.proofs.Math.Arith.{mod-mul}
use Rattle.spec.specs.Basics.{Each}

-- these bytes as one number
unfoldable pub number : List ℕ → ℕ
number [] = 0
number (b ∷ s) = b + 256 * number s

-- the k lowest bytes of a number
unfoldable pub digits : ℕ → ℕ → List ℕ
digits zero w = []
digits (suc k) w = w % 256 ∷ digits k (w / 256)

pub length_digits : (k w : ℕ) → length (digits k w) ≡ k
unfolding digits
length_digits zero w = refl
length_digits (suc k) w = ap suc (length_digits k (w / 256))

-- bytes to a number and back
pub digits_number : (s : List ℕ) → Each (λ b. b < 256) s → digits (length s) (number s) ≡ s
unfolding digits number
digits_number [] h = refl
digits_number (b ∷ s) h =
    let l : b < 256 = h.0 in
    let r : (b + 256 * number s) % 256 ≡ b = omega arith in
    let q : (b + 256 * number s) / 256 ≡ number s = omega arith in
    rw (r, q) (ap (λ (t : List ℕ). b ∷ t) (digits_number s h.1))

pow_pos : (k : ℕ) → 0 < 256 ^ k
pow_pos zero = omega arith
pow_pos (suc k) = let h = pow_pos k in let e = pow-suc 256 k in omega arith

-- the k lowest bytes, as a number
pub number_low : (k j w : ℕ) → k ≤ j → number (take k (digits j w)) ≡ w % 256 ^ k
unfolding digits number
number_low zero j w h = sym (mod-one w)
number_low (suc k) zero w h = absurd (omega arith)
number_low (suc k) (suc j) w h =
    let e : w % (256 ^ k * 256) ≡ w / 256 % 256 ^ k * 256 + w % 256 = mod-mul w {m = 256 ^ k} {c = 256} (pow_pos k) (omega arith) in
    let ih : number (take k (digits j (w / 256))) ≡ w / 256 % 256 ^ k = number_low k j (w / 256) (omega arith) in
    let p : 256 ^ suc k ≡ 256 ^ k * 256 = pow-suc 256 k in
    rw p (omega (arith, e, ih))

-- the whole number
pub number_digits : (k w : ℕ) → w < 256 ^ k → number (digits k w) ≡ w
unfolding digits number
number_digits zero w h = omega arith
number_digits (suc k) w h =
    let p : 256 ^ suc k ≡ 256 ^ k * 256 = pow-suc 256 k in
    let l : w < 256 ^ k * 256 = rw p at h in
    let ih : number (digits k (w / 256)) ≡ w / 256 = number_digits k (w / 256) (omega arith) in
    omega (arith, ih)

pub number_append : (s t : List ℕ) → number (s ++ t) ≡ number s + 256 ^ length s * number t
unfolding number
number_append [] t = omega arith
number_append (b ∷ s) t =
    let p : 256 ^ suc (length s) ≡ 256 ^ length s * 256 = pow-suc 256 (length s) in
    let e : 256 ^ length s * 256 * number t ≡ 256 ^ length s * number t * 256 = mul_right_comm (256 ^ length s) 256 (number t) in
    let ih : number (s ++ t) ≡ number s + 256 ^ length s * number t = number_append s t in
    rw p (omega (arith, e, ih))

-- the library's sum of bytes, each times what its place is worth
number_sum : (k : ℕ) (s : List ℕ) → k < length s → sum_through (λ i. byte_worth i (get_or s i 0)) k ≡ number (take (suc k) s)
unfolding number
number_sum zero [] h = absurd (omega arith)
number_sum zero (b ∷ s) h = omega arith
number_sum (suc k) s h =
    let b = get_or s (suc k) 0 in
    let l : length (take (suc k) s) ≡ suc k = length-take-le (suc k) s (omega arith) in
    let e = ap number (take-suc s (suc k) 0 h) ∙ number_append (take (suc k) s) (b ∷ []) in
    let f : number (take (suc (suc k)) s) ≡ number (take (suc k) s) + 256 ^ suc k * (b + 256 * 0) = rw l at e in
    omega (arith, number_sum k s (omega arith), f)

-- eight neighbours
bytes_each : (s : List ℕ) → ((j : ℕ) → get_or s j 0 < 256) → Each (λ b. b < 256) s
bytes_each [] h = tt
bytes_each (b ∷ s) h = (h 0, bytes_each s (λ j. h (suc j)))

bytes_part : (s : List ℕ) → Each (λ b. b < 256) s → (k i : ℕ) → Each (λ b. b < 256) (take k (drop i s))
bytes_part s h zero i = tt
bytes_part [] h (suc k) zero = tt
bytes_part [] h (suc k) (suc i) = tt
bytes_part (b ∷ s) h (suc k) zero = (h.0, bytes_part s h.1 k zero)
bytes_part (b ∷ s) h (suc k) (suc i) = bytes_part s h.1 (suc k) i

pub word_bytes : (s : List ℕ) (i : ℕ) → ((j : ℕ) → get_or s j 0 < 256) → length (take 8 (drop i s)) ≡ 8
    → digits 8 (number (take 8 (drop i s))) ≡ take 8 (drop i s)
word_bytes s i h l =
    let t : List ℕ = take 8 (drop i s) in
    ap (λ (k : ℕ). digits k (number t)) (sym l) ∙ digits_number t (bytes_part s (bytes_each s h) 8 i)

pub from_bytes : (s : List ℕ) → length s ≡ 8 → from_le_bytes w64 s ≡ number s
from_bytes s l =
    let t : take 8 s ≡ s = rw (sym l) (take-length s) in
    number_sum 7 s (omega (arith, l)) ∙ ap number t

-- ---- a sum of the whole word adds to each byte, where none of them runs over

-- k bytes of c
unfoldable pub each_byte : ℕ → ℕ → ℕ
each_byte c zero = 0
each_byte c (suc k) = c + 256 * each_byte c k

-- every byte is less than 80 hex
abbrev pub Low : List ℕ → Type 0
Low = Each (λ b. b < 128)

pub digits_sum : (c k w : ℕ) → c ≤ 128 → Low (digits k w) → digits k (w + each_byte c k) ≡ map (λ b. b + c) (digits k w)
unfolding digits each_byte
digits_sum c zero w m h = refl
digits_sum c (suc k) w m h =
    let l : w % 256 < 128 = h.0 in
    let r : (w + (c + 256 * each_byte c k)) % 256 ≡ w % 256 + c = omega arith in
    let q : (w + (c + 256 * each_byte c k)) / 256 ≡ w / 256 + each_byte c k = omega arith in
    rw (r, q) (ap (λ (t : List ℕ). (w % 256 + c) ∷ t) (digits_sum c k (w / 256) m h.1))

-- ---- the top bits

pub top_of : (b : ℕ) → b < 256 → bit_and b 128 ≡ b / 128 * 128
top_of b h =
    let e : b / 128 * 2 ^ 7 + b % 128 ≡ b = omega arith in
    let low : b % 128 < 2 ^ 7 = omega arith in
    let z : bit_and (b % 128) 0 ≡ 0 = and_zero_r (b % 128) in
    let step : bit_and (b / 128 * 2 ^ 7 + b % 128) (1 * 2 ^ 7 + 0) ≡ bit_and (b / 128) 1 * 2 ^ 7 + bit_and (b % 128) 0 =
    and_block 7 (b / 128) 1 (b % 128) 0 low (omega arith) in
    sym (ap (λ (x : ℕ). bit_and x 128) e) ∙ step ∙ ap₂ (λ (x y : ℕ). x * 2 ^ 7 + y) (bit (b / 128) (omega arith)) z ∙ omega arith where
      bit : (x : ℕ) → x < 2 → bit_and x 1 ≡ x
      bit zero l = refl
      bit (suc zero) l = refl
      bit (suc (suc x)) l = absurd (omega arith)

-- of one byte and those above it
mask_step : (k w : ℕ) → bit_and w (each_byte 128 (suc k)) ≡ bit_and (w / 256) (each_byte 128 k) * 256 + w % 256 / 128 * 128
unfolding each_byte
mask_step k w =
    let e : w / 256 * 2 ^ 8 + w % 256 ≡ w = omega arith in
    let m : 128 + 256 * each_byte 128 k ≡ each_byte 128 k * 2 ^ 8 + 128 = omega arith in
    let l : w % 256 < 2 ^ 8 = omega arith in
    ap₂ bit_and (sym e) m ∙ and_block 8 (w / 256) (each_byte 128 k) (w % 256) 128 l (omega arith)
    ∙ ap (λ (x : ℕ). bit_and (w / 256) (each_byte 128 k) * 2 ^ 8 + x) (top_of (w % 256) (omega arith))

-- the mask leaves nothing: every byte is low
pub mask_none : (k w : ℕ) → bit_and w (each_byte 128 k) ≡ 0 → Low (digits k w)
unfolding digits
mask_none zero w e = tt
mask_none (suc k) w e =
    let s = mask_step k w in
    let l : w % 256 < 128 = omega (arith, s, e) in
    let r : bit_and (w / 256) (each_byte 128 k) ≡ 0 = omega (arith, s, e) in
    (l, mask_none k (w / 256) r)

pub none_masked : (k w : ℕ) → Low (digits k w) → bit_and w (each_byte 128 k) ≡ 0
unfolding digits each_byte
none_masked zero w l = and_zero_r w
none_masked (suc k) w l =
    let low : w % 256 < 128 = l.0 in
    let r : bit_and (w / 256) (each_byte 128 k) ≡ 0 = none_masked k (w / 256) l.1 in
    omega (arith, mask_step k w, r)

-- every byte is 80 hex or more
abbrev pub High : List ℕ → Type 0
High = Each (λ b. 128 ≤ b)

-- the mask leaves all that it has: every byte is high
pub mask_all : (k w : ℕ) → bit_and w (each_byte 128 k) ≡ each_byte 128 k → High (digits k w)
unfolding digits each_byte
mask_all zero w e = tt
mask_all (suc k) w e =
    let s = mask_step k w in
    let m : bit_and (w / 256) (each_byte 128 k) ≤ each_byte 128 k = and_le_r (w / 256) (each_byte 128 k) in
    let l : 128 ≤ w % 256 = omega (arith, s, e, m) in
    let r : bit_and (w / 256) (each_byte 128 k) ≡ each_byte 128 k = omega (arith, s, e, m) in
    (l, mask_all k (w / 256) r)

pub all_masked : (k w : ℕ) → High (digits k w) → bit_and w (each_byte 128 k) ≡ each_byte 128 k
unfolding digits each_byte
all_masked zero w l = and_zero_r w
all_masked (suc k) w l =
    let high : 128 ≤ w % 256 = l.0 in
    let r : bit_and (w / 256) (each_byte 128 k) ≡ each_byte 128 k = all_masked k (w / 256) l.1 in
    omega (arith, mask_step k w, r)

-- how great a number of low bytes is at most
pub low_most : (k w : ℕ) → w < 256 ^ k → Low (digits k w) → w ≤ each_byte 127 k
unfolding digits each_byte
low_most zero w h l = omega arith
low_most (suc k) w h l =
    let p : 256 ^ suc k ≡ 256 ^ k * 256 = pow-suc 256 k in
    let m : w < 256 ^ k * 256 = rw p at h in
    let b : w % 256 < 128 = l.0 in
    let r : w / 256 ≤ each_byte 127 k = low_most k (w / 256) (omega arith) l.1 in
    omega (arith, r)
