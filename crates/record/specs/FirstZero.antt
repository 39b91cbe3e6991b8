-- The first 00 among a word's bytes: a mask with the top bit of each 00 byte, and the zeros below its lowest bit.
use Rattle.std.specs.Prelude.{ℕ, zero, suc, ◌+◌, ◌-◌, ◌*◌, ◌/◌, ◌%◌, ◌≤◌, ◌<◌, ◌^◌, ◌≡◌, refl, Bool, true, false, List, [], ◌∷◌, eqb}
use Rattle.std.proofs.Common.{arith, sym, ap, ap₂, ◌∙◌, eq-eqb, ne_eqb, eqb-true}
use Rattle.std.specs.Int.Bits.{bit_and, bit_or}
use Rattle.std.proofs.lemmas.Nat.{and_block, or_block, and_le_r, and_mask, or_lt, trailing_le}
use Rattle.std.specs.Int.Count.{count_trailing_zeros}
use Rattle.std.proofs.lemmas.Bool.{eqb-false}
use Rattle.spec.specs.Bytes.{ends_name}
use Rattle.spec.specs.Record.{name_length}
use Rattle.record.specs.Digits.{digits, each_byte, top_of}

-- 80 hex for any byte but 00
abbrev high_bit : ℕ → ℕ
high_bit zero = 0
high_bit (suc b) = 128

-- the top bits of the bytes that are not 00, as the code makes them
abbrev pub written_tops : ℕ → ℕ → ℕ
written_tops k w = bit_and (bit_or (bit_and w (each_byte 127 k) + each_byte 127 k) w) (each_byte 128 k)

-- and of those that are
abbrev pub zero_tops : ℕ → ℕ → ℕ
zero_tops k w = each_byte 128 k - written_tops k w

either_bit : (u v : ℕ) → u < 2 → v < 2 → 0 < u + v → bit_or u v ≡ 1
either_bit zero zero a b h = absurd (omega arith)
either_bit zero (suc zero) a b h = refl
either_bit (suc zero) zero a b h = refl
either_bit (suc zero) (suc zero) a b h = refl
either_bit (suc (suc u)) v a b h = absurd (omega arith)
either_bit zero (suc (suc v)) a b h = absurd (omega arith)
either_bit (suc zero) (suc (suc v)) a b h = absurd (omega arith)

-- of one byte
top_bit : (b : ℕ) → b < 256 → bit_and (bit_or (b % 128 + 127) b) 128 ≡ high_bit b
top_bit zero h = refl
top_bit (suc c) h =
    let b : ℕ = suc c in
    let x : ℕ = b % 128 + 127 in
    let r : ℕ = bit_or x b in
    let small : r < 2 ^ 8 = or_lt 8 x b (omega arith) (omega arith) in
    let ex : x / 128 * 2 ^ 7 + x % 128 ≡ x = omega arith in
    let eb : b / 128 * 2 ^ 7 + b % 128 ≡ b = omega arith in
    let low : bit_or (x % 128) (b % 128) < 2 ^ 7 = or_lt 7 (x % 128) (b % 128) (omega arith) (omega arith) in
    let q : bit_or (x / 128 * 2 ^ 7 + x % 128) (b / 128 * 2 ^ 7 + b % 128) ≡ bit_or (x / 128) (b / 128) * 2 ^ 7 + bit_or (x % 128) (b % 128) =
    or_block 7 (x / 128) (b / 128) (x % 128) (b % 128) (omega arith) (omega arith) in
    let one : bit_or (x / 128) (b / 128) ≡ 1 = either_bit (x / 128) (b / 128) (omega arith) (omega arith) (omega arith) in
    let whole : r ≡ bit_or (x / 128) (b / 128) * 2 ^ 7 + bit_or (x % 128) (b % 128) = ap₂ bit_or (sym ex) (sym eb) ∙ q in
    top_of r small ∙ omega (arith, whole, one, low)

-- of one byte and those above it
tops_step : (k w : ℕ) → written_tops (suc k) w ≡ written_tops k (w / 256) * 256 + high_bit (w % 256)
unfolding each_byte
tops_step k w =
    let b : ℕ = w % 256 in
    let v : ℕ = w / 256 in
    let E : ℕ = each_byte 127 k in
    let A : ℕ = bit_and v E in
    let ew : v * 2 ^ 8 + b ≡ w = omega arith in
    let em : 127 + 256 * E ≡ E * 2 ^ 8 + 127 = omega arith in
    let et : 128 + 256 * each_byte 128 k ≡ each_byte 128 k * 2 ^ 8 + 128 = omega arith in
    let small : b < 2 ^ 8 = omega arith in
    let e1 : bit_and w (127 + 256 * E) ≡ A * 2 ^ 8 + b % 128 =
    ap₂ bit_and (sym ew) em ∙ and_block 8 v E b 127 small (omega arith) ∙ ap (λ (x : ℕ). A * 2 ^ 8 + x) (and_mask b 7) in
    let e2 : bit_and w (127 + 256 * E) + (127 + 256 * E) ≡ (A + E) * 2 ^ 8 + (b % 128 + 127) = omega (arith, e1) in
    let e3 : bit_or ((A + E) * 2 ^ 8 + (b % 128 + 127)) (v * 2 ^ 8 + b) ≡ bit_or (A + E) v * 2 ^ 8 + bit_or (b % 128 + 127) b =
    or_block 8 (A + E) v (b % 128 + 127) b (omega arith) small in
    ap₂ (λ (x y : ℕ). bit_and (bit_or x y) (128 + 256 * each_byte 128 k)) e2 (sym ew)
    ∙ ap₂ bit_and e3 et
    ∙ and_block 8 (bit_or (A + E) v) (each_byte 128 k) (bit_or (b % 128 + 127) b) 128 (or_lt 8 (b % 128 + 127) b (omega arith) small)
    (omega arith)
    ∙ ap (λ (x : ℕ). bit_and (bit_or (A + E) v) (each_byte 128 k) * 2 ^ 8 + x) (top_bit b small)

-- ---- the zeros below the lowest bit

zeros_step : (k n : ℕ) → n % 2 ≡ 0 → count_trailing_zeros (suc k) n ≡ suc (count_trailing_zeros k (n / 2))
unfolding count_trailing_zeros
zeros_step k n e = rw e refl

zeros_end : (k n : ℕ) → n % 2 ≡ 1 → count_trailing_zeros (suc k) n ≡ 0
unfolding count_trailing_zeros
zeros_end k n e = rw e refl

-- three digits, and four
zeros_three : (k n : ℕ) → n % 8 ≡ 0 → count_trailing_zeros (suc (suc (suc k))) n ≡ 3 + count_trailing_zeros k (n / 8)
zeros_three k n e =
    let h : n / 2 / 2 / 2 ≡ n / 8 = omega arith in
    let a = zeros_step (suc (suc k)) n (omega arith) in
    let b = zeros_step (suc k) (n / 2) (omega arith) in
    let c = zeros_step k (n / 2 / 2) (omega arith) in
    let d = ap (count_trailing_zeros k) h in
    omega (arith, a, b, c, d)

zeros_four : (k n : ℕ) → n % 16 ≡ 0 → count_trailing_zeros (suc (suc (suc (suc k)))) n ≡ 4 + count_trailing_zeros k (n / 16)
zeros_four k n e =
    let h : n / 8 / 2 ≡ n / 16 = omega arith in
    let a = zeros_three (suc k) n (omega arith) in
    let b = zeros_step k (n / 8) (omega arith) in
    let d = ap (count_trailing_zeros k) h in
    omega (arith, a, b, d)

-- a byte of 00, and one of 80 hex
zeros_byte : (k n : ℕ) → n % 256 ≡ 0 → count_trailing_zeros (suc (suc (suc (suc (suc (suc (suc (suc k)))))))) n ≡ 8 + count_trailing_zeros k (n / 256)
zeros_byte k n e =
    let h : n / 16 / 16 ≡ n / 256 = omega arith in
    let a = zeros_four (suc (suc (suc (suc k)))) n (omega arith) in
    let b = zeros_four k (n / 16) (omega arith) in
    let d = ap (count_trailing_zeros k) h in
    omega (arith, a, b, d)

zeros_top : (k n : ℕ) → n % 256 ≡ 128 → count_trailing_zeros (suc (suc (suc (suc (suc (suc (suc (suc k)))))))) n ≡ 7
zeros_top k n e =
    let a = zeros_four (suc (suc (suc (suc k)))) n (omega arith) in
    let b = zeros_three (suc k) (n / 16) (omega arith) in
    let c = zeros_end k (n / 16 / 8) (omega arith) in
    omega (arith, a, b, c)

-- ---- the place

-- a byte of 00 ends a name, and no other does
name_zero : (k b : ℕ) (s : List ℕ) → b ≡ 0 → name_length (suc k) false (b ∷ s) ≡ 0
unfolding name_length ends_name
name_zero k b s e = rw (eq-eqb b 0 e, name_length) refl

name_other : (k b : ℕ) (s : List ℕ) → (b ≡ 0 → ⊥) → name_length (suc k) false (b ∷ s) ≡ suc (name_length k false s)
unfolding name_length ends_name
name_other k b s n = rw (ne_eqb b 0 n, name_length) refl

-- nothing is looked at
none_left : (n : ℕ) → count_trailing_zeros 0 n ≡ 0
unfolding count_trailing_zeros
none_left n = refl

name_none : (s : List ℕ) → name_length 0 false s ≡ 0
unfolding name_length
name_none s = refl

high_other : (b : ℕ) → (b ≡ 0 → ⊥) → high_bit b ≡ 128
high_other zero n = absurd (n refl)
high_other (suc b) n = refl

pub first_zero : (k w : ℕ) → count_trailing_zeros (8 * k) (zero_tops k w) / 8 ≡ name_length k false (digits k w)
unfolding digits each_byte
first_zero zero w = ap (λ (x : ℕ). x / 8) (none_left (zero_tops 0 w)) ∙ sym (name_none [])
first_zero (suc k) w =
    let b : ℕ = w % 256 in
    let v : ℕ = w / 256 in
    let z : ℕ = zero_tops (suc k) w in
    let E : ℕ = each_byte 128 k in
    let W : ℕ = written_tops k v in
    let n : 8 * suc k ≡ suc (suc (suc (suc (suc (suc (suc (suc (8 * k)))))))) = omega arith in
    let t : written_tops (suc k) w ≡ W * 256 + high_bit b = tops_step k w in
    let m : W ≤ E = and_le_r (bit_or (bit_and v (each_byte 127 k) + each_byte 127 k) v) E in
    let ez : z ≡ 128 + 256 * E - (W * 256 + high_bit b) = ap (λ (x : ℕ). 128 + 256 * E - x) t in
    ap (λ (j : ℕ). count_trailing_zeros j z / 8) n ∙ go (eqb b 0) refl b refl z ez m (first_zero k v) where
      go : (x : Bool) → eqb (w % 256) 0 ≡ x → (b : ℕ) → b ≡ w % 256 → (z : ℕ)
          → z ≡ 128 + 256 * each_byte 128 k - (written_tops k (w / 256) * 256 + high_bit b)
          → written_tops k (w / 256) ≤ each_byte 128 k
          → count_trailing_zeros (8 * k) (zero_tops k (w / 256)) / 8 ≡ name_length k false (digits k (w / 256))
          → count_trailing_zeros (suc (suc (suc (suc (suc (suc (suc (suc (8 * k))))))))) z / 8
          ≡ name_length (suc k) false (w % 256 ∷ digits k (w / 256))
      go true e b eb z ez m ih =
          let zero : w % 256 ≡ 0 = eqb-true (w % 256) 0 e in
          let hb : high_bit b ≡ 0 = ap high_bit (eb ∙ zero) in
          let q = zeros_top (8 * k) z (omega (arith, ez, hb, m)) in
          omega (arith, q, name_zero k (w % 256) (digits k (w / 256)) zero)
      go false e b eb z ez m ih =
          let other : w % 256 ≡ 0 → ⊥ = eqb-false (w % 256) 0 e in
          let hb : high_bit b ≡ 128 = high_other b (λ q. other (sym eb ∙ q)) in
          let q = zeros_byte (8 * k) z (omega (arith, ez, hb, m)) in
          let h : z / 256 ≡ zero_tops k (w / 256) = omega (arith, ez, hb, m) in
          let r = ap (count_trailing_zeros (8 * k)) h in
          omega (arith, q, r, ih, name_other k (w % 256) (digits k (w / 256)) other)

-- ---- of eight bytes, as the code has it

module _ (w : ℕ) where
  pub written_fits : bit_and w 0x7F7F_7F7F_7F7F_7F7F + 0x7F7F_7F7F_7F7F_7F7F < 2 ^ 64
  written_fits = omega (arith, and_le_r w 0x7F7F_7F7F_7F7F_7F7F)

  abbrev Tops : ℕ
  Tops = bit_and (bit_or (bit_and w 0x7F7F_7F7F_7F7F_7F7F + 0x7F7F_7F7F_7F7F_7F7F) w) 0x8080_8080_8080_8080

  pub tops_least : Tops ≤ 0x8080_8080_8080_8080
  tops_least = and_le_r (bit_or (bit_and w 0x7F7F_7F7F_7F7F_7F7F + 0x7F7F_7F7F_7F7F_7F7F) w) 0x8080_8080_8080_8080

  pub first_zero_is : count_trailing_zeros 64 (0x8080_8080_8080_8080 - Tops) / 8 ≡ name_length 8 false (digits 8 w)
  unfolding each_byte
  first_zero_is = first_zero 8 w

  pub few_zeros : count_trailing_zeros 64 (0x8080_8080_8080_8080 - Tops) ≤ 64
  few_zeros = trailing_le 64 (0x8080_8080_8080_8080 - Tops)

-- what first_zero's proof goes by
pub ruleset zeros = (written_fits, tops_least, few_zeros, first_zero_is)
