-- The hash of a name. Nothing is proved of it but that a name has one, below 2^32: no answer depends on how well it spreads.
use Rattle.std.specs.Prelude.{ℕ, zero, suc, ◌+◌, ◌-◌, ◌*◌, ◌/◌, ◌%◌, ◌≤◌, ◌<◌, ◌^◌, ◌≡◌, refl, List, [], ◌∷◌, length, take, drop, get_or, reverse}
use Rattle.std.proofs.Common.{arith, pow-suc, sym, ap, ◌∙◌, drop-drop, take_all, length-drop, length-take-le}
use Rattle.std.specs.Int.{from_le_bytes, w64}
use Rattle.std.specs.Int.Bits.{bit_or}
use Rattle.std.specs.List.{fold}
use Rattle.std.specs.Simd.{first_chunks}
use Rattle.std.proofs.lemmas.Nat.{or_shifted}
use Rattle.std.proofs.lemmas.List.{reverse-append}
use Rattle.std.proofs.lemmas.List.Sums.{fold-append}
use Rattle.flash.specs.Words.{eight_at, eight_is}
use Rattle.record.specs.Digits.{number}
use Rattle.record.specs.Filled.{shifted}

-- both halves of a number, added
abbrev pub folded : ℕ → ℕ
folded y = y / 0x1_0000_0000 + y % 0x1_0000_0000

-- the hash with one word more
abbrev pub mixed : ℕ → ℕ → ℕ
mixed h w = folded ((w % 0x1_0000_0000 + h) * 0x1656_67B1 + w / 0x1_0000_0000 * 0x27D4_EB2F)

-- with k words more
unfoldable pub hash_words : ℕ → ℕ → List ℕ → ℕ
hash_words zero h s = h
hash_words (suc k) h s = hash_words k (mixed h (number (take 8 s))) (drop 8 s)

-- of the bytes that make no whole word, and then of the words
unfoldable pub name_hash : List ℕ → ℕ
name_hash s =
    hash_words (length s / 8) (mixed 0 (number (take (length s % 8) s))) (drop (length s % 8) s) % 0x1_0000_0000

-- ---- word by word, as the code goes: h is the hash of the bytes before i, and from there on only words are left

pub record Hashed (s : List ℕ) (i h : ℕ) : Type 0 where
  pub inside : i ≤ length s
  pub even : (length s - i) % 8 ≡ 0
  pub small : h < 2 ^ 33
  pub whole : name_hash s ≡ hash_words ((length s - i) / 8) h (drop i s) % 0x1_0000_0000

-- the bytes that make no whole word
pub hashed_first : (s : List ℕ) (k h : ℕ) → k ≡ length s % 8 → h ≡ mixed 0 (number (take k s)) → h < 2 ^ 33 → Hashed s k h
unfolding name_hash
hashed_first s k h ek eh l =
    let n : (length s - k) / 8 ≡ length s / 8 = omega arith in
    let e : mixed 0 (number (take k s)) ≡ h = sym eh in
    record {
      inside = omega arith;
      even = omega arith;
      small = l;
      whole =
          ap (λ (j : ℕ). hash_words (length s / 8) (mixed 0 (number (take j s))) (drop j s) % 0x1_0000_0000) (sym ek)
          ∙ ap (λ (x : ℕ). hash_words (length s / 8) x (drop k s) % 0x1_0000_0000) e
          ∙ ap (λ (j : ℕ). hash_words j h (drop k s) % 0x1_0000_0000) (sym n);
    }

-- one word more
pub hashed_next : (s : List ℕ) (i h x : ℕ) → Hashed s i h → i < length s → x ≡ mixed h (number (take 8 (drop i s))) → x < 2 ^ 33
    → Hashed s (i + 8) x
unfolding hash_words
hashed_next s i h x p l q m =
    let v = p.even in
    let n : (length s - i) / 8 ≡ suc ((length s - (i + 8)) / 8) = omega (arith, v) in
    record {
      inside = omega (arith, v);
      even = omega (arith, v);
      small = m;
      whole =
          p.whole ∙ ap (λ (j : ℕ). hash_words j h (drop i s) % 0x1_0000_0000) n
          ∙ ap (λ (y : ℕ). hash_words ((length s - (i + 8)) / 8) y (drop 8 (drop i s)) % 0x1_0000_0000) (sym q)
          ∙ ap (λ (r : List ℕ). hash_words ((length s - (i + 8)) / 8) x r % 0x1_0000_0000) (drop-drop 8 i s);
    }

-- and at the end
pub hashed_all : (s : List ℕ) (i h : ℕ) → Hashed s i h → length s ≤ i → h % 0x1_0000_0000 ≡ name_hash s
unfolding hash_words
hashed_all s i h p l =
    let n : (length s - i) / 8 ≡ 0 = omega arith in
    sym (p.whole ∙ ap (λ (j : ℕ). hash_words j h (drop i s) % 0x1_0000_0000) n)

-- ---- fewer than eight bytes, from the last of them down: each is pushed in below those before it

abbrev pub pushed : ℕ → ℕ → ℕ
pushed w b = bit_or (w * 2 ^ 8 % 2 ^ 64) b

pub pushed_all : (s : List ℕ) → ((i : ℕ) → get_or s i 0 < 256) → length s < 8
    → (fold pushed 0 (reverse s) ≡ number s) × (number s < 256 ^ length s)
unfolding number
pushed_all [] b l = (refl, omega arith)
pushed_all (x ∷ s) b l =
    let n : ℕ = number s in
    let ih = pushed_all s (λ i. b (suc i)) (omega arith) in
    let low : x < 2 ^ 8 = b 0 in
    let m : 256 ^ suc (length s) ≡ 256 ^ length s * 256 = pow-suc 256 (length s) in
    let fits = shifted (length s) (omega arith) in
    let whole : n * 2 ^ 8 % 2 ^ 64 ≡ n * 2 ^ 8 = omega (arith, ih.1, fits.0, fits.2) in (
      ap (fold pushed 0) (reverse-append (x ∷ []) s) ∙ fold-append pushed 0 (reverse s) (x ∷ [])
          ∙ ap (λ (w : ℕ). pushed w x) ih.0 ∙ ap (λ (w : ℕ). bit_or w x) whole ∙ or_shifted n 8 x low ∙ omega arith,
      rw m (omega (arith, ih.1)),
    )

-- ---- a list's words behind its first k bytes

chunk_at : (n j : ℕ) (s : List ℕ) → j < n → get_or (first_chunks 8 n s) j [] ≡ take 8 (drop (j * 8) s)
chunk_at zero j s h = absurd (omega arith)
chunk_at (suc n) zero s h = refl
chunk_at (suc n) (suc j) s h =
    let e : 8 + j * 8 ≡ suc j * 8 = omega arith in
    chunk_at n j (drop 8 s) (omega arith) ∙ ap (take 8) (drop-drop (j * 8) 8 s ∙ ap (λ (i : ℕ). drop i s) e)

number_8 : (s : List ℕ) → length s ≡ 8 → from_le_bytes w64 s ≡ number s
unfolding number
number_8 s l =
    let e : take 8 s ≡ eight_at s 0 = eight_is s 0 (omega arith) in
    let n : from_le_bytes w64 s ≡ number (eight_at s 0) = omega arith in
    n ∙ ap number (sym e ∙ take_all 8 s (omega arith))

-- the word at index j, as one number
pub chunk_number : (s : List ℕ) (k n j : ℕ) → j < n → k + n * 8 ≡ length s
    → from_le_bytes w64 (get_or (first_chunks 8 n (drop k s)) j []) ≡ number (take 8 (drop (k + j * 8) s))
chunk_number s k n j h l =
    let t : List ℕ = take 8 (drop (k + j * 8) s) in
    let e : get_or (first_chunks 8 n (drop k s)) j [] ≡ t = chunk_at n j (drop k s) h ∙ ap (take 8) (drop-drop (j * 8) k s) in
    ap (from_le_bytes w64) e ∙ number_8 t (length-take-le 8 (drop (k + j * 8) s) (rw length-drop (omega arith)))
