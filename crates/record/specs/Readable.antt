-- Whether every byte of a word can be read, 20 to 7E hex: three sums and masks of the whole word tell.
use Rattle.std.specs.Prelude.{ℕ, ◌+◌, ◌≤◌, ◌<◌, ◌^◌, ◌≡◌, refl, Bool, true, false, List, [], ◌∷◌, map, eqb, leb}
use Rattle.std.proofs.Common.{arith, sym, subst}
use Rattle.std.proofs.lemmas.Bool.{false≢true}
use Rattle.std.specs.Int.Bits.{bit_and}
use borrow.Author.Tests.{le-leb, leb-true, eq-eqb, eqb-true}
use Rattle.spec.specs.Basics.{all, Each}
use Rattle.laws.specs.Tests.{iff, and_left, and_right}
use Rattle.laws.specs.Spaces.{is_readable}
use Rattle.record.specs.Digits.{digits, each_byte, Low, High, digits_sum, mask_none, none_masked, mask_all, all_masked, low_most}

-- a byte from 20 to 7E hex
abbrev pub Between : ℕ → Type 0
Between b = (0x20 ≤ b) × (b ≤ 0x7E)

readable_byte : (b : ℕ) → is_readable b ≡ true → Between b
unfolding is_readable
readable_byte b h =
    (leb-true 0x20 b (and_left (leb 0x20 b) (leb b 0x7E) h), leb-true b 0x7E (and_right (leb 0x20 b) (leb b 0x7E) h))

byte_readable : (b : ℕ) → Between b → is_readable b ≡ true
unfolding is_readable
byte_readable b h = rw (le-leb 0x20 b h.0, le-leb b 0x7E h.1) refl

not_so : (t : Bool) → (t ≡ true → ⊥) → false ≡ t
not_so true n = absurd (n refl)
not_so false n = refl

-- of all bytes
pub readable_each : (s : List ℕ) → all is_readable s ≡ true → Each Between s
readable_each [] h = tt
readable_each (b ∷ s) h = go (is_readable b) refl h (readable_each s)
  where
    go : (t : Bool) → is_readable b ≡ t → elim t as (λ t. Bool) [ true ↦ all is_readable s | false ↦ false ] ≡ true
        → (all is_readable s ≡ true → Each Between s) → Each Between (b ∷ s)
    go true e q f = (readable_byte b e, f q)
    go false e q f = absurd (false≢true q)

each_readable : (s : List ℕ) → Each Between s → all is_readable s ≡ true
each_readable [] h = refl
each_readable (b ∷ s) h = rw (byte_readable b h.0, all) (each_readable s h.1)

-- what the three sums say of each byte
from_sums : (s : List ℕ) → Low s → Low (map (λ b. b + 1) s) → High (map (λ b. b + 0x60) s) → Each Between s
from_sums [] l a h = tt
from_sums (b ∷ s) l a h =
    let la : b + 1 < 128 = a.0 in
    let lh : 128 ≤ b + 0x60 = h.0 in
    ((omega arith, omega arith), from_sums s l.1 a.1 h.1)

low_of : (s : List ℕ) → Each Between s → Low s
low_of [] h = tt
low_of (b ∷ s) h = let l : b ≤ 0x7E = h.0.1 in (omega arith, low_of s h.1)

one_more : (s : List ℕ) → Each Between s → Low (map (λ b. b + 1) s)
one_more [] h = tt
one_more (b ∷ s) h = let l : b ≤ 0x7E = h.0.1 in (omega arith, one_more s h.1)

high_of : (s : List ℕ) → Each Between s → High (map (λ b. b + 0x60) s)
high_of [] h = tt
high_of (b ∷ s) h = let l : 0x20 ≤ b = h.0.0 in (omega arith, high_of s h.1)

-- of a word of k bytes
module _ (k w : ℕ) where
  -- the tests, as the code makes them
  abbrev pub Sums : Type 0
  Sums =
      (bit_and w (each_byte 128 k) ≡ 0) × (bit_and (w + each_byte 1 k) (each_byte 128 k) ≡ 0)
      × (bit_and (w + each_byte 0x60 k) (each_byte 128 k) ≡ each_byte 128 k)

  pub sums_readable : Sums → all is_readable (digits k w) ≡ true
  sums_readable h =
      let l : Low (digits k w) = mask_none k w h.0 in
      each_readable (digits k w)
      (from_sums (digits k w) l (subst Low (digits_sum 1 k w (omega arith) l) (mask_none k (w + each_byte 1 k) h.1))
      (subst High (digits_sum 0x60 k w (omega arith) l) (mask_all k (w + each_byte 0x60 k) h.2)))

  pub readable_sums : all is_readable (digits k w) ≡ true → Sums
  readable_sums h =
      let b : Each Between (digits k w) = readable_each (digits k w) h in
      let l : Low (digits k w) = low_of (digits k w) b in (
        none_masked k w l,
        none_masked k (w + each_byte 1 k) (subst Low (sym (digits_sum 1 k w (omega arith) l)) (one_more (digits k w) b)),
        all_masked k (w + each_byte 0x60 k) (subst High (sym (digits_sum 0x60 k w (omega arith) l)) (high_of (digits k w) b)),
      )

-- ---- of eight bytes, test by test

module _ (w : ℕ) where
  abbrev Readable : Bool
  Readable = all is_readable (digits 8 w)

  pub top_set : (bit_and w 0x8080_8080_8080_8080 ≡ 0 → ⊥) → false ≡ Readable
  unfolding each_byte
  top_set n = not_so Readable (λ h. n (readable_sums 8 w h).0)

  pub sum_set : (bit_and (w + 0x0101_0101_0101_0101) 0x8080_8080_8080_8080 ≡ 0 → ⊥) → false ≡ Readable
  unfolding each_byte
  sum_set n = not_so Readable (λ h. n (readable_sums 8 w h).1)

  pub sums_tell : bit_and w 0x8080_8080_8080_8080 ≡ 0 → bit_and (w + 0x0101_0101_0101_0101) 0x8080_8080_8080_8080 ≡ 0
      → eqb (bit_and (w + 0x6060_6060_6060_6060) 0x8080_8080_8080_8080) 0x8080_8080_8080_8080 ≡ Readable
  unfolding each_byte
  sums_tell a b =
      iff (eqb (bit_and (w + 0x6060_6060_6060_6060) 0x8080_8080_8080_8080) 0x8080_8080_8080_8080) Readable
      (λ t. sums_readable 8 w (a, b, eqb-true _ _ t))
      (λ h. eq-eqb _ _ (readable_sums 8 w h).2)

  -- no sum runs over
  pub sum_fits : w < 2 ^ 64 → bit_and w 0x8080_8080_8080_8080 ≡ 0 → w ≤ 0x7F7F_7F7F_7F7F_7F7F
  unfolding each_byte
  sum_fits h a = low_most 8 w h (mask_none 8 w a)

-- what all_readable's proof goes by
pub ruleset sums = (top_set, sum_set, sums_tell, sum_fits)
