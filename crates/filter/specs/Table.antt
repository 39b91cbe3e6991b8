-- A Bloom filter over names: the bits that a name sets, and that they stay set.
use Prim.Native.Nat.{ℕ, ◌*◌, ◌/◌, ◌%◌, ◌≤◌, ◌<◌, ◌^◌, max}
use Rattle.std.proofs.Common.{arith, ap, ◌∙◌, length-set, get_or-set_same, get_or-set_other, eq-eqb, eqb-true}
use Rattle.std.specs.Prelude.{◌≡◌, Bool, true, false, ◌&&◌, List, length, get_or, set, eqb}
use Rattle.std.proofs.Math.Path.{refl}
use Rattle.std.specs.Int.Bits.{bit_and, bit_or, and_step, or_step, and_zero_r, and_self}
use Rattle.std.proofs.lemmas.Nat.{or_comm}
use Rattle.std.proofs.Math.Arith.{bin_ind}
use Rattle.std.proofs.lemmas.Bool.{eqb-false}
use Rattle.laws.specs.Tests.{and_left, and_right}
use Rattle.filter.specs.declared.Signature.{Signature}
use Rattle.filter.specs.Hash.{name_hash}

-- ---- a name's bits

abbrev pub three_bits : ℕ → ℕ
three_bits z = bit_or (bit_or (2 ^ (z / 0x8000_0000 % 64)) (2 ^ (z / 0x200_0000 % 64))) (2 ^ (z / 0x8_0000 % 64))

-- of a name with the hash h
unfoldable pub signature_by : ℕ → Signature
signature_by h =
    record {
      bits = three_bits (h * 0xC2B2_AE3D);
      first = h * 0xC2B2_AE3D / 0x80_0000_0000_0000;
      second = h * 0xC2B2_AE3D / 0x4000_0000_0000 % 512;
      third = h * 0xC2B2_AE3D / 0x20_0000_0000 % 512;
    }

abbrev pub signature_of : List ℕ → Signature
signature_of name = signature_by (name_hash name)

-- all three words are words of the table
pub record InTable (s : Signature) : Type 0 where
  pub first : s.first < 512
  pub second : s.second < 512
  pub third : s.third < 512

-- ---- the table

-- these bits are set in this word
unfoldable pub has_bits : List ℕ → ℕ → ℕ → Bool
has_bits table at bits = eqb (bit_and (get_or table at 0) bits) bits

-- with these bits set there
unfoldable pub with_bits : List ℕ → ℕ → ℕ → List ℕ
with_bits table at bits = set table at (bit_or (get_or table at 0) bits)

-- all bits are set
abbrev pub has : List ℕ → Signature → Bool
has table s = has_bits table s.first s.bits && (has_bits table s.second s.bits && has_bits table s.third s.bits)

-- with these bits set
abbrev pub with : List ℕ → Signature → List ℕ
with table s = with_bits (with_bits (with_bits table s.first s.bits) s.second s.bits) s.third s.bits

-- ---- bits that are set stay set

or_half : (a b : ℕ) → bit_or a b / 2 ≡ bit_or (a / 2) (b / 2)
or_half a b = omega (arith, or_step a b)

or_digit : (a b : ℕ) → bit_or a b % 2 ≡ max (a % 2) (b % 2)
or_digit a b = omega (arith, or_step a b)

-- m's bits are set in a, and so they are when others are set too
or_keeps : (m a b : ℕ) → bit_and a m ≡ m → bit_and (bit_or a b) m ≡ m
or_keeps m =
    bin_ind (λ (n : ℕ). (a b : ℕ) → bit_and a n ≡ n → bit_and (bit_or a b) n ≡ n) (λ a b e. and_zero_r (bit_or a b))
    (λ n ih a b e.
    let h : bit_and (a / 2) (n / 2) ≡ n / 2 = omega (arith, and_step a n) in
    let k : bit_and (bit_or a b / 2) (n / 2) ≡ n / 2 = rw (or_half a b) (ih (a / 2) (b / 2) h) in
    omega (arith, and_step a n, and_step (bit_or a b) n, or_digit a b))
    m

or_has : (a b : ℕ) → bit_and (bit_or a b) b ≡ b
or_has a b = ap (λ (x : ℕ). bit_and x b) (or_comm a b) ∙ or_keeps b b a (and_self b)

length_bits : (table : List ℕ) (at bits : ℕ) → length (with_bits table at bits) ≡ length table
unfolding with_bits
length_bits table at bits = simp length-set

pub length_with : (table : List ℕ) (s : Signature) → length (with table s) ≡ length table
length_with table s =
    let one : List ℕ = with_bits table s.first s.bits in
    length_bits (with_bits one s.second s.bits) s.third s.bits ∙ length_bits one s.second s.bits
    ∙ length_bits table s.first s.bits

-- of one word
module _ (table : List ℕ) (at bits : ℕ) (l : at < length table) where
  -- bits that were set are
  bits_set : has_bits (with_bits table at bits) at bits ≡ true
  unfolding has_bits with_bits
  bits_set =
      rw (get_or-set_same table at (bit_or (get_or table at 0) bits) 0 l)
      (eq-eqb (bit_and (bit_or (get_or table at 0) bits) bits) bits (or_has (get_or table at 0) bits))

  -- and stay so
  bits_kept : (a b : ℕ) → has_bits table a b ≡ true → has_bits (with_bits table at bits) a b ≡ true
  unfolding has_bits with_bits
  bits_kept a b h = go (eqb a at) refl where
    v : ℕ
    v = bit_or (get_or table at 0) bits

    pending : bit_and (get_or table a 0) b ≡ b
    pending = eqb-true (bit_and (get_or table a 0) b) b h

    go : (t : Bool) → eqb a at ≡ t → eqb (bit_and (get_or (set table at v) a 0) b) b ≡ true
    go true e =
        let q : a ≡ at = eqb-true a at e in
        rw (q, get_or-set_same table at v 0 l)
        (eq-eqb (bit_and v b) b (or_keeps b (get_or table at 0) bits (rw q at pending)))
    go false e = rw (get_or-set_other table at a v 0 (eqb-false a at e)) h

and_all : (a b c : Bool) → a ≡ true → b ≡ true → c ≡ true → (a && (b && c)) ≡ true
and_all a b c h g f = rw (h, g, f)

-- of all three
module _ (table : List ℕ) (s : Signature) (w : InTable s) (size : 512 ≤ length table) where
  abbrev one : List ℕ
  one = with_bits table s.first s.bits

  abbrev two : List ℕ
  two = with_bits one s.second s.bits

  in_table : s.first < length table
  in_table = omega (arith, w.first)

  in_one : s.second < length one
  in_one = rw (length_bits table s.first s.bits) (omega (arith, w.second))

  in_two : s.third < length two
  in_two = rw (length_bits one s.second s.bits, length_bits table s.first s.bits) (omega (arith, w.third))

  all_kept : (a b : ℕ) → has_bits table a b ≡ true → has_bits (with table s) a b ≡ true
  all_kept a b h =
      bits_kept two s.third s.bits in_two a b
      (bits_kept one s.second s.bits in_one a b (bits_kept table s.first s.bits in_table a b h))

  pub has_set : has (with table s) s ≡ true
  has_set =
      let kept = bits_kept two s.third s.bits in_two in
      and_all _ _ _ (
      kept s.first s.bits
      (bits_kept one s.second s.bits in_one s.first s.bits (bits_set table s.first s.bits in_table))
      )
      (kept s.second s.bits (bits_set one s.second s.bits in_one))
      (bits_set two s.third s.bits in_two)

  pub has_kept : (t : Signature) → has table t ≡ true → has (with table s) t ≡ true
  has_kept t h =
      let a : Bool = has_bits table t.first t.bits in
      let b : Bool = has_bits table t.second t.bits in
      let c : Bool = has_bits table t.third t.bits in
      let more : (b && c) ≡ true = and_right a (b && c) h in
      and_all _ _ _ (all_kept t.first t.bits (and_left a (b && c) h)) (all_kept t.second t.bits (and_left b c more))
      (all_kept t.third t.bits (and_right b c more))
