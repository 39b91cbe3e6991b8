-- The end of a name, word by word.
use Rattle.std.specs.Prelude.{ℕ, zero, suc, ◌+◌, ◌-◌, ◌≤◌, ◌<◌, ◌≡◌, refl, Bool, true, false, List, [], ◌∷◌, length, take, drop}
use Rattle.std.proofs.Common.{arith, zero-add, sym, ap, ◌∙◌, length-drop, drop-drop}
use Rattle.spec.specs.Bytes.{ends_name}
use Rattle.spec.specs.Record.{name_length}
use Rattle.record.specs.Digits.{digits}

-- the name at the front, within 64 bytes, does not end before i
pub record Passed (reserved : Bool) (s : List ℕ) (i : ℕ) : Type 0 where
  pub within : i ≤ 64
  pub whole : name_length 64 reserved s ≡ i + name_length (64 - i) reserved (drop i s)

pub passed_none : (reserved : Bool) (s : List ℕ) → Passed reserved s 0
passed_none reserved s = record { within = omega arith; whole = omega arith }

-- no byte is looked at
name_zero : (reserved : Bool) (s : List ℕ) → name_length 0 reserved s ≡ 0
unfolding name_length
name_zero reserved s = refl

-- at a byte that ends it, and at another
name_there : (k : ℕ) (reserved : Bool) (b : ℕ) (s : List ℕ) → ends_name reserved b ≡ true → name_length (suc k) reserved (b ∷ s) ≡ 0
unfolding name_length
name_there k reserved b s q = rw (q, name_length) refl

name_past : (k : ℕ) (reserved : Bool) (b : ℕ) (s : List ℕ) → ends_name reserved b ≡ false
    → name_length (suc k) reserved (b ∷ s) ≡ suc (name_length k reserved s)
unfolding name_length
name_past k reserved b s q = rw (q, name_length) refl

-- and where the bytes end
name_open : (k : ℕ) (reserved : Bool) → name_length (suc k) reserved [] ≡ suc k
unfolding name_length
name_open k reserved = refl

-- k bytes tell whether it ends among them
name_take : (k : ℕ) (reserved : Bool) (s : List ℕ) → name_length k reserved (take k s) ≡ name_length k reserved s
name_take zero reserved s = name_zero reserved [] ∙ sym (name_zero reserved s)
name_take (suc k) reserved [] = refl
name_take (suc k) reserved (b ∷ s) = go (ends_name reserved b) refl (name_take k reserved s) where
  go : (t : Bool) → ends_name reserved b ≡ t → name_length k reserved (take k s) ≡ name_length k reserved s
      → name_length (suc k) reserved (b ∷ take k s) ≡ name_length (suc k) reserved (b ∷ s)
  go true q ih = name_there k reserved b (take k s) q ∙ sym (name_there k reserved b s q)
  go false q ih = name_past k reserved b (take k s) q ∙ ap suc ih ∙ sym (name_past k reserved b s q)

-- it does not
past_whole : (k n : ℕ) (reserved : Bool) (s : List ℕ) → k ≤ length s → k ≤ name_length k reserved s
    → name_length (k + n) reserved s ≡ k + name_length n reserved (drop k s)
past_whole zero n reserved s l h = simp zero-add
past_whole (suc k) n reserved [] l h = absurd (omega arith)
past_whole (suc k) n reserved (b ∷ s) l h =
    let e : suc k + n ≡ suc (k + n) = omega arith in
    ap (λ (m : ℕ). name_length m reserved (b ∷ s)) e ∙ go (ends_name reserved b) refl (past_whole k n reserved s) where
      go : (t : Bool) → ends_name reserved b ≡ t
          → (k ≤ length s → k ≤ name_length k reserved s → name_length (k + n) reserved s ≡ k + name_length n reserved (drop k s))
          → name_length (suc (k + n)) reserved (b ∷ s) ≡ suc k + name_length n reserved (drop k s)
      go true q ih = absurd (let z = name_there k reserved b s q in omega (arith, z, h))
      go false q ih =
          let m = name_past k reserved b s q in
          let r = ih (omega arith) (omega (arith, m, h)) in
          omega (arith, name_past (k + n) reserved b s q, r)

-- a name that ends among k bytes ends there, however many may follow
ends_within : (k n : ℕ) (reserved : Bool) (s : List ℕ) → name_length k reserved s < k
    → name_length (k + n) reserved s ≡ name_length k reserved s
ends_within zero n reserved s h = absurd (omega arith)
ends_within (suc k) n reserved [] h = absurd (omega (arith, name_open k reserved, h))
ends_within (suc k) n reserved (b ∷ s) h =
    let e : suc k + n ≡ suc (k + n) = omega arith in
    ap (λ (m : ℕ). name_length m reserved (b ∷ s)) e ∙ go (ends_name reserved b) refl (ends_within k n reserved s) where
      go : (t : Bool) → ends_name reserved b ≡ t
          → (name_length k reserved s < k → name_length (k + n) reserved s ≡ name_length k reserved s)
          → name_length (suc (k + n)) reserved (b ∷ s) ≡ name_length (suc k) reserved (b ∷ s)
      go true q ih = name_there (k + n) reserved b s q ∙ sym (name_there k reserved b s q)
      go false q ih =
          let m = name_past k reserved b s q in
          name_past (k + n) reserved b s q ∙ ap suc (ih (omega (arith, m, h))) ∙ sym m

-- of the eight bytes from i on, as the code reads them: the name ends among them, or goes on behind them
module _ (s : List ℕ) (i k w : ℕ) (p : Passed false s i) (l : i ≤ 56) (m : i + 8 ≤ length s) (e : digits 8 w ≡ take 8 (drop i s))
    (q : k ≡ name_length 8 false (digits 8 w)) where
  here : k ≡ name_length 8 false (drop i s)
  here = q ∙ ap (name_length 8 false) e ∙ name_take 8 false (drop i s)

  pub passed_end : k < 8 → i + k ≡ name_length 64 false s
  passed_end h =
      let r : name_length (8 + (56 - i)) false (drop i s) ≡ name_length 8 false (drop i s) =
      ends_within 8 (56 - i) false (drop i s) (omega (arith, here)) in
      let n : 8 + (56 - i) ≡ 64 - i = omega arith in
      let r2 : name_length (64 - i) false (drop i s) ≡ name_length 8 false (drop i s) = rw n at r in
      omega (arith, p.whole, r2, here)

  pub passed_word : 8 ≤ k → Passed false s (i + 8)
  passed_word h =
      let n : 8 + (64 - (i + 8)) ≡ 64 - i = omega arith in
      let d : drop 8 (drop i s) ≡ drop (i + 8) s = drop-drop 8 i s in
      let long : 8 ≤ length (drop i s) = rw (length-drop i s) (omega arith) in
      let r : name_length (8 + (64 - (i + 8))) false (drop i s) ≡ 8 + name_length (64 - (i + 8)) false (drop 8 (drop i s)) =
      past_whole 8 (64 - (i + 8)) false (drop i s) long (omega (arith, here)) in
      let r2 : name_length (64 - i) false (drop i s) ≡ 8 + name_length (64 - (i + 8)) false (drop (i + 8) s) = rw (n, d) at r in
      record { within = omega arith; whole = omega (arith, p.whole, r2) }
