-- Parts of a list: how long it is at least, what stands from an index on, and a part that the code lends.
use Rattle.std.specs.Prelude.{ℕ, zero, suc, ◌+◌, ◌-◌, ◌≤◌, ◌<◌, ◌≡◌, refl, true, false, ◌⊎◌, List, [], ◌∷◌, length, take, drop, get_or, set}
use Rattle.std.proofs.Common.{arith, not-suc-le-zero, le_of_suc-le-suc, zero-add, add-one, sym, ap, ◌∙◌, inl, inr, drop-cons, take-take, drop-set-lt}
use Rattle.std.proofs.Math.Seq.{take-nil}
use Rattle.std.proofs.lemmas.List.{take-set-le}
use Rattle.spec.specs.Basics.{long}

-- ---- "at least k bytes", from the length

pub long_le : (k : ℕ) (s : List ℕ) → k ≤ length s → long k s ≡ true
unfolding long
long_le zero s h = refl
long_le (suc k) [] h = absurd (not-suc-le-zero h)
long_le (suc k) (x ∷ s) h = long_le k s (le_of_suc-le-suc h)

pub long_lt : (k : ℕ) (s : List ℕ) → length s < k → long k s ≡ false
unfolding long
long_lt zero s h = absurd (not-suc-le-zero h)
long_lt (suc k) [] h = refl
long_lt (suc k) (x ∷ s) h = long_lt k s (le_of_suc-le-suc h)

-- and back
pub long_true : (k : ℕ) (s : List ℕ) → long k s ≡ true → k ≤ length s
unfolding long
long_true zero s h = omega arith
long_true (suc k) [] h = absurd (let z : ◌≡◌ {A = ℕ} 0 1 = cc in omega arith)
long_true (suc k) (x ∷ s) h = let q = long_true k s h in omega arith

-- ---- from an index on

-- from an index in a loop to a suffix in a recursion
pub drop_next : (s : List ℕ) (i : ℕ) → i < length s → drop i s ≡ get_or s i 0 ∷ drop (i + 1) s
drop_next s i h = rw (add-one, drop-cons s i 0)

-- n bytes from i on
pub take_drop : (i n : ℕ) (s : List ℕ) → take n (drop i s) ≡ drop i (take (i + n) s)
take_drop zero n s = rw zero-add
take_drop (suc i) n [] = take-nil n ∙ sym (ap (drop (suc i)) (take-nil (suc i + n)))
take_drop (suc i) n (x ∷ s) = let e : suc i + n ≡ suc (i + n) = omega arith in rw e (take_drop i n s)

-- a part that the code lends is the definitions' part
pub part_window : (a e : ℕ) (s : List ℕ) → a ≤ e → take (e - a) (drop a s) ≡ drop a (take e s)
part_window a e s h = let q : a + (e - a) ≡ e = omega arith in take_drop a (e - a) s ∙ ap (λ (n : ℕ). drop a (take n s)) q

-- a part of the first m bytes
pub part_first : (i n m : ℕ) (s : List ℕ) → i + n ≤ m → take n (drop i (take m s)) ≡ take n (drop i s)
part_first i n m s h = take_drop i n (take m s) ∙ ap (drop i) (take-take (i + n) m s h) ∙ sym (take_drop i n s)

-- address k is none of the n from i on
abbrev pub Outside : ℕ → ℕ → ℕ → Type 0
Outside k i n = (k < i) ⊎ (i + n ≤ k)

-- a byte set before the part or behind it
pub part_set : (s : List ℕ) (i n k b : ℕ) → Outside k i n → take n (drop i (set s k b)) ≡ take n (drop i s)
part_set s i n k b (inl h) = ap (take n) (drop-set-lt i s k b h)
part_set s i n k b (inr h) = take_drop i n (set s k b) ∙ ap (drop i) (take-set-le (i + n) s k b h) ∙ sym (take_drop i n s)
