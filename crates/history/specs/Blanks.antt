-- Runs of FF, the bytes of erased flash: in parts, in front of other bytes, written over, and the test that finds them blank.
use Rattle.std.specs.Prelude.{ℕ, zero, suc, ◌+◌, ◌-◌, ◌≤◌, ◌≡◌, refl, Bool, true, false, List, [], ◌∷◌, ◌++◌, length, take, drop, replicate, eqb}
use Rattle.std.proofs.Common.{not-suc-le-zero, le_of_suc-le-suc, arith, sym, ap, ap₂, ◌∙◌, append_assoc, drop_at, length-take-le, eqb-true}
use Rattle.std.proofs.lemmas.List.{length-replicate, replicate-append-replicate}
use Rattle.spec.specs.Step.{run, bytes_at}
use Rattle.spec.specs.Basics.{blank}
use Rattle.laws.specs.Steps.{take_bytes, write_over}

-- k bytes of FF
abbrev pub blanks : ℕ → List ℕ
blanks k = replicate k 0xFF

-- ---- in parts

-- so many, and the others
pub blank_split : (j m k : ℕ) → k ≡ j + m → blanks k ≡ blanks j ++ blanks m
blank_split j m k e = ap blanks e ∙ sym (replicate-append-replicate j m 0xFF)

-- so many, the others, and s behind them
pub split_front : (j m k : ℕ) (s : List ℕ) → k ≡ j + m → blanks k ++ s ≡ blanks j ++ (blanks m ++ s)
split_front j m k s e = ap (λ (l : List ℕ). l ++ s) (blank_split j m k e) ∙ append_assoc (blanks j) (blanks m) s

-- eight of them first
pub blank_eight : (k : ℕ) → 8 ≤ k → blanks k ≡ blanks 8 ++ blanks (k - 8)
blank_eight k h = blank_split 8 (k - 8) k (omega arith)

-- the first of them
pub take_blanks : (j m : ℕ) (s : List ℕ) → j ≤ m → take j (blanks m ++ s) ≡ blanks j
take_blanks zero m s h = refl
take_blanks (suc j) zero s h = absurd (not-suc-le-zero h)
take_blanks (suc j) (suc m) s h = ap (λ (l : List ℕ). 0xFF ∷ l) (take_blanks j m s (le_of_suc-le-suc h))

-- past all of them
pub drop_blanks : (k : ℕ) (s : List ℕ) → drop k (blanks k ++ s) ≡ s
drop_blanks k s = drop_at (blanks k) s k (length-replicate k 0xFF)

-- j bytes written over FF
pub write_blank : (p w s : List ℕ) (a j m k : ℕ) → length p ≡ a → j ≤ length w → k ≡ j + m
    → run (p ++ (blanks k ++ s)) (take j (bytes_at a w)) ≡ p ++ (take j w ++ (blanks m ++ s))
write_blank p w s a j m k e h l =
    rw (take_bytes j a w, blank_split j m k l, append_assoc (blanks j) (blanks m) s)
    (write_over p (blanks j) (take j w) (blanks m ++ s) a e (length-replicate j 0xFF ∙ sym (length-take-le j w h)))

-- ---- the test

-- FF is blank
pub blank_blanks : (k : ℕ) → blank (blanks k) ≡ true
unfolding blank
blank_blanks zero = refl
blank_blanks (suc k) = blank_blanks k

-- what is blank is FF
pub blank_is : (s : List ℕ) → blank s ≡ true → s ≡ blanks (length s)
unfolding blank
blank_is [] h = refl
blank_is (x ∷ s) h = go (eqb x 0xFF) refl (λ k. blank_is s k)
  where
    go : (b : Bool) → eqb x 0xFF ≡ b → (blank s ≡ true → s ≡ blanks (length s)) → x ∷ s ≡ blanks (length (x ∷ s))
    go true e ih = ap₂ (λ (y : ℕ) (l : List ℕ). y ∷ l) (eqb-true x 0xFF e) (ih (rw (e, blank) at h))
    go false e ih = let z : false ≡ true = rw (e, blank) at h in cc
