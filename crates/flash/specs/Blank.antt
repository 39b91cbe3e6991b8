-- How many FF bytes stand at the front.
use Prim.Native.Nat.compare
use Rattle.std.specs.Prelude.{ℕ, zero, suc, ◌+◌, ◌≤◌, ◌<◌, ◌≡◌, refl, Bool, true, false, List, [], ◌∷◌, length, take, drop, get_or, eqb, leb}
use Rattle.std.proofs.Common.{arith, zero-add, not-suc-le-zero, sym, ap, drop_of_length-le, eq-eqb, ne_eqb, eqb-true, le-leb}
use Rattle.std.proofs.lemmas.Bool.{eqb-false, lt-leb}
use Rattle.spec.specs.Basics.{blank}
use Rattle.laws.specs.Parts.{drop_next}

-- the place of the first byte that is not FF, or the length
unfoldable pub blank_run : List ℕ → ℕ
blank_run [] = 0
blank_run (x ∷ s) = elim (eqb x 0xFF) [ true ↦ suc (blank_run s) | false ↦ 0 ]

-- at a byte that is FF, at one that is not, and at the end
pub run_on : (s : List ℕ) (i : ℕ) → i < length s → get_or s i 0 ≡ 0xFF → blank_run (drop i s) ≡ blank_run (drop (i + 1) s) + 1
unfolding blank_run
run_on s i h q = rw (drop_next s i h, eq-eqb (get_or s i 0) 0xFF q, blank_run) (omega arith)

pub run_stop : (s : List ℕ) (i : ℕ) → i < length s → (get_or s i 0 ≡ 0xFF → ⊥) → blank_run (drop i s) ≡ 0
unfolding blank_run
run_stop s i h q = rw (drop_next s i h, ne_eqb (get_or s i 0) 0xFF q, blank_run)

pub run_over : (s : List ℕ) (i : ℕ) → length s ≤ i → blank_run (drop i s) ≡ 0
unfolding blank_run
run_over s i h = rw (drop_of_length-le s h)

both : (a b : ℕ) (t : Bool) → eqb a b ≡ t → eqb (suc a) (suc b) ≡ t
both a b true e = eq-eqb (suc a) (suc b) (ap suc (eqb-true a b e))
both a b false e = ne_eqb (suc a) (suc b) (λ q. eqb-false a b e (omega arith))

-- all is FF if the run is as long as the list
pub run_blank : (s : List ℕ) → eqb (blank_run s) (length s) ≡ blank s
unfolding blank_run blank
run_blank [] = refl
run_blank (x ∷ s) = go (eqb x 0xFF) refl (run_blank s) where
  go : (t : Bool) → eqb x 0xFF ≡ t → eqb (blank_run s) (length s) ≡ blank s → eqb (blank_run (x ∷ s)) (length (x ∷ s)) ≡ blank (x ∷ s)
  go true e ih = rw (e, blank_run, blank) (both (blank_run s) (length s) (blank s) ih)
  go false e ih = rw (e, blank_run, blank) (ne_eqb 0 (suc (length s)) (λ q. omega arith))

-- ---- inside the run

-- each byte of it is FF
pub run_byte : (s : List ℕ) (i : ℕ) → i < blank_run s → get_or s i 0 ≡ 0xFF
unfolding blank_run
run_byte [] i h = absurd (not-suc-le-zero h)
run_byte (x ∷ s) i h = go (eqb x 0xFF) refl (λ (k : ℕ) (l : k < blank_run s). run_byte s k l) i h where
  go : (t : Bool) → eqb x 0xFF ≡ t → ((k : ℕ) → k < blank_run s → get_or s k 0 ≡ 0xFF) → (j : ℕ) → j < blank_run (x ∷ s)
      → get_or (x ∷ s) j 0 ≡ 0xFF
  go true e ih zero l = eqb-true x 0xFF e
  go true e ih (suc j) l = ih j (let m : suc j < suc (blank_run s) = rw (e, blank_run) at l in omega arith)
  go false e ih j l = absurd (let m : j < 0 = rw (e, blank_run) at l in omega arith)

-- behind k bytes of it, it goes on
pub run_behind : (k : ℕ) (s : List ℕ) → k ≤ blank_run s → blank_run s ≡ k + blank_run (drop k s)
unfolding blank_run
run_behind zero s h = sym (zero-add (blank_run s))
run_behind (suc k) [] h = absurd (not-suc-le-zero h)
run_behind (suc k) (x ∷ s) h = go (eqb x 0xFF) refl (λ (l : k ≤ blank_run s). run_behind k s l) where
  go : (t : Bool) → eqb x 0xFF ≡ t → (k ≤ blank_run s → blank_run s ≡ k + blank_run (drop k s))
      → blank_run (x ∷ s) ≡ suc k + blank_run (drop (suc k) (x ∷ s))
  go true e ih =
      let m : suc k ≤ suc (blank_run s) = rw (e, blank_run) at h in
      let q : blank_run s ≡ k + blank_run (drop k s) = ih (omega arith) in
      rw (e, blank_run) (omega (arith, q))
  go false e ih = absurd (let m : suc k ≤ 0 = rw (e, blank_run) at h in omega arith)

-- the first n bytes are FF if it holds them all
pub run_holds : (n : ℕ) (s : List ℕ) → n ≤ length s → blank (take n s) ≡ leb n (blank_run s)
unfolding blank_run blank
run_holds zero s h = sym (le-leb 0 (blank_run s) (omega arith))
run_holds (suc n) [] h = absurd (not-suc-le-zero h)
run_holds (suc n) (x ∷ s) h = go (eqb x 0xFF) refl (run_holds n s (omega arith)) where
  go : (t : Bool) → eqb x 0xFF ≡ t → blank (take n s) ≡ leb n (blank_run s) → blank (take (suc n) (x ∷ s)) ≡ leb (suc n) (blank_run (x ∷ s))
  go true e ih = rw (e, blank_run, blank, compare.suc-suc n (blank_run s)) ih
  go false e ih = rw (e, blank_run, blank) (sym (lt-leb (suc n) 0 (omega arith)))
