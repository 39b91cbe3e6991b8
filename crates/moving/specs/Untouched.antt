-- The bytes that a list of steps leaves alone, and two stretches of an image that have no byte in common.
use Rattle.std.specs.Prelude.{ℕ, zero, suc, ◌+◌, ◌-◌, ◌≤◌, ◌<◌, ◌≡◌, refl, ◌⊎◌, List, [], ◌∷◌, ◌++◌, length, take, drop, set}
use Rattle.std.proofs.Common.{arith, ◌∙◌, ap, sym, inl, inr, ⊎_elim, length-drop, length-take-le, drop-drop}
use Rattle.spec.specs.Step.{Image, Step, program, erase, run, bytes_at, shifted}
use Rattle.flash.specs.Did.{Did}
use Rattle.flash.specs.declared.Meter.{Meter}
use Rattle.laws.specs.Parts.{Outside, part_set}

-- ---- stretches

-- n bytes from address i on have none of those from a up to b
abbrev pub Off : ℕ → ℕ → ℕ → ℕ → Type 0
Off a b i n = (i + n ≤ a) ⊎ (b ≤ i)

-- n bytes from a on and n bytes from b on have none in common
abbrev pub Apart : ℕ → ℕ → ℕ → Type 0
Apart a b n = Off b (b + n) a n

-- the same of parts of them
pub off_part : (a b i n j k c e : ℕ) → Off a b i n → a ≤ c → e ≤ b → j + k ≤ n → Off c e (i + j) k
off_part a b i n j k c e o h l p = ⊎_elim (λ (q : i + n ≤ a). inl (omega arith)) (λ (q : b ≤ i). inr (omega arith)) o

pub length_part : (i n : ℕ) (l : List ℕ) → i + n ≤ length l → length (take n (drop i l)) ≡ n
length_part i n l h = length-take-le n (drop i l) (rw length-drop (omega arith))

-- what stands from a on is the same, and so is what stands from k on
pub later_on : (a k : ℕ) (s t : Image) → a ≤ k → drop a t ≡ drop a s → drop k t ≡ drop k s
later_on a k s t h e =
    let j : a + (k - a) ≡ k = omega arith in
    let w : (u : Image) → drop (k - a) (drop a u) ≡ drop k u = λ u. drop-drop (k - a) a u ∙ ap (λ (n : ℕ). drop n u) j in
    sym (w t) ∙ ap (drop (k - a)) e ∙ w s

-- ---- steps that program none of the n bytes from i on

abbrev pub Avoids : ℕ → ℕ → List Step → Type 0
Avoids i n [] = Unit {0}
Avoids i n (program k x ∷ ss) = Outside k i n × Avoids i n ss
Avoids i n (erase k ∷ ss) = ⊥

pub avoids_append : (i n : ℕ) (s t : List Step) → Avoids i n s → Avoids i n t → Avoids i n (s ++ t)
avoids_append i n [] t p q = q
avoids_append i n (program k x ∷ s) t p q = (p.0, avoids_append i n s t p.1 q)
avoids_append i n (erase k ∷ s) t p q = absurd p

avoids_take : (j i n : ℕ) (ss : List Step) → Avoids i n ss → Avoids i n (take j ss)
avoids_take zero i n ss p = tt
avoids_take (suc j) i n [] p = tt
avoids_take (suc j) i n (program k x ∷ ss) p = (p.0, avoids_take j i n ss p.1)
avoids_take (suc j) i n (erase k ∷ ss) p = absurd p

run_kept : (s : Image) (i n : ℕ) (ss : List Step) → Avoids i n ss → take n (drop i (run s ss)) ≡ take n (drop i s)
run_kept s i n [] p = refl
run_kept s i n (program k x ∷ ss) p = run_kept (set s k x) i n ss p.1 ∙ part_set s i n k x p.0
run_kept s i n (erase k ∷ ss) p = absurd p

-- what the steps avoid stays as it was
pub kept : {s t : Image} {m r : Meter} {ss : List Step} (i n : ℕ) → Did s m ss t r → Avoids i n ss → take n (drop i t) ≡ take n (drop i s)
kept {s} {t} {m} {r} {ss} i n d p =
    let k = m.allowance - m.asked in
    rw d.bytes (run_kept s i n (take k ss) (avoids_take k i n ss p))

-- ---- steps that program from a on, below b

abbrev pub WritesIn : ℕ → ℕ → List Step → Type 0
WritesIn a b [] = Unit {0}
WritesIn a b (program i x ∷ ss) = (a ≤ i) × (i < b) × WritesIn a b ss
WritesIn a b (erase i ∷ ss) = ⊥

pub writes_bytes : (a b i : ℕ) (w : List ℕ) → a ≤ i → i + length w ≤ b → WritesIn a b (bytes_at i w)
writes_bytes a b i [] h l = tt
writes_bytes a b i (x ∷ w) h l = (h, omega arith, writes_bytes a b (i + 1) w (omega arith) (omega arith))

pub writes_append : (a b : ℕ) (s t : List Step) → WritesIn a b s → WritesIn a b t → WritesIn a b (s ++ t)
writes_append a b [] t p q = q
writes_append a b (program i x ∷ s) t p q = (p.0, p.1, writes_append a b s t p.2 q)
writes_append a b (erase i ∷ s) t p q = absurd p

pub writes_shifted : (k a b : ℕ) (ss : List Step) → WritesIn a b ss → WritesIn (k + a) (k + b) (shifted k ss)
writes_shifted k a b [] p = tt
writes_shifted k a b (program i x ∷ ss) p = (omega arith, omega arith, writes_shifted k a b ss p.2)
writes_shifted k a b (erase i ∷ ss) p = absurd p

pub writes_avoids : (a b i n : ℕ) (ss : List Step) → Off a b i n → WritesIn a b ss → Avoids i n ss
writes_avoids a b i n [] o p = tt
writes_avoids a b i n (program k x ∷ ss) o p =
    (⊎_elim (λ (q : i + n ≤ a). inr (omega arith)) (λ (q : b ≤ i). inl (omega arith)) o, writes_avoids a b i n ss o p.2)
writes_avoids a b i n (erase k ∷ ss) o p = absurd p
