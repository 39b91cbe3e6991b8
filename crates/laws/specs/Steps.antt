-- What step lists do to bytes: run in two parts, shifted to the address of a record, and runs of bytes programmed one after another.
use Rattle.std.specs.Prelude.{ℕ, zero, suc, ◌+◌, ◌-◌, ◌≤◌, ◌<◌, ◌≡◌, refl, List, [], ◌∷◌, ◌++◌, length, take, drop, set, get_or}
use Rattle.std.proofs.Common.{arith, zero-add, suc-add, add-zero, sym, ap, ◌∙◌, append_assoc, length-append, length-set, take-append-drop, length-take-le, ne_eqb}
use Rattle.std.proofs.Math.Nat.{sub-zero, zero-sub}
use Rattle.std.proofs.lemmas.List.{set_at}
use Rattle.std.proofs.Math.Seq.{append_snoc, take-nil, take-append-add, drop-append-add}
use Rattle.std.specs.Int.Bits.{bit_and}
use Rattle.std.proofs.lemmas.Nat.{and_mask}
use Rattle.spec.specs.Step.{Image, Step, program, erase, sector, apply, run, bytes_at, shifted}
use Rattle.spec.specs.Demand.{StepsSound}
use Rattle.spec.specs.Write.{name_end_steps}
use Rattle.spec.specs.Mount.{missing_steps}

-- ---- one list after another

-- run in two parts
pub run_append : (s : Image) (a b : List Step) → run s (a ++ b) ≡ run (run s a) b
run_append s [] b = refl
run_append s (x ∷ a) b = run_append (apply s x) a b

-- the first k of them
pub run_cut : (s : Image) (k : ℕ) (a b : List Step) → run s (take k (a ++ b)) ≡ run (run s (take k a)) (take (k - length a) b)
run_cut s k [] b = rw (take-nil, sub-zero k)
run_cut s zero (x ∷ a) b = rw zero-sub
run_cut s (suc k) (x ∷ a) b =
    let e : k - length a ≡ suc k - suc (length a) = omega arith in
    run_cut (apply s x) k a b ∙ ap (λ (i : ℕ). run (run (apply s x) (take k a)) (take i b)) e

-- ---- shifted steps

-- the first of them
pub take_shifted : (k a : ℕ) (ss : List Step) → take k (shifted a ss) ≡ shifted a (take k ss)
take_shifted zero a ss = refl
take_shifted (suc k) a [] = refl
take_shifted (suc k) a (program i b ∷ ss) = ap (λ (l : List Step). program (a + i) b ∷ l) (take_shifted k a ss)
take_shifted (suc k) a (erase i ∷ ss) = ap (λ (l : List Step). erase (a + i) ∷ l) (take_shifted k a ss)

-- as many
pub length_shifted : (a : ℕ) (ss : List Step) → length (shifted a ss) ≡ length ss
length_shifted a [] = refl
length_shifted a (program i b ∷ ss) = ap suc (length_shifted a ss)
length_shifted a (erase i ∷ ss) = ap suc (length_shifted a ss)

-- two lists of them
pub shifted_append : (a : ℕ) (ss ts : List Step) → shifted a (ss ++ ts) ≡ shifted a ss ++ shifted a ts
shifted_append a [] ts = refl
shifted_append a (program i b ∷ ss) ts = ap (λ (l : List Step). program (a + i) b ∷ l) (shifted_append a ss ts)
shifted_append a (erase i ∷ ss) ts = ap (λ (l : List Step). erase (a + i) ∷ l) (shifted_append a ss ts)

-- a byte set behind p
pub set_past : (p q : List ℕ) (i b : ℕ) → set (p ++ q) (length p + i) b ≡ p ++ set q i b
set_past [] q i b = rw (zero-add i)
set_past (x ∷ p) q i b = rw (suc-add (length p) i) (ap (λ (l : List ℕ). x ∷ l) (set_past p q i b))

-- a sector erased behind p
erase_past : (p q : List ℕ) (i : ℕ) → apply (p ++ q) (erase (length p + i)) ≡ p ++ apply q (erase i)
erase_past p q i = rw (take-append-add, drop-append-add) (append_assoc p (take i q) (sector ++ drop 4096 (drop i q)))

-- steps behind p
pub run_past : (p q : List ℕ) (ss : List Step) (a : ℕ) → length p ≡ a → run (p ++ q) (shifted a ss) ≡ p ++ run q ss
run_past p q [] a e = refl
run_past p q (program i b ∷ ss) a e =
    ap (λ (l : List ℕ). run l (shifted a ss)) (rw (← e) (set_past p q i b)) ∙ run_past p (set q i b) ss a e
run_past p q (erase i ∷ ss) a e =
    ap (λ (l : List ℕ). run l (shifted a ss)) (rw (← e) (erase_past p q i)) ∙ run_past p (apply q (erase i)) ss a e

-- steps on the part from a on
pub run_part : (s : Image) (a : ℕ) (ss : List Step) → a ≤ length s → run s (shifted a ss) ≡ take a s ++ run (drop a s) ss
run_part s a ss h =
    ap (λ (l : List ℕ). run l (shifted a ss)) (sym (take-append-drop a s)) ∙ run_past (take a s) (drop a s) ss a (length-take-le a s h)

-- ---- steps that only program

abbrev pub Programs : List Step → Type 0
Programs [] = Unit {0}
Programs (program i b ∷ ss) = Programs ss
Programs (erase i ∷ ss) = ⊥

pub programs_shifted : (a : ℕ) (ss : List Step) → Programs ss → Programs (shifted a ss)
programs_shifted a [] p = tt
programs_shifted a (program i b ∷ ss) p = programs_shifted a ss p
programs_shifted a (erase i ∷ ss) p = absurd p

-- the first of two lists
pub programs_left : (ss ts : List Step) → Programs (ss ++ ts) → Programs ss
programs_left [] ts p = tt
programs_left (program i b ∷ ss) ts p = programs_left ss ts p
programs_left (erase i ∷ ss) ts p = p

-- both of them
pub programs_append : (ss ts : List Step) → Programs ss → Programs ts → Programs (ss ++ ts)
programs_append [] ts p q = q
programs_append (program i b ∷ ss) ts p q = programs_append ss ts p q
programs_append (erase i ∷ ss) ts p q = absurd p

-- they keep the length
pub length_run : (s : Image) (ss : List Step) → Programs ss → length (run s ss) ≡ length s
length_run s [] p = refl
length_run s (program a b ∷ ss) p = length_run (set s a b) ss p ∙ length-set s a b
length_run s (erase a ∷ ss) p = absurd p

-- ---- runs of bytes

-- the first of them
pub take_bytes : (j a : ℕ) (w : List ℕ) → take j (bytes_at a w) ≡ bytes_at a (take j w)
take_bytes zero a w = refl
take_bytes (suc j) a [] = refl
take_bytes (suc j) a (b ∷ w) = ap (λ (l : List Step). program a b ∷ l) (take_bytes j (a + 1) w)

-- one step for each byte
pub length_bytes : (a : ℕ) (w : List ℕ) → length (bytes_at a w) ≡ length w
length_bytes a [] = refl
length_bytes a (x ∷ w) = ap suc (length_bytes (a + 1) w)

pub length_first : (a i : ℕ) (w : List ℕ) → i ≤ length w → length (bytes_at a (take i w)) ≡ i
length_first a i w h = length_bytes a (take i w) ∙ length-take-le i w h

-- one byte more
pub bytes_more : (a : ℕ) (w : List ℕ) (i : ℕ) → i < length w
    → bytes_at a (take (i + 1) w) ≡ bytes_at a (take i w) ++ (program (a + i) (get_or w i 0) ∷ [])
bytes_more a [] i h = absurd (omega arith)
bytes_more a (x ∷ w) zero h = rw add-zero
bytes_more a (x ∷ w) (suc i) h =
    let e : suc i + 1 ≡ suc (i + 1) = omega arith in
    let f : a + 1 + i ≡ a + suc i = omega arith in
    rw e (ap (λ (l : List Step). program a x ∷ l) (rw f at (bytes_more (a + 1) w i (omega arith))))

-- shifted
pub shifted_bytes : (a b : ℕ) (w : List ℕ) → shifted a (bytes_at b w) ≡ bytes_at (a + b) w
shifted_bytes a b [] = refl
shifted_bytes a b (x ∷ w) =
    let e : a + (b + 1) ≡ a + b + 1 = omega arith in
    ap (λ (l : List Step). program (a + b) x ∷ l) (shifted_bytes a (b + 1) w ∙ ap (λ (i : ℕ). bytes_at i w) e)

-- written over others
pub write_over : (p old w s : List ℕ) (a : ℕ) → length p ≡ a → length old ≡ length w → run (p ++ (old ++ s)) (bytes_at a w) ≡ p ++ (w ++ s)
write_over p [] [] s a e h = refl
write_over p (o ∷ old) [] s a e h = absurd (omega arith)
write_over p [] (b ∷ w) s a e h = absurd (omega arith)
write_over p (o ∷ old) (b ∷ w) s a e h =
    ap (λ (l : List ℕ). run l (bytes_at (a + 1) w)) (set_at p o (old ++ s) b a e ∙ sym (append_snoc p b (old ++ s)))
    ∙ write_over (p ++ (b ∷ [])) old w s (a + 1) (omega (arith, length-append p (b ∷ []))) (omega arith)
    ∙ append_snoc p b (w ++ s)

-- a run of bytes only programs
pub programs_bytes : (a : ℕ) (w : List ℕ) (ss : List Step) → Programs ss → Programs (bytes_at a w ++ ss)
programs_bytes a [] ss p = p
programs_bytes a (x ∷ w) ss p = programs_bytes (a + 1) w ss p

-- ---- the missing 00 of a name

module _ (s : Image) (a : ℕ) where
  pub name_ended : get_or s a 0 ≡ 0 → missing_steps s a ≡ []
  name_ended e = rw (e, missing_steps)

  pub name_open : (get_or s a 0 ≡ 0 → ⊥) → missing_steps s a ≡ name_end_steps a
  name_open e = rw (ne_eqb (get_or s a 0) 0 e, missing_steps)

-- ---- sound steps

-- a byte on FF
pub on_blank : (b : ℕ) → b < 256 → bit_and b 0xFF ≡ b
on_blank b h = and_mask b 8 ∙ omega arith

-- one list of steps behind another
pub sound_append : (im : Image) (ss ts : List Step) → StepsSound im ss → StepsSound (run im ss) ts → StepsSound im (ss ++ ts)
sound_append im [] ts s t = t
sound_append im (x ∷ ss) ts s t = (s.0, sound_append (apply im x) ss ts s.1 t)

-- the first k steps
pub sound_take : (k : ℕ) (im : Image) (ss : List Step) → StepsSound im ss → StepsSound im (take k ss)
sound_take zero im ss s = tt
sound_take (suc k) im [] s = tt
sound_take (suc k) im (x ∷ ss) s = (s.0, sound_take k (apply im x) ss s.1)
