-- Steps that are sound, as a trace: they replay to their end.
use Rattle.std.specs.Prelude.{ℕ, zero, suc, ◌+◌, ◌%◌, ◌≤◌, ◌<◌, ◌≡◌, refl, ◌⊎◌, Bool, true, false, not, List, [], ◌∷◌, map, length, get_or, eqb, ltb}
use Rattle.std.proofs.Common.{arith, sym, ap, ◌∙◌, subst, inl, inr, get_or-set_same, get_or-set_other, eq-eqb, eqb-true, le-ltb, ltb-true, ltb-false}
use Rattle.std.specs.Int.Bits.{bit_and}
use Rattle.std.proofs.lemmas.Nat.{and_le_r}
use Rattle.std.proofs.lemmas.Bool.{eqb-false}
use Rattle.spec.specs.Step.{Image, Step, program, erase, apply, run}
use Rattle.spec.specs.Basics.{Each}
use Rattle.spec.specs.Bytes.{clears}
use Rattle.spec.specs.Demand.{StepSound, StepsSound}
use Rattle.spec.specs.Planner.{kind_of, address_of, byte_of, step_of}
use Rattle.spec.specs.Trace.{out_of_range, fault, replayed, replay_on}
use Rattle.laws.specs.Parts.{Outside}
use Rattle.planning.specs.Effect.{erase_in, erase_off}
use Rattle.replay.specs.Entry.{range_erase, range_program, fault_erase, fault_clears}

-- ---- images of bytes

-- every number of it is a byte; so are the numbers behind its end, which are read as 0
abbrev pub BytesIn : Image → Type 0
BytesIn im = (i : ℕ) → get_or im i 0 < 256

pub bytes_in : (im : Image) → Each (λ b. b < 256) im → BytesIn im
bytes_in [] h i = omega arith
bytes_in (x ∷ im) h zero = h.0
bytes_in (x ∷ im) h (suc i) = bytes_in im h.1 i

-- a byte that only clears bits is one
clear_byte : {found b : ℕ} → bit_and b found ≡ b → found < 256 → b < 256
clear_byte {found} {b} e h = omega (arith, subst (λ (n : ℕ). n ≤ found) e (and_le_r b found))

set_byte : (im : Image) (a b : ℕ) → BytesIn im → a < length im → b < 256 → BytesIn (apply im (program a b))
set_byte im a b w l h i = go (eqb i a) refl where
  go : (t : Bool) → eqb i a ≡ t → get_or (apply im (program a b)) i 0 < 256
  go true e =
      subst (λ (n : ℕ). n < 256) (sym (ap (λ (k : ℕ). get_or (apply im (program a b)) k 0) (eqb-true i a e) ∙ get_or-set_same im a b 0 l)) h
  go false e = subst (λ (n : ℕ). n < 256) (sym (get_or-set_other im a i b 0 (eqb-false i a e))) (w i)

beside : (i a n : ℕ) → Outside i a n ⊎ ((a ≤ i) × (i < a + n))
beside i a n = go (ltb i a) refl (ltb i (a + n)) refl where
  go : (t : Bool) → ltb i a ≡ t → (u : Bool) → ltb i (a + n) ≡ u → Outside i a n ⊎ ((a ≤ i) × (i < a + n))
  go true e u d = inl (inl (ltb-true i a e))
  go false e true d = inr (ltb-false i a e, ltb-true i (a + n) d)
  go false e false d = inl (inr (ltb-false i (a + n) d))

-- a sound step leaves an image of bytes
pub sound_bytes_in : (im : Image) (s : Step) → StepSound im s → BytesIn im → BytesIn (apply im s)
sound_bytes_in im (program a b) h w = set_byte im a b w h.0 (clear_byte h.1 (w a))
sound_bytes_in im (erase a) h w = λ i. go i (beside i a 4096) where
  go : (i : ℕ) → Outside i a 4096 ⊎ ((a ≤ i) × (i < a + 4096)) → get_or (apply im (erase a)) i 0 < 256
  go i (inl o) = subst (λ (n : ℕ). n < 256) (sym (erase_off im a h.1 i o)) (w i)
  go i (inr o) = subst (λ (n : ℕ). n < 256) (sym (erase_in im a h.1 i o.0 o.1)) (omega arith)

-- ---- a sound step is an entry that can be carried out

clears_is : (found b : ℕ) → bit_and b found ≡ b → clears found b ≡ true
unfolding clears
clears_is found b e = eq-eqb (bit_and b found) b e

pub sound_entry : (im : Image) (s : Step) → StepSound im s → BytesIn im → fault im (kind_of s) (address_of s) (byte_of s) ≡ 0
sound_entry im (program a b) h w =
    let l : b < 256 = clear_byte h.1 (w a) in
    let e : out_of_range (length im) 1 a b ≡ false = range_program (length im) 1 a b h.0 refl ∙ le-ltb 255 b (omega arith) in
    fault_clears im 1 a b e refl (clears_is (get_or im a 0) b h.1)
sound_entry im (erase a) h w =
    let l : a + 4096 ≤ length im = h.1 in
    let e : out_of_range (length im) 2 a 0xFF ≡ false =
    range_erase (length im) 2 a 0xFF (omega arith) refl ∙ ap not (eq-eqb (a % 4096) 0 h.0) in
    fault_erase im 2 a 0xFF e refl

step_back : (s : Step) → step_of (kind_of s) (address_of s) (byte_of s) ≡ s
step_back (program a b) = refl
step_back (erase a) = refl

-- ---- all of them

pub replays_on : (n : ℕ) (im : Image) (ss : List Step) → StepsSound im ss → BytesIn im
    → replay_on n im (map kind_of ss) (map address_of ss) (map byte_of ss) ≡ replayed 0 (n + length ss) 0 (run im ss)
unfolding replay_on
replays_on n im [] h w = ap (λ (k : ℕ). replayed 0 k 0 im) (let e : n ≡ n + 0 = omega arith in e)
replays_on n im (s ∷ ss) h w =
    rw (replay_on, eq-eqb (fault im (kind_of s) (address_of s) (byte_of s)) 0 (sound_entry im s h.0 w), step_back s)
    (replays_on (suc n) (apply im s) ss h.1 (sound_bytes_in im s h.0 w)
    ∙ ap (λ (k : ℕ). replayed 0 k 0 (run (apply im s) ss)) (let e : suc n + length ss ≡ n + suc (length ss) = omega arith in e))
