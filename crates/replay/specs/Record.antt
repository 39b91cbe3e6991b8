-- The steps of a new record on FF only clear bits.
use Rattle.std.specs.Prelude.{ℕ, ◌+◌, ◌≤◌, ◌<◌, ◌≡◌, refl, List, [], ◌∷◌, ◌++◌, length, get_or, set}
use Rattle.std.proofs.Common.{arith, sym, ap, ap₂, ◌∙◌, subst, inl, inr, length-set, get_or-set_other}
use Rattle.std.specs.Int.Bits.{bit_and, and_zero_l}
use Rattle.spec.specs.Step.{Image, Step, program, run, bytes_at, shifted}
use Rattle.spec.specs.Basics.{Each}
use Rattle.spec.specs.Geometry.{up8}
use Rattle.spec.specs.Record.{four, size_of}
use Rattle.spec.specs.Demand.{StepSound, StepsSound}
use Rattle.spec.specs.Write.{header_steps, name_steps, data_steps, commit_steps, record_steps}
use Rattle.laws.specs.Steps.{shifted_append, shifted_bytes, on_blank, sound_append}
use Rattle.planning.specs.Spots.{Free}
use Rattle.planning.specs.Effect.{Untouched, Writes, Bounded, untouched_append, writes_right, bounded_append}
use Rattle.planning.specs.Effect.{untouched_bytes, bounded_bytes, run_length, untouched_run, writes_run}

-- ---- steps of which nothing need be known

-- 00 can be programmed anywhere
pub zero_sound : (im : Image) (a : ℕ) → a < length im → StepSound im (program a 0)
zero_sound im a l = (l, and_zero_l (get_or im a 0))

-- on a byte that is known
pub known_sound : (im : Image) (a found b : ℕ) → a < length im → get_or im a 0 ≡ found → bit_and b found ≡ b → StepSound im (program a b)
known_sound im a found b l e c = (l, ap (bit_and b) e ∙ c)

-- on FF
pub blank_sound : (im : Image) (a b : ℕ) → a < length im → get_or im a 0 ≡ 0xFF → b < 256 → StepSound im (program a b)
blank_sound im a b l e h = known_sound im a 0xFF b l e (on_blank b h)

pub bytes_sound : (im : Image) (a : ℕ) (w : List ℕ) → a + length w ≤ length im → Free im a (a + length w) → Each (λ b. b < 256) w
    → StepsSound im (bytes_at a w)
bytes_sound im a [] l f h = tt
bytes_sound im a (b ∷ w) l f h = (
  blank_sound im a b (omega arith) (f a (omega arith) (omega arith)) h.0,
  bytes_sound (set im a b) (a + 1) w (omega (arith, length-set im a b))
      (λ i u v. get_or-set_other im a i b 0 (λ q. omega arith) ∙ f i (omega arith) (omega arith)) h.1,
)

-- ---- a record at S

four_bytes : (d : ℕ) → Each (λ b. b < 256) (four d)
four_bytes d = (omega arith, (omega arith, (omega arith, (omega arith, tt))))

module _ (im : Image) (S : ℕ) (n c : List ℕ) (l : S + size_of (length n) (length c) ≤ length im)
    (f : Free im S (S + size_of (length n) (length c))) (bn : Each (λ b. b < 256) n) (bc : Each (λ b. b < 256) c) where
  abbrev d : ℕ
  d = length c

  abbrev len : List Step
  len = bytes_at (S + 4) (four d)

  abbrev A : List Step
  A = program (S + 0) 0xA5 ∷ (program (S + 1) 0x5A ∷ (len ++ (program (S + 2) 0xFE ∷ [])))

  abbrev end : List Step
  end = program (S + (8 + length n)) 0x80 ∷ (program (S + (8 + length n)) 0x00 ∷ [])

  abbrev B : List Step
  B = bytes_at (S + 8) n ++ end

  abbrev C : List Step
  C = bytes_at (S + (8 + up8 (length n + 1))) c

  abbrev D : List Step
  D = program (S + 2) 0xFC ∷ []

  A_is : shifted S (header_steps d) ≡ A
  A_is =
      ap (λ (ss : List Step). program (S + 0) 0xA5 ∷ (program (S + 1) 0x5A ∷ ss))
      (shifted_append S (bytes_at 4 (four d)) (program 2 0xFE ∷ [])
      ∙ ap (λ (ss : List Step). ss ++ (program (S + 2) 0xFE ∷ [])) (shifted_bytes S 4 (four d)))

  B_is : shifted S (name_steps n) ≡ B
  B_is =
      shifted_append S (bytes_at 8 n) (program (8 + length n) 0x80 ∷ (program (8 + length n) 0x00 ∷ []))
      ∙ ap (λ (ss : List Step). ss ++ end) (shifted_bytes S 8 n)

  all_is : shifted S (record_steps n c) ≡ A ++ (B ++ (C ++ D))
  all_is =
      shifted_append S (header_steps d) (name_steps n ++ (data_steps (length n) c ++ commit_steps))
      ∙ ap₂ ◌++◌ A_is
      (shifted_append S (name_steps n) (data_steps (length n) c ++ commit_steps)
      ∙ ap₂ ◌++◌ B_is
      (shifted_append S (data_steps (length n) c) commit_steps
      ∙ ap (λ (ss : List Step). ss ++ D) (shifted_bytes S (8 + up8 (length n + 1)) c)))

  -- the four bytes of a length
  four_length : length (four d) ≡ 4
  four_length = refl

  -- the header
  A_sound : StepsSound im A
  A_sound =
      let at : (i : ℕ) → i < 16 → get_or im (S + i) 0 ≡ 0xFF = λ i h. f (S + i) (omega arith) (omega arith) in
      let one : Image = set im (S + 0) 0xA5 in
      let two : Image = set one (S + 1) 0x5A in
      let l-1 : length one ≡ length im = length-set im (S + 0) 0xA5 in
      let l-2 : length two ≡ length im = length-set one (S + 1) 0x5A ∙ l-1 in
      let same : (i : ℕ) → (i ≡ S + 0 → ⊥) → (i ≡ S + 1 → ⊥) → get_or two i 0 ≡ get_or im i 0 =
      λ i p q. get_or-set_other one (S + 1) i 0x5A 0 q ∙ get_or-set_other im (S + 0) i 0xA5 0 p in
      let three : Image = run two len in
      let l-3 : length three ≡ length im = run_length two len (bounded_bytes (length two) (S + 4) (four d)) ∙ l-2 in (
        blank_sound im (S + 0) 0xA5 (omega arith) (at 0 (omega arith)) (omega arith),
        (
          blank_sound one (S + 1) 0x5A (omega arith) (get_or-set_other im (S + 0) (S + 1) 0xA5 0 (λ q. omega arith) ∙ at 1 (omega arith))
              (omega arith),
          sound_append two len (program (S + 2) 0xFE ∷ [])
              (bytes_sound two (S + 4) (four d) (omega (arith, l-2))
              (λ i u v. same i (λ q. omega arith) (λ q. omega arith) ∙ f i (omega arith) (omega arith)) (four_bytes d)) (
                blank_sound three (S + 2) 0xFE (omega arith)
                    (untouched_run two len (S + 2) (bounded_bytes (length two) (S + 4) (four d))
                    (untouched_bytes (S + 2) (S + 4) (four d) (inl (omega arith)))
                    ∙ same (S + 2) (λ q. omega arith) (λ q. omega arith) ∙ at 2 (omega arith)) (omega arith),
                tt,
              ),
        ),
      )

  A_bounded : (N : ℕ) → Bounded N A
  A_bounded N = bounded_append N len (program (S + 2) 0xFE ∷ []) (bounded_bytes N (S + 4) (four d)) tt

  -- behind the header nothing is touched
  A_off : (i : ℕ) → S + 8 ≤ i → Untouched i A
  A_off i h = (
    λ q. omega arith,
    (
      λ q. omega arith,
      untouched_append i len (program (S + 2) 0xFE ∷ []) (untouched_bytes i (S + 4) (four d) (inr (omega arith))) (λ q. omega arith, tt),
    ),
  )

  A_status : Writes A (S + 2) 0xFE
  A_status = inl (inl (writes_right len (program (S + 2) 0xFE ∷ []) (S + 2) 0xFE (inr (refl, refl, tt))))

  free_A : Free (run im A) (S + 8) (S + size_of (length n) (length c))
  free_A i u v = untouched_run im A i (A_bounded (length im)) (A_off i u) ∙ f i (omega arith) v

  len_A : length (run im A) ≡ length im
  len_A = run_length im A (A_bounded (length im))

  -- the name and its end
  B_sound : StepsSound (run im A) B
  B_sound =
      let ns : List Step = bytes_at (S + 8) n in
      let ok : Bounded (length (run im A)) ns = bounded_bytes (length (run im A)) (S + 8) n in
      let k : ℕ = S + (8 + length n) in
      let then : Image = run (run im A) ns in
      let len-n : length then ≡ length im = run_length (run im A) ns ok ∙ len_A in
      sound_append (run im A) ns end
      (bytes_sound (run im A) (S + 8) n (omega (arith, len_A)) (λ i u v. free_A i u (omega arith)) bn) (
        blank_sound then k 0x80 (omega arith)
            (untouched_run (run im A) ns k ok (untouched_bytes k (S + 8) n (inr (omega arith))) ∙ free_A k (omega arith) (omega arith))
            (omega arith),
        (zero_sound (set then k 0x80) k (omega (arith, length-set then k 0x80)), tt),
      )

  B_bounded : (N : ℕ) → Bounded N B
  B_bounded N = bounded_append N (bytes_at (S + 8) n) end (bounded_bytes N (S + 8) n) tt

  B_off : (i : ℕ) → S + (8 + length n) < i → Untouched i B
  B_off i h =
      untouched_append i (bytes_at (S + 8) n) end (untouched_bytes i (S + 8) n (inr (omega arith)))
      (λ q. omega arith, (λ q. omega arith, tt))

  B_status : Untouched (S + 2) B
  B_status =
      untouched_append (S + 2) (bytes_at (S + 8) n) end (untouched_bytes (S + 2) (S + 8) n (inl (omega arith)))
      (λ q. omega arith, (λ q. omega arith, tt))

  len_B : length (run (run im A) B) ≡ length im
  len_B = run_length (run im A) B (B_bounded (length (run im A))) ∙ len_A

  -- the data
  C_sound : StepsSound (run (run im A) B) C
  C_sound =
      bytes_sound (run (run im A) B) (S + (8 + up8 (length n + 1))) c (omega (arith, len_B))
      (λ i u v. untouched_run (run im A) B i (B_bounded (length (run im A))) (B_off i (omega arith)) ∙ free_A i (omega arith)
      (omega arith)) bc

  C_bounded : (N : ℕ) → Bounded N C
  C_bounded N = bounded_bytes N (S + (8 + up8 (length n + 1))) c

  C_status : Untouched (S + 2) C
  C_status = untouched_bytes (S + 2) (S + (8 + up8 (length n + 1))) c (inl (omega arith))

  -- the commit finds FE
  D_sound : StepsSound (run (run (run im A) B) C) D
  D_sound =
      let three : Image = run (run (run im A) B) C in
      let len-C : length three ≡ length im = run_length (run (run im A) B) C (C_bounded (length (run (run im A) B))) ∙ len_B in
      let st : get_or three (S + 2) 0 ≡ 0xFE =
      untouched_run (run (run im A) B) C (S + 2) (C_bounded (length (run (run im A) B))) C_status
      ∙ untouched_run (run im A) B (S + 2) (B_bounded (length (run im A))) B_status
      ∙ writes_run im A (S + 2) 0xFE (omega arith) (A_bounded (length im)) A_status in
      (known_sound three (S + 2) 0xFE 0xFC (omega arith) st refl, tt)

  pub record_sound : StepsSound im (shifted S (record_steps n c))
  record_sound =
      subst (StepsSound im) (sym all_is)
      (sound_append im A (B ++ (C ++ D)) A_sound
      (sound_append (run im A) B (C ++ D) B_sound (sound_append (run (run im A) B) C D C_sound D_sound)))
