-- What the steps of repair 3 do to the bytes: of a torn record, of a reserved one.
use Rattle.std.specs.Prelude.{ℕ, zero, suc, ◌+◌, ◌≤◌, ◌<◌, ◌≡◌, refl, Bool, true, false, List, [], ◌∷◌, ◌++◌, length, get_or, eqb}
use Rattle.std.proofs.Common.{arith, sym, ap, ◌∙◌, subst, inl, inr, ⊎_elim, eqb-true}
use Rattle.spec.specs.Step.{Image, Step, program, shifted, run}
use Rattle.spec.specs.Write.{name_end_steps}
use Rattle.spec.specs.Mount.{status_void_steps, torn_steps, missing_steps}
use Rattle.laws.specs.Parts.{Outside}
use Rattle.planning.specs.Effect.{Untouched, Writes, Bounded, untouched_run, writes_run, untouched_shifted, writes_shifted}
use Rattle.planning.specs.Effect.{skips, last_programs, skips_untouched, last_writes}

-- ---- the torn record's steps

pub torn_off : (a i : ℕ) → Outside i a 16 → Untouched i (shifted a torn_steps)
torn_off a i o =
    let far : (k : ℕ) → k < 16 → i ≡ a + k → ⊥ = λ k g q. ⊎_elim (λ (h : i < a). omega arith) (λ (h : a + 16 ≤ i). omega arith) o in
    let at : (k : ℕ) → k < 9 → i ≡ a + k → ⊥ = λ k g. far k (omega arith) in
    let end : Untouched i (shifted a (status_void_steps 2 0xFF)) = (at 2 (omega arith), (at 2 (omega arith), tt)) in
    let lens : Untouched i (shifted a (program 7 0x00 ∷ (program 8 0x00 ∷ status_void_steps 2 0xFF))) =
    (at 7 (omega arith), (at 8 (omega arith), end)) in
    (at 0 (omega arith), (at 1 (omega arith), (at 4 (omega arith), (at 5 (omega arith), (at 6 (omega arith), lens)))))

pub torn_bounded : (N a : ℕ) → Bounded N (shifted a torn_steps)
torn_bounded N a = tt

-- its byte 3 is not touched, the others of its header and its byte 8 are written
pub torn_keeps : (a : ℕ) → Untouched (a + 3) (shifted a torn_steps)
unfolding skips
torn_keeps a = untouched_shifted a 3 torn_steps (skips_untouched 3 torn_steps refl)

pub torn_writes : (a i x : ℕ) → last_programs torn_steps i x ≡ true → Writes (shifted a torn_steps) (a + i) x
torn_writes a i x h = writes_shifted a i x torn_steps (last_writes torn_steps i x h)

torn_lens_by : (j : ℕ) → j < 4 → last_programs torn_steps (4 + j) 0x00 ≡ true
unfolding last_programs skips
torn_lens_by zero h = refl
torn_lens_by (suc zero) h = refl
torn_lens_by (suc (suc zero)) h = refl
torn_lens_by (suc (suc (suc zero))) h = refl
torn_lens_by (suc (suc (suc (suc j)))) h = absurd (omega arith)

pub torn_lens : (a j : ℕ) → j < 4 → Writes (shifted a torn_steps) (a + (4 + j)) 0x00
torn_lens a j h = torn_writes a (4 + j) 0x00 (torn_lens_by j h)

-- ---- the reserved record's steps: the end of its name and its status are 00

missing_is : (im : Image) (a : ℕ) (t : Bool) → eqb (get_or im a 0) 0 ≡ t
    → missing_steps im a ≡ elim t [ true ↦ [] | false ↦ name_end_steps a ]
missing_is im a t e = ap (λ (u : Bool). elim u [ true ↦ [] | false ↦ name_end_steps a ]) e

pub missing_off : (im : Image) (a i : ℕ) → (i ≡ a → ⊥) → Untouched i (missing_steps im a)
missing_off im a i n = go (eqb (get_or im a 0) 0) refl where
  go : (t : Bool) → eqb (get_or im a 0) 0 ≡ t → Untouched i (missing_steps im a)
  go true e = subst (Untouched i) (sym (missing_is im a true e)) tt
  go false e = subst (Untouched i) (sym (missing_is im a false e)) (n, (n, tt))

pub missing_bounded : (N : ℕ) (im : Image) (a : ℕ) → Bounded N (missing_steps im a)
missing_bounded N im a = go (eqb (get_or im a 0) 0) refl where
  go : (t : Bool) → eqb (get_or im a 0) 0 ≡ t → Bounded N (missing_steps im a)
  go true e = subst (Bounded N) (sym (missing_is im a true e)) tt
  go false e = subst (Bounded N) (sym (missing_is im a false e)) tt

-- the end of the name is 00 then
pub missing_end : (im : Image) (a : ℕ) (more : List Step) → a < length im → Bounded (length im) more → Untouched a more
    → get_or (run im (missing_steps im a ++ more)) a 0 ≡ 0
missing_end im a more l w u = go (eqb (get_or im a 0) 0) refl where
  go : (t : Bool) → eqb (get_or im a 0) 0 ≡ t → get_or (run im (missing_steps im a ++ more)) a 0 ≡ 0
  go true e =
      ap (λ (ss : List Step). get_or (run im (ss ++ more)) a 0) (missing_is im a true e) ∙ untouched_run im more a w u
      ∙ eqb-true (get_or im a 0) 0 e
  go false e =
      ap (λ (ss : List Step). get_or (run im (ss ++ more)) a 0) (missing_is im a false e)
      ∙ writes_run im (name_end_steps a ++ more) a 0 l w (inl (inr (refl, refl, u)))
