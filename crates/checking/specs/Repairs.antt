-- The number of the repair that comes first: that of the first which has a step, on what those before it left.
use Rattle.std.specs.Prelude.{ℕ, zero, suc, ◌≡◌, Bool, ◌&&◌, ◌||◌, []}
use Rattle.std.proofs.Math.Path.{refl, ap}
use Rattle.std.proofs.Common.{◌∙◌}
use Rattle.std.proofs.Math.Bool.{true, false, not}
use Rattle.spec.specs.Step.{Image}
use Rattle.spec.specs.Basics.{empty, any}
use Rattle.spec.specs.Chain.{Reading}
use Rattle.spec.specs.Files.{superseded}
use Rattle.spec.specs.Reading.{head_clean}
use Rattle.spec.specs.Move.{Work, begin}
use Rattle.spec.specs.Mount.{repair_1, repair_2_on, repair_3, repair_4, mended, settled}
use Rattle.spec.specs.Fault.{last_open}
use Rattle.spec.specs.Verdict.{second_marked, wrap_torn, first_repair}
use Rattle.checking.specs.declared.Repair.{Repair}
use Rattle.laws.specs.Settled.{busy_1, repair_1_idle, busy_2, repair_2_idle, busy_3, repair_3_idle, repair_4_idle, ends_4}
use Rattle.laws.specs.Settled.{calm, settled_is}

-- the image under repair behind the repair of this number; 0: before all of them
abbrev pub repaired : ℕ → Image → Reading → Work
repaired zero image r = begin image r
repaired (suc zero) image r = repair_1 (begin image r)
repaired (suc (suc zero)) image r = repair_2_on (repair_1 (begin image r))
repaired (suc (suc (suc zero))) image r = repair_3 (repair_2_on (repair_1 (begin image r)))
repaired (suc (suc (suc (suc k)))) image r = mended image r

-- no repair has a step (0), or this is the first that has one
abbrev pub FirstStep : ℕ → Image → Reading → Type 0
FirstStep zero image r = (mended image r).steps ≡ []
FirstStep (suc k) image r = ((repaired k image r).steps ≡ []) × (empty (repaired (suc k) image r).steps ≡ false)

-- the first that has a step, by the steps themselves
unfoldable pub first_with_step : Image → Reading → ℕ
first_with_step image r =
    elim (empty (repaired 1 image r).steps) [
      | false ↦ 1
      | true ↦
          elim (empty (repaired 2 image r).steps) [
            | false ↦ 2
            | true ↦
                elim (empty (repaired 3 image r).steps) [
                  | false ↦ 3
                  | true ↦ elim (empty (repaired 4 image r).steps) [ false ↦ 4 | true ↦ 0 ]
                ]
          ]
    ]

-- the code's enum in 01's numbers
abbrev pub repair_number : Repair → ℕ
repair_number Repair.FreeRun = 1
repair_number Repair.Move = 2
repair_number Repair.LastThing = 3
repair_number Repair.Superseded = 4

-- no repair
abbrev pub is_none : ℕ → Bool
is_none zero = true
is_none (suc k) = false

no_steps : {w v : Work} → w ≡ v → v.steps ≡ [] → w.steps ≡ []
no_steps e h = ap (λ (w : Work). w.steps) e ∙ h

some_steps : {w v : Work} → w ≡ v → empty v.steps ≡ false → empty w.steps ≡ false
some_steps e h = ap (λ (w : Work). empty w.steps) e ∙ h

neither : (a b c : Bool) → (a || b) ≡ c → (not a && not b) ≡ not c
neither true b c h = ap not h
neither false b c h = ap not h

module _ (image : Image) (r : Reading) where
  w : Work
  w = begin image r

  by_tests : (a b c d : Bool) → head_clean r.entries ≡ a → second_marked r.entries ≡ b
      → (last_open r.entries || wrap_torn r.ending) ≡ c → any (superseded r.entries) r.entries ≡ d
      → FirstStep (first_repair r) image r
  unfolding first_repair mended w
  by_tests true b c d p q s t = rw (first_repair, p) (refl, busy_1 w p)
  by_tests false true c d p q s t =
      let one : repair_1 w ≡ w = repair_1_idle w p in
      rw (first_repair, p, q) (no_steps one refl, some_steps (ap repair_2_on one) (busy_2 w r.entries q))
  by_tests false false true d p q s t =
      let two : repair_2_on (repair_1 w) ≡ w = ap repair_2_on (repair_1_idle w p) ∙ repair_2_idle w r.entries q in
      rw (first_repair, p, q, s)
      (no_steps two refl, some_steps (ap repair_3 two) (busy_3 w (neither (last_open r.entries) (wrap_torn r.ending) true s)))
  by_tests false false false true p q s t =
      let two : repair_2_on (repair_1 w) ≡ w = ap repair_2_on (repair_1_idle w p) ∙ repair_2_idle w r.entries q in
      let three : repair_3 (repair_2_on (repair_1 w)) ≡ w =
      ap repair_3 two ∙ repair_3_idle w (neither (last_open r.entries) (wrap_torn r.ending) false s) in
      rw (first_repair, p, q, s, t) (no_steps three refl, some_steps (ap repair_4 three) (ends_4 w true t refl))
  by_tests false false false false p q s t =
      let two : repair_2_on (repair_1 w) ≡ w = ap repair_2_on (repair_1_idle w p) ∙ repair_2_idle w r.entries q in
      let three : repair_3 (repair_2_on (repair_1 w)) ≡ w =
      ap repair_3 two ∙ repair_3_idle w (neither (last_open r.entries) (wrap_torn r.ending) false s) in
      rw (first_repair, p, q, s, t) (no_steps (ap repair_4 three ∙ repair_4_idle w t) refl)

  pub first_step : FirstStep (first_repair r) image r
  first_step = by_tests _ _ _ _ refl refl refl refl

  idle : {v : Work} → v ≡ w → empty v.steps ≡ true
  unfolding w
  idle e = ap (λ (v : Work). empty v.steps) e

  number_by : (a b c d : Bool) → head_clean r.entries ≡ a → second_marked r.entries ≡ b
      → (last_open r.entries || wrap_torn r.ending) ≡ c → any (superseded r.entries) r.entries ≡ d
      → first_repair r ≡ first_with_step image r
  unfolding first_repair first_with_step mended w
  number_by true b c d p q s t = rw (first_repair, p, first_with_step, busy_1 w p)
  number_by false true c d p q s t =
      let one : repair_1 w ≡ w = repair_1_idle w p in
      rw (first_repair, p, q, first_with_step, idle one, some_steps (ap repair_2_on one) (busy_2 w r.entries q))
  number_by false false true d p q s t =
      let one : repair_1 w ≡ w = repair_1_idle w p in
      let two : repair_2_on (repair_1 w) ≡ w = ap repair_2_on one ∙ repair_2_idle w r.entries q in
      rw (
        first_repair,
        p,
        q,
        s,
        first_with_step,
        idle one,
        idle two,
        some_steps (ap repair_3 two) (busy_3 w (neither (last_open r.entries) (wrap_torn r.ending) true s)),
      )
  number_by false false false d p q s t =
      let one : repair_1 w ≡ w = repair_1_idle w p in
      let two : repair_2_on (repair_1 w) ≡ w = ap repair_2_on one ∙ repair_2_idle w r.entries q in
      let three : repair_3 (repair_2_on (repair_1 w)) ≡ w =
      ap repair_3 two ∙ repair_3_idle w (neither (last_open r.entries) (wrap_torn r.ending) false s) in
      let four : empty (repair_4 (repair_3 (repair_2_on (repair_1 w)))).steps ≡ not d =
      ap (λ (v : Work). empty (repair_4 v).steps) three ∙ ends_4 w d t refl in
      last d t (idle one) (idle two) (idle three) four
    where
      last : (d : Bool) → any (superseded r.entries) r.entries ≡ d → empty (repair_1 w).steps ≡ true
          → empty (repair_2_on (repair_1 w)).steps ≡ true → empty (repair_3 (repair_2_on (repair_1 w))).steps ≡ true
          → empty (repair_4 (repair_3 (repair_2_on (repair_1 w)))).steps ≡ not d → first_repair r ≡ first_with_step image r
      last true t i j k l = rw (first_repair, p, q, s, t, first_with_step, i, j, k, l)
      last false t i j k l = rw (first_repair, p, q, s, t, first_with_step, i, j, k, l)

  -- 01's conditions tell the first that has a step
  pub number_is : first_repair r ≡ first_with_step image r
  number_is = number_by _ _ _ _ refl refl refl refl

  calm_by : (a b c d : Bool) → head_clean r.entries ≡ a → second_marked r.entries ≡ b
      → (last_open r.entries || wrap_torn r.ending) ≡ c → any (superseded r.entries) r.entries ≡ d
      → calm r ≡ is_none (first_repair r)
  unfolding first_repair calm
  calm_by true b c d p q s t = rw (first_repair, calm, p)
  calm_by false true c d p q s t = rw (first_repair, calm, p, q)
  calm_by false false true d p q s t =
      rw (first_repair, calm, p, q, s, neither (last_open r.entries) (wrap_torn r.ending) true s)
  calm_by false false false true p q s t =
      rw (first_repair, calm, p, q, s, t, neither (last_open r.entries) (wrap_torn r.ending) false s)
  calm_by false false false false p q s t =
      rw (first_repair, calm, p, q, s, t, neither (last_open r.entries) (wrap_torn r.ending) false s)

  -- and there is none exactly if mount has no step
  pub settled_number : settled image r ≡ is_none (first_repair r)
  settled_number = settled_is image r ∙ calm_by _ _ _ _ refl refl refl refl
