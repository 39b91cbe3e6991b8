-- What a call that was cut leaves, by the steps that are left: only the first of them counts.
use Rattle.std.specs.Prelude.{ℕ, ◌≤◌, ◌≡◌, refl, Bool, true, false, List, [], ◌∷◌, ◌++◌, length, set, get_or}
use Rattle.std.proofs.Common.{arith, ap}
use Rattle.spec.specs.Step.{Image, Step, program, erase}
use Rattle.spec.specs.History.{between, partly}

-- only the first of the steps that are left counts
partly_first : (v : ℕ) (s : Step) (ss ts : List Step) (im : Image) → partly v ((s ∷ ss) ++ ts) im ≡ partly v (s ∷ ss) im
unfolding partly
partly_first v (program a b) ss ts im = refl
partly_first v (erase a) ss ts im = refl

pub partly_append : (v : ℕ) (ss ts : List Step) (im : Image) → 1 ≤ length ss → partly v (ss ++ ts) im ≡ partly v ss im
partly_append v [] ts im h = absurd (omega arith)
partly_append v (s ∷ ss) ts im h = partly_first v s ss ts im

pub partly_by : (v a b : ℕ) (ss : List Step) (im : Image) (t : Bool) → between (get_or im a 0) b v ≡ t
    → partly v (program a b ∷ ss) im ≡ elim t as (λ x. Image) [ true ↦ set im a v | false ↦ im ]
unfolding partly
partly_by v a b ss im t e = ap (λ (x : Bool). elim x as (λ y. Image) [ true ↦ set im a v | false ↦ im ]) e

pub partly_none : (v : ℕ) (im : Image) → partly v [] im ≡ im
unfolding partly
partly_none v im = refl
