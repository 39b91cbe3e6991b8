-- How many steps of a list program a byte, and how many erase a sector: the laws of AtMost.
use Rattle.std.specs.Prelude.{ℕ, zero, suc, ◌+◌, ◌≤◌, ◌≡◌, refl, List, [], ◌∷◌, ◌++◌, map, length, take}
use Rattle.std.proofs.Common.{arith}
use Rattle.spec.specs.Step.{Step, program, erase}
use Rattle.spec.specs.Bounds.{programs, erases, AtMost}
use Rattle.laws.specs.Steps.{Programs}

pub kinds_length : (ss : List Step) → length ss ≡ programs ss + erases ss
kinds_length [] = refl
kinds_length (program a b ∷ ss) = omega (arith, kinds_length ss)
kinds_length (erase a ∷ ss) = omega (arith, kinds_length ss)

programs_sum : (ss ts : List Step) → programs (ss ++ ts) ≡ programs ss + programs ts
programs_sum [] ts = omega arith
programs_sum (program a b ∷ ss) ts = omega (arith, programs_sum ss ts)
programs_sum (erase a ∷ ss) ts = programs_sum ss ts

erases_sum : (ss ts : List Step) → erases (ss ++ ts) ≡ erases ss + erases ts
erases_sum [] ts = omega arith
erases_sum (program a b ∷ ss) ts = erases_sum ss ts
erases_sum (erase a ∷ ss) ts = omega (arith, erases_sum ss ts)

-- both kinds together
pub most_length : {p e : ℕ} (ss : List Step) → AtMost p e ss → length ss ≤ p + e
most_length ss h = omega (arith, kinds_length ss, h.programs_few, h.erases_few)

pub most_none : AtMost 0 0 []
most_none = record { programs_few = omega arith; erases_few = omega arith }

pub most_append : {p q e f : ℕ} (ss ts : List Step) → AtMost p e ss → AtMost q f ts → AtMost (p + q) (e + f) (ss ++ ts)
most_append ss ts h k =
    record {
      programs_few = omega (arith, programs_sum ss ts, h.programs_few, k.programs_few);
      erases_few = omega (arith, erases_sum ss ts, h.erases_few, k.erases_few);
    }

pub most_more : {p q e f : ℕ} {ss : List Step} → AtMost p e ss → p ≤ q → e ≤ f → AtMost q f ss
most_more h i j = record { programs_few = omega (arith, h.programs_few); erases_few = omega (arith, h.erases_few) }

-- the first of them
pub most_take : {p e : ℕ} (m : ℕ) (ss : List Step) → AtMost p e ss → AtMost p e (take m ss)
most_take m ss h =
    record {
      programs_few = omega (arith, first_programs m ss, h.programs_few);
      erases_few = omega (arith, first_erases m ss, h.erases_few);
    }
  where
    first_programs : (m : ℕ) (ss : List Step) → programs (take m ss) ≤ programs ss
    first_programs zero ss = omega arith
    first_programs (suc m) [] = omega arith
    first_programs (suc m) (program a b ∷ ss) = omega (arith, first_programs m ss)
    first_programs (suc m) (erase a ∷ ss) = first_programs m ss

    first_erases : (m : ℕ) (ss : List Step) → erases (take m ss) ≤ erases ss
    first_erases zero ss = omega arith
    first_erases (suc m) [] = omega arith
    first_erases (suc m) (program a b ∷ ss) = first_erases m ss
    first_erases (suc m) (erase a ∷ ss) = omega (arith, first_erases m ss)

-- no erase among them
none_erased : (ss : List Step) → Programs ss → erases ss ≡ 0
none_erased [] p = refl
none_erased (program a b ∷ ss) p = none_erased ss p
none_erased (erase a ∷ ss) p = absurd p

pub most_programs : {p : ℕ} (ss : List Step) → Programs ss → length ss ≤ p → AtMost p 0 ss
most_programs ss p h = record { programs_few = omega (arith, kinds_length ss); erases_few = omega (arith, none_erased ss p) }

-- erases only
pub most_erases : {e : ℕ} (zs : List ℕ) → length zs ≤ e → AtMost 0 e (map erase zs)
most_erases zs h = record { programs_few = omega (arith, none zs); erases_few = omega (arith, all zs) }
  where
    none : (zs : List ℕ) → programs (map erase zs) ≡ 0
    none [] = refl
    none (z ∷ zs) = none zs

    all : (zs : List ℕ) → erases (map erase zs) ≡ length zs
    all [] = refl
    all (z ∷ zs) = omega (arith, all zs)
