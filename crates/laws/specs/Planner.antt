-- Planned steps (02, K1): what is read back from the slices, windows put together, and that the steps planned are the steps done.
use Rattle.std.specs.Prelude.{ℕ, zero, suc, ◌+◌, ◌≤◌, ◌≡◌, Bool, true, false, length, take, drop}
use Rattle.std.proofs.Common.{arith, sym, ◌∙◌, length-take, take-take, take-add, drop-drop, le-leb}
use Rattle.std.proofs.Math.Path.{refl, ap, ap₂}
use mathlib.Core.List.{List, [], ◌∷◌, ◌++◌, map}
use Rattle.std.proofs.Math.Seq.{take-nil}
use Rattle.spec.specs.Step.{Image, Step, program, erase, run}
use Rattle.spec.specs.Basics.{Answer, refuse, give}
use Rattle.spec.specs.Numbers.{Numbers}
use Rattle.spec.specs.Answers.{Plan, cut, numbers_of, carry_out}
use Rattle.spec.specs.History.{steps_of}
use Rattle.spec.specs.Planner.{Writing, plan_of, planned_steps, kind_of, address_of, byte_of, Slices, shortest, window, done_numbers}
use Rattle.spec.specs.Planner.{hand_out, planned, steps_in, handed_steps, in_turn, slots, PlannedAsDone}

-- ---- one window

-- the slots that got steps give them back, whatever stands behind them
steps_back : (ss : List Step) (x y z : List ℕ)
    → steps_in (length ss) (map kind_of ss ++ x) (map address_of ss ++ y) (map byte_of ss ++ z) ≡ ss
steps_back [] x y z = refl
steps_back (program a b ∷ ss) x y z = ap (λ (l : List Step). program a b ∷ l) (steps_back ss x y z)
steps_back (erase a ∷ ss) x y z = ap (λ (l : List Step). erase a ∷ l) (steps_back ss x y z)

module _ (a : Answer Plan) (first : ℕ) (s : Slices) where
  handed_count : (hand_out a first s).handed ≡ length (window first (shortest s) (steps_of a))
  unfolding hand_out
  handed_count = refl

  handed_window : handed_steps (hand_out a first s) ≡ window first (shortest s) (steps_of a)
  unfolding hand_out
  handed_window = steps_back (window first (shortest s) (steps_of a)) _ _ _

  numbers_same : (hand_out a first s).numbers ≡ done_numbers a
  unfolding hand_out
  numbers_same = refl

-- ---- windows put together

-- what lies behind the first m, also where there are fewer
drop_first : (m : ℕ) (l : List Step) → drop (length (take m l)) l ≡ drop m l
drop_first zero l = refl
drop_first (suc m) [] = refl
drop_first (suc m) (x ∷ l) = drop_first m l

-- a window and the next one
pub windows_join : (first m n : ℕ) (ss : List Step)
    → window first m ss ++ window (first + length (window first m ss)) n ss ≡ window first (m + n) ss
windows_join first m n ss =
    let l : List Step = drop first ss in
    ap (λ (r : List Step). take m l ++ take n r) (sym (drop-drop (length (take m l)) first ss) ∙ drop_first m l)
    ∙ sym (take-add m n l)

module _ (c : Writing) (image : Image) where
  turn_windows : (first : ℕ) (ws : List Slices) → in_turn c image first ws ≡ window first (slots ws) (planned_steps c image)
  unfolding in_turn
  turn_windows first [] = refl
  turn_windows first (s ∷ rest) =
      let ss = planned_steps c image in
      ap₂ ◌++◌ (handed_window (plan_of c image) first s)
      (turn_windows (first + (planned c image first s).handed) rest
      ∙ ap (λ (i : ℕ). window (first + i) (slots rest) ss) (handed_count (plan_of c image) first s))
      ∙ windows_join first (shortest s) (slots rest) ss

-- ---- the steps planned are the steps done

carried_image : (image : Image) (k : ℕ) (a : Answer Plan) → (carry_out image k a).image ≡ run image (take k (steps_of a))
unfolding carry_out
carried_image image k (refuse x) = ap (run image) (sym (take-nil k))
carried_image image k (give p) = refl

carried_numbers : (image : Image) (k : ℕ) (a : Answer Plan) → length (steps_of a) ≤ k → (carry_out image k a).numbers ≡ done_numbers a
unfolding carry_out numbers_of
carried_numbers image k (refuse x) h = refl
carried_numbers image k (give p) h =
    ap (λ (t : Bool). elim t as (λ u. Numbers) [ true ↦ p.done | false ↦ cut k p ]) (le-leb (length p.steps) k h)

-- the first k of a list cut off at n, where k are left
take_within : (k n : ℕ) (ss : List Step) → k ≤ length (take n ss) → take k (take n ss) ≡ take k ss
take_within k n ss h = take-take k n ss (omega (arith, length-take n ss))

pub planned_as_done : (c : Writing) (image : Image) → PlannedAsDone c image
planned_as_done c image =
    record {
      together = turn_windows c image 0;
      images = λ ws k h.
          let e = turn_windows c image 0 ws in
          ap (λ (l : List Step). run image (take k l)) e
          ∙ ap (run image) (take_within k (slots ws) (planned_steps c image) (rw e at h))
          ∙ sym (carried_image image k (plan_of c image));
      answers = λ first k s h.
          numbers_same (plan_of c image) first s ∙ sym (carried_numbers image k (plan_of c image) h);
    }
