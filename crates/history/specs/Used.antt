-- The steps that a call does and reports, whatever its allowance: the first of its plan's.
use Rattle.std.specs.Prelude.{ℕ, ◌≤◌, ◌<◌, ◌≡◌, refl, Bool, true, false, [], length, take, leb}
use Rattle.std.proofs.Common.{arith, sym, ap, ◌∙◌, length-take, take_all, length-take-le, leb-true, leb-false}
use Rattle.std.proofs.Math.Seq.{take-nil}
use Rattle.spec.specs.Step.{Image}
use Rattle.spec.specs.Basics.{Answer, refuse, give}
use Rattle.spec.specs.Answers.{Plan, carry_out}
use Rattle.spec.specs.Numbers.{Outcome}
use Rattle.spec.specs.History.{steps_of}
use Rattle.spec.specs.Bounds.{AtMost}
use Rattle.spec.specs.Refusals.{RefusalNumbers}
use Rattle.history.specs.StepCounts.{most_none, most_more, most_take}
use Rattle.history.specs.Induction.{carried_done, carried_cut}
use Rattle.history.specs.Plans.{OwnCount}

-- a refusal
used_none : (im : Image) (k : ℕ) (x : RefusalNumbers) → (carry_out im k (refuse x)).numbers.steps ≡ 0
unfolding carry_out
used_none im k x = refl

-- a plan that counts the steps of its list
pub used_exact : (im : Image) (k : ℕ) (a : Answer Plan) → OwnCount a → (carry_out im k a).numbers.steps ≡ length (take k (steps_of a))
used_exact im k (refuse n) d = used_none im k n ∙ sym (ap length (take-nil k))
used_exact im k (give p) d = go (leb (length p.steps) k) refl
  where
    go : (b : Bool) → leb (length p.steps) k ≡ b → (carry_out im k (give p)).numbers.steps ≡ length (take k p.steps)
    go true e =
        let enough : length p.steps ≤ k = leb-true (length p.steps) k e in
        ap (λ (o : Outcome). o.numbers.steps) (carried_done im k p enough) ∙ d ∙ sym (ap length (take_all k p.steps enough))
    go false e =
        let less : k < length p.steps = leb-false (length p.steps) k e in
        ap (λ (o : Outcome). o.numbers.steps) (carried_cut im k p less) ∙ sym (length-take-le k p.steps (omega arith))

-- so at most as many as that list has
pub used_most : (im : Image) (k : ℕ) (p : Plan) → p.done.steps ≡ length p.steps
    → (carry_out im k (give p)).numbers.steps ≤ length p.steps
used_most im k p d = omega (arith, used_exact im k (give p) d, length-take k p.steps)

-- what bounds each plan that is carried out bounds the steps used
pub used_bound : (im : Image) (k b : ℕ) (a : Answer Plan)
    → ((p : Plan) → a ≡ give p → (p.done.steps ≡ length p.steps) × (length p.steps ≤ b)) → (carry_out im k a).numbers.steps ≤ b
used_bound im k b (refuse n) h = omega (arith, used_none im k n)
used_bound im k b (give p) h = omega (arith, used_most im k p (h p refl).0, (h p refl).1)

-- and what bounds its two kinds of step bounds those done
pub used_kinds : {p e : ℕ} (m : ℕ) (a : Answer Plan) → ((q : Plan) → a ≡ give q → AtMost p e q.steps)
    → AtMost p e (take m (steps_of a))
used_kinds m (refuse n) h = most_take m [] (most_more most_none (omega arith) (omega arith))
used_kinds m (give q) h = most_take m q.steps (h q refl)
