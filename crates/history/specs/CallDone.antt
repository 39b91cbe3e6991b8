-- What a call does on any image: the first of its plan's steps and nothing else, and it reports as many.
use Rattle.std.specs.Prelude.{ℕ, ◌≡◌, true, List, [], take, drop}
use Rattle.std.proofs.Common.{ap, ap₂, ◌∙◌}
use Rattle.std.proofs.Math.Seq.{take-nil, drop-nil}
use Rattle.spec.specs.Step.{Image, Step, run}
use Rattle.spec.specs.Basics.{Answer}
use Rattle.spec.specs.Answers.{Plan}
use Rattle.spec.specs.History.{Request, Call, plan, steps_of, steps_done, steps_left, partly}
use Rattle.spec.specs.Demand.{StepsSound, only_looks, CallDone}
use Rattle.history.specs.Induction.{carried_image, left}
use Rattle.history.specs.Plans.{get_none, list_none, plan_counts}
use Rattle.history.specs.Partly.{partly_none}
use Rattle.history.specs.Used.{used_exact}

-- a plan without steps leaves the image as it was
none_left : (im : Image) (k v : ℕ) (p : Answer Plan) → steps_of p ≡ [] → left im k v p ≡ im
none_left im k v p e =
    ap (partly v (drop k (steps_of p))) (carried_image im k p)
    ∙ ap (λ (ss : List Step). partly v (drop k ss) (run im (take k ss))) e
    ∙ ap₂ (λ (ss ts : List Step). partly v ss (run im ts)) (drop-nil k) (take-nil k)
    ∙ partly_none v im

-- get and list have no steps
looks_none : (im : Image) (r : Request) → only_looks r ≡ true → steps_of (plan im r) ≡ []
looks_none im (Request.put n c) h = cc
looks_none im (Request.remove n) h = cc
looks_none im Request.sweep h = cc
looks_none im Request.mount h = cc
looks_none im (Request.get n) h = get_none n im
looks_none im (Request.list i) h = list_none i im

-- what a call does, if its steps are sound
pub call_done : (im : Image) (c : Call) → StepsSound im (steps_done im c) → CallDone im c
call_done im c s =
    record {
      sound = s;
      leaves = ap (partly c.cut_byte (steps_left im c)) (carried_image im c.allowance (plan im c.request));
      reports = used_exact im c.allowance (plan im c.request) (plan_counts im c.request);
      unchanged = λ h. none_left im c.allowance c.cut_byte (plan im c.request) (looks_none im c.request h);
    }
