-- From the meter to the answer of a call that writes, and a refusal with the image unchanged.
use Rattle.std.specs.Prelude.{ℕ, ◌-◌, ◌≡◌, refl, Bool, true, false, List, length, take, leb, Ok}
use Rattle.std.proofs.Common.{arith, ap, ap₂, ◌∙◌}
use Rattle.spec.specs.Refusals.{RefusalNumbers}
use Rattle.spec.specs.Step.{Image, Step, run}
use Rattle.spec.specs.Basics.{Answer, refuse, give, onward}
use Rattle.spec.specs.Chain.{Reading}
use Rattle.spec.specs.Numbers.{outcome_of, of_write, refusal}
use Rattle.spec.specs.Answers.{Plan, numbers_of, carry_out, doing}
use Rattle.flash.specs.declared.Meter.{Meter}
use Rattle.flash.specs.Did.{Did}
use Rattle.calls.specs.declared.Written.{Written}
use Rattle.calls.specs.Numbers.{written}

-- "4: allowance used up before the last step"
abbrev pub spent : Meter → Written
spent m = elim (leb m.asked m.allowance) [ true ↦ Written.Done m.asked | false ↦ Written.Cut m.allowance ]

-- ---- a plan with no moves, carried out

spent_is : (r : Meter) (t : Bool) → leb r.asked r.allowance ≡ t
    → spent r ≡ elim t [ true ↦ Written.Done r.asked | false ↦ Written.Cut r.allowance ]
spent_is r t e = ap (λ (b : Bool). elim b [ true ↦ Written.Done r.asked | false ↦ Written.Cut r.allowance ]) e

answer_is : (ss : List Step) (k : ℕ) (r : Meter) (t : Bool) → r.asked ≡ length ss → r.allowance ≡ k → leb (length ss) k ≡ t
    → written (Ok (spent r)) ≡ numbers_of k (doing ss)
unfolding numbers_of
answer_is ss k r true a b e =
    ap (λ (w : Written). written (Ok w)) (spent_is r true (ap₂ leb a b ∙ e)) ∙ rw (numbers_of, e) (ap (of_write 0) a)
answer_is ss k r false a b e =
    ap (λ (w : Written). written (Ok w)) (spent_is r false (ap₂ leb a b ∙ e)) ∙ rw (numbers_of, e) (ap (of_write 4) b)

pub carried : {s t : Image} {m r : Meter} {ss : List Step} (k : ℕ) → m.asked ≡ 0 → m.allowance ≡ k → Did s m ss t r
    → outcome_of (written (Ok (spent r))) t ≡ carry_out s k (give (doing ss))
unfolding carry_out
carried {s} {t} {m} {r} {ss} k z a d =
    let n : m.allowance - m.asked ≡ k = omega arith in
    ap₂ outcome_of (answer_is ss k r _ (omega (arith, d.count)) (d.same ∙ a) refl) (d.bytes ∙ ap (λ (i : ℕ). run s (take i ss)) n)

-- ---- at the door

pub refused : (s : Image) (k : ℕ) (x : RefusalNumbers) → outcome_of (refusal x) s ≡ carry_out s k (refuse x)
unfolding carry_out
refused s k x = refl

-- the door's refusal stands, whatever the call is
pub shut : (s : Image) (k : ℕ) (x : RefusalNumbers) {a : Answer Reading} (f : Reading → Answer Plan) → refuse x ≡ a
    → outcome_of (refusal x) s ≡ carry_out s k (onward a f)
shut s k x f e = refused s k x ∙ ap (λ (y : Answer Reading). carry_out s k (onward y f)) e

-- what was read goes on to the call
pub let_in : (s : Image) (k : ℕ) (r : Reading) {a : Answer Reading} (f : Reading → Answer Plan) → give r ≡ a
    → carry_out s k (f r) ≡ carry_out s k (onward a f)
let_in s k r f e = ap (λ (y : Answer Reading). carry_out s k (onward y f)) e
