-- Put's answer from its meter.
use Rattle.std.specs.Prelude.{ℕ, ◌-◌, ◌≡◌, refl, Bool, List, [], length, take, Ok}
use native.Mathlib.Omega.{arith}
use Rattle.std.proofs.Common.{◌∙◌}
use Rattle.std.proofs.Math.Path.{ap, ap₂}
use Rattle.std.proofs.Math.Bool.{true, false}
use Rattle.std.proofs.Math.Dec.{leb}
use Rattle.spec.specs.declared.Space.{Space}
use Rattle.spec.specs.Step.{Image, Step, run}
use Rattle.spec.specs.Basics.{give}
use Rattle.spec.specs.Numbers.{outcome_of, of_write, of_put}
use Rattle.spec.specs.Answers.{Plan, numbers_of, carry_out}
use Rattle.flash.specs.declared.Meter.{Meter}
use Rattle.flash.specs.Did.{Did}
use Rattle.calls.specs.declared.Stored.{Stored}
use Rattle.calls.specs.Numbers.{stored}

-- with this record if all is done; "4: allowance used up before the last step"
abbrev pub spent_on : Space → Meter → Stored
spent_on x m = elim (leb m.asked m.allowance) [ true ↦ Stored.Done x m.asked | false ↦ Stored.Cut m.allowance ]

module _ (x : Space) where
  spent_is : (r : Meter) (t : Bool) → leb r.asked r.allowance ≡ t
      → spent_on x r ≡ elim t [ true ↦ Stored.Done x r.asked | false ↦ Stored.Cut r.allowance ]
  spent_is r t e = ap (λ (b : Bool). elim b [ true ↦ Stored.Done x r.asked | false ↦ Stored.Cut r.allowance ]) e

  -- the plan of these steps, with this record
  abbrev pub writing : List Step → Plan
  writing ss = record { steps = ss; moves = []; done = of_put 0 x (length ss) }

  answer_is : (ss : List Step) (k : ℕ) (r : Meter) (t : Bool) → r.asked ≡ length ss → r.allowance ≡ k → leb (length ss) k ≡ t
      → stored (Ok (spent_on x r)) ≡ numbers_of k (writing ss)
  unfolding numbers_of
  answer_is ss k r true a b e =
      ap (λ (w : Stored). stored (Ok w)) (spent_is r true (ap₂ leb a b ∙ e)) ∙ rw (numbers_of, e) (ap (of_put 0 x) a)
  answer_is ss k r false a b e =
      ap (λ (w : Stored). stored (Ok w)) (spent_is r false (ap₂ leb a b ∙ e)) ∙ rw (numbers_of, e) (ap (of_write 4) b)

  pub put_carried : {s t : Image} {m r : Meter} {ss : List Step} (k : ℕ) → m.asked ≡ 0 → m.allowance ≡ k → Did s m ss t r
      → outcome_of (stored (Ok (spent_on x r))) t ≡ carry_out s k (give (writing ss))
  unfolding carry_out
  put_carried {s} {t} {m} {r} {ss} k z a d =
      let n : m.allowance - m.asked ≡ k = omega arith in
      ap₂ outcome_of (answer_is ss k r _ (omega (arith, d.count)) (d.same ∙ a) refl) (d.bytes ∙ ap (λ (i : ℕ). run s (take i ss)) n)
