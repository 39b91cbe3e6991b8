-- The theorem as three equations, one for each thing that the check may say, against mount's plan.
use Rattle.std.specs.Prelude.{ℕ, ◌≡◌, refl, Bool, true, false, ◌||◌, eqb}
use Rattle.std.proofs.Common.{sym}
use Rattle.std.proofs.Math.Path.{ap}
use Rattle.spec.specs.Refusals.{RefusalNumbers}
use Rattle.spec.specs.declared.Verdict.{Verdict}
use Rattle.spec.specs.Step.{Image}
use Rattle.spec.specs.Basics.{Answer, refuse, give, onward, empty}
use Rattle.spec.specs.Chain.{Reading}
use Rattle.spec.specs.Mount.{settled}
use Rattle.spec.specs.Door.{accepted}
use Rattle.spec.specs.Answers.{Plan, mount_of, mount_plan}
use Rattle.spec.specs.Verdict.{check}
use Rattle.checking.specs.Repairs.{first_with_step}
use Rattle.checking.specs.Theorem.{Agree, Unread, agree}

-- ---- what the check says

abbrev pub says_broken : Answer Verdict → Bool
says_broken (refuse x) = false
says_broken (give Verdict.Settled) = false
says_broken (give (Verdict.Recovery k)) = false
says_broken (give (Verdict.Broken rule a)) = true

abbrev pub says_settled : Answer Verdict → Bool
says_settled (refuse x) = false
says_settled (give Verdict.Settled) = true
says_settled (give (Verdict.Recovery k)) = false
says_settled (give (Verdict.Broken rule a)) = false

-- the number of the repair, or 0
abbrev pub recovery_number : Answer Verdict → ℕ
recovery_number (refuse x) = 0
recovery_number (give Verdict.Settled) = 0
recovery_number (give (Verdict.Recovery k)) = k
recovery_number (give (Verdict.Broken rule a)) = 0

-- ---- what mount does

-- it "refuses with 5 or 6"
abbrev pub refuses_5_6 : Answer Plan → Bool
refuses_5_6 (refuse x) = eqb x.number 5 || eqb x.number 6
refuses_5_6 (give p) = false

-- it "accepts it and has no step to do"
abbrev pub idle : Answer Plan → Bool
idle (refuse x) = false
idle (give p) = empty p.steps

-- the first of its repairs that has a step, or 0
abbrev pub first_of : Image → Answer Reading → ℕ
first_of image (refuse x) = 0
first_of image (give r) = first_with_step image r

-- ---- they agree

module _ (image : Image) where
  plan_is : (a : Answer Reading) → accepted image ≡ a → mount_plan image ≡ onward a (mount_of image)
  unfolding mount_plan
  plan_is a e = ap (λ (a : Answer Reading). onward a (mount_of image)) e

  refusing : (x : RefusalNumbers) → Unread x → (eqb x.number 5 || eqb x.number 6) ≡ true
  refusing _ Unread.five = refl
  refusing _ Unread.six = refl

  -- "It is broken exactly if mount refuses with 5 or 6"
  pub broken_exactly : says_broken (check image) ≡ refuses_5_6 (mount_plan image)
  broken_exactly = go (agree image) where
    go : Agree image → says_broken (check image) ≡ refuses_5_6 (mount_plan image)
    go (Agree.bad_length c a) = rw (c, plan_is _ a)
    go (Agree.broken rule at x c u a) = rw (c, plan_is _ a) (sym (refusing x u))
    go (Agree.settled r c a f) = rw (c, plan_is _ a)
    go (Agree.recovery r k c a f) = rw (c, plan_is _ a)

  -- settled exactly if mount accepts it and has no step
  pub settled_exactly : says_settled (check image) ≡ idle (mount_plan image)
  unfolding settled
  settled_exactly = go (agree image) where
    go : Agree image → says_settled (check image) ≡ idle (mount_plan image)
    go (Agree.bad_length c a) = rw (c, plan_is _ a)
    go (Agree.broken rule at x c u a) = rw (c, plan_is _ a)
    go (Agree.settled r c a f) = rw (c, plan_is _ a) (sym f.idle)
    go (Agree.recovery r k c a f) = rw (c, plan_is _ a) (sym f.idle)

  -- recovery with the number of the first repair that has a step
  pub recovery_exactly : recovery_number (check image) ≡ first_of image (accepted image)
  recovery_exactly = go (agree image) where
    go : Agree image → recovery_number (check image) ≡ first_of image (accepted image)
    go (Agree.bad_length c a) = rw (c, a)
    go (Agree.broken rule at x c u a) = rw (c, a)
    go (Agree.settled r c a f) = rw (c, a) (sym f.number)
    go (Agree.recovery r k c a f) = rw (c, a) (sym f.number)
