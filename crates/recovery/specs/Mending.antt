-- Repairs one after another, as far as the allowance lets them: all steps were done, or the first of them up to the allowance.
use Rattle.std.specs.Prelude.{ℕ, ◌-◌, refl, ◌⊎◌, false}
use Rattle.std.proofs.Common.{arith, ◌∙◌}
use Rattle.std.proofs.Math.Path.{◌≡◌, sym, ap, ap₂, subst}
use Rattle.std.proofs.Math.Logic.{⊎_elim}
use Rattle.std.proofs.Math.Bool.{true}
use mathlib.Core.List.{List, [], ◌∷◌, ◌++◌, append-nil}
use Rattle.std.proofs.Math.Seq.{take-nil}
use Rattle.spec.specs.Step.{Image, Step, run}
use Rattle.spec.specs.Basics.{empty}
use Rattle.spec.specs.Chain.{reading_from}
use Rattle.spec.specs.Move.{Work, begin, after}
use Rattle.flash.specs.declared.Meter.{Meter}
use Rattle.flash.specs.Did.{Did, did_none, did_all}
use Rattle.flash.specs.Began.{Began, began_did, began_both, began_cut}
use Rattle.flash.specs.Meters.{Enough, UsedUp}

-- the steps of w were begun; once all are done, w's image is t, which is read from the head h on
pub record Mending (s : Image) (m : Meter) (w : Work) (t : Image) (h : ℕ) (r : Meter) : Type 0 where
  pub begun : Began s m w.steps t r
  pub image : Enough r → w.image ≡ t
  pub reading : Enough r → w.reading ≡ reading_from t h

pub mending_start : (s : Image) (h : ℕ) (m : Meter) → Mending s m (begin s (reading_from s h)) s h m
mending_start s h m = record { begun = began_did (did_none s m); image = λ l. refl; reading = λ l. refl }

after_steps : (w : Work) (ss : List Step) (k : ℕ) → w.steps ++ ss ≡ (after w ss k).steps
unfolding after
after_steps w [] k = append-nil w.steps
after_steps w (x ∷ ss) k = refl

module _ {s t : Image} {m r : Meter} {w : Work} {h : ℕ} (v : Mending s m w t h r) where
  -- the next phase is done as well, with the head k afterwards; without a step the head stays
  pub mending_more : {u : Image} {q : Meter} (ss : List Step) (k : ℕ) → Enough r → Did t r ss u q → (empty ss ≡ false) ⊎ (k ≡ h)
      → Mending s m (after w ss k) u k q
  unfolding after
  mending_more {u} {q} ss k l d o =
      record {
        begun = subst (λ (x : List Step). Began s m x u q) (after_steps w ss k) (began_both v.begun l (began_did d));
        image = (left ss d).0;
        reading = (left ss d).1 o;
      } where
        left : (ss : List Step) → Did t r ss u q → (Enough q → (after w ss k).image ≡ u)
            × ((empty ss ≡ false) ⊎ (k ≡ h) → Enough q → (after w ss k).reading ≡ reading_from u k)
        left [] d =
            let same : t ≡ u = sym (d.bytes ∙ ap (run t) (take-nil (r.allowance - r.asked))) in
            let kept : (true ≡ false) ⊎ (k ≡ h) → h ≡ k =
            ⊎_elim (λ (e : true ≡ false). absurd (let z : ◌≡◌ {A = ℕ} 0 1 = cc in omega arith)) (λ (e : k ≡ h). sym e) in
            (λ b. v.image l ∙ same, λ o b. v.reading l ∙ ap₂ reading_from same (kept o))
        left (x ∷ ss) d =
            let done : Enough q → run w.image (x ∷ ss) ≡ u = λ b. ap (λ (i : Image). run i (x ∷ ss)) (v.image l) ∙ sym (did_all d b) in
            (done, λ o b. ap (λ (i : Image). reading_from i k) (done b))

  -- the allowance is used up: the next phase changes nothing
  pub mending_stop : (ss : List Step) (k j : ℕ) → UsedUp r → Mending s m (after w ss k) t j r
  mending_stop ss k j l =
      record {
        begun = subst (λ (x : List Step). Began s m x t r) (after_steps w ss k) (began_cut v.begun ss l);
        image = λ b. absurd (omega arith);
        reading = λ b. absurd (omega arith);
      }
