-- What mount does on an image of the invariant (Mends). On each kind one repair at most has steps, so mount is that repair, if it leaves
-- a rested image, on which the others have nothing to do.
use Rattle.std.specs.Prelude.{ℕ, ◌+◌, ◌/◌, ◌≡◌, true, List, [], length}
use Rattle.std.proofs.Common.{arith, sym, ◌∙◌}
use Rattle.std.proofs.Math.Path.{ap, subst}
use Rattle.spec.specs.Step.{Image, Step, run}
use Rattle.spec.specs.Basics.{give}
use Rattle.spec.specs.Geometry.{good_length}
use Rattle.spec.specs.Chain.{Reading}
use Rattle.spec.specs.Reading.{reading}
use Rattle.spec.specs.Move.{Work, begin, reread, after}
use Rattle.spec.specs.Mount.{repair_1, repair_2_on, repair_3, repair_4, mended}
use Rattle.spec.specs.History.{Ledger}
use Rattle.spec.specs.Bounds.{AtMost, head_most, head_data}
use Rattle.history.specs.Safe.{Safe}
use Rattle.laws.specs.Length.{good}
use Rattle.history.specs.Kinds.{Inv, Rested}
use Rattle.history.specs.Settled.{rested_idle, idle_2, idle_3, idle_4, after_some}
use Rattle.history.specs.Closes.{Rests}
use Rattle.history.specs.StepCounts.{most_none, most_more}

-- ---- mount

-- whether mount has a step to do: none on a rested image, or some
pub data Needs (l : Ledger) (im : Image) (r : Reading) : Type 0 where
  needs_none : Rested l im r → Needs l im r
  needs_some : ((mended im r).steps ≡ [] → ⊥) → Needs l im r

-- mount's bounds, by the length of the image and by the data of its head
pub record Few (im : Image) (r : Reading) (ss : List Step) : Type 0 where
  pub by_length : AtMost (length im / 8 + 8) (length im / 4096) ss
  pub by_head : AtMost (head_most (head_data r.entries)) (length im / 4096) ss

-- nine bytes are few in an image of a good length
pub nine_few : {im : Image} {r : Reading} (ss : List Step) → good_length (length im) ≡ true → AtMost 9 0 ss → Few im r ss
nine_few {im} ss g h =
    record {
      by_length = most_more h (omega (arith, (good (length im) g).two)) (omega arith);
      by_head = most_more h (omega arith) (omega arith);
    }

-- what mount does: the image is read, cut anywhere the files stay, at the end it is rested, and the steps are few
pub record Mends (l : Ledger) (im : Image) : Type 0 where
  pub r : Reading
  pub reads : reading im ≡ give r
  pub needs : Needs l im r
  pub safe : Safe (Inv l) im (mended im r).steps
  pub rested : Rested l (run im (mended im r).steps) (mended im r).reading
  pub few : Few im r (mended im r).steps

module _ {l : Ledger} {im : Image} {r : Reading} (reads : reading im ≡ give r) where
  -- nothing to do
  pub mends_none : Inv l im → Rested l im r → Mends l im
  mends_none i q =
      let m : mended im r ≡ begin im r = rested_idle q in
      record {
        r = r;
        reads = reads;
        needs = needs_none q;
        safe = subst (λ (v : Work). Safe (Inv l) im v.steps) (sym m) i;
        rested = subst (λ (v : Work). Rested l (run im v.steps) v.reading) (sym m) q;
        few = subst (λ (v : Work). Few im r v.steps) (sym m) (nine_few [] q.good (most_more most_none (omega arith) (omega arith)));
      }

  module _ {ss : List Step} {h : ℕ} (q : Rests l im ss h) (some : ss ≡ [] → ⊥) (few : Few im r ss) where
    -- the image that these steps leave, as it is read
    left : Work
    left = reread (begin im r) ss (run im ss) h

    mends_by : mended im r ≡ left → Mends l im
    unfolding left
    mends_by m =
        record {
          r = r;
          reads = reads;
          needs = needs_some (λ e. some (sym (ap (λ (v : Work). v.steps) m) ∙ e));
          safe = subst (λ (v : Work). Safe (Inv l) im v.steps) (sym m) q.safe;
          rested = subst (λ (v : Work). Rested l (run im v.steps) v.reading) (sym m) q.rested;
          few = subst (λ (v : Work). Few im r v.steps) (sym m) few;
        }

    then_3 : repair_3 left ≡ left
    unfolding left
    then_3 = idle_3 (reread (begin im r) ss (run im ss) h) q.rested

    then_4 : repair_4 left ≡ left
    unfolding left
    then_4 = idle_4 (reread (begin im r) ss (run im ss) h) q.rested

    then_2 : repair_2_on left ≡ left
    unfolding left
    then_2 = idle_2 (reread (begin im r) ss (run im ss) h) q.rested

    done : (w : Work) → w ≡ after (begin im r) ss h → w ≡ left
    unfolding left
    done w e = e ∙ after_some (begin im r) ss h some

    -- repair 1 alone has steps
    pub mends_1 : repair_1 (begin im r) ≡ after (begin im r) ss h → Mends l im
    unfolding mended
    mends_1 e =
        mends_by (ap (λ (v : Work). repair_4 (repair_3 (repair_2_on v))) (done (repair_1 (begin im r)) e)
        ∙ ap (λ (v : Work). repair_4 (repair_3 v)) then_2 ∙ ap repair_4 then_3 ∙ then_4)

    -- repair 2 alone
    pub mends_2 : repair_1 (begin im r) ≡ begin im r → repair_2_on (begin im r) ≡ after (begin im r) ss h → Mends l im
    unfolding mended
    mends_2 a e =
        mends_by (ap (λ (v : Work). repair_4 (repair_3 (repair_2_on v))) a
        ∙ ap (λ (v : Work). repair_4 (repair_3 v)) (done (repair_2_on (begin im r)) e) ∙ ap repair_4 then_3 ∙ then_4)

    -- repair 3 alone
    pub mends_3 : repair_1 (begin im r) ≡ begin im r → repair_2_on (begin im r) ≡ begin im r → repair_3 (begin im r) ≡ after (begin im r) ss h
        → Mends l im
    unfolding mended
    mends_3 a b e =
        mends_by (ap (λ (v : Work). repair_4 (repair_3 (repair_2_on v))) a ∙ ap (λ (v : Work). repair_4 (repair_3 v)) b
        ∙ ap repair_4 (done (repair_3 (begin im r)) e) ∙ then_4)

    -- repair 4 alone
    pub mends_4 : repair_1 (begin im r) ≡ begin im r → repair_2_on (begin im r) ≡ begin im r → repair_3 (begin im r) ≡ begin im r
        → repair_4 (begin im r) ≡ after (begin im r) ss h → Mends l im
    unfolding mended
    mends_4 a b c e =
        mends_by (ap (λ (v : Work). repair_4 (repair_3 (repair_2_on v))) a ∙ ap (λ (v : Work). repair_4 (repair_3 v)) b ∙ ap repair_4 c
        ∙ done (repair_4 (begin im r)) e)
