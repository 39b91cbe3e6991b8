-- K13's theorem, on every image: the check says 22 exactly if mount does; "It is broken exactly if mount refuses with 5 or 6"; it is
-- settled
-- exactly if mount has no step, and needs the recovery of a number exactly if that is the first repair that has one.
use Prim.Native.Nat.{ℕ, zero, suc}
use Rattle.std.specs.Prelude.{Option, Some, None, ◌≡◌, Bool, length, drop}
use Rattle.std.proofs.Math.Path.{refl, sym, ap}
use Rattle.std.proofs.Common.{◌∙◌}
use Rattle.std.proofs.Math.Bool.{true, false}
use Rattle.spec.specs.Refusals.{RefusalNumbers}
use Rattle.spec.specs.declared.Rule.{Rule}
use Rattle.spec.specs.declared.Fault.{Fault}
use Rattle.spec.specs.declared.Verdict.{Verdict}
use Rattle.spec.specs.Step.{Image}
use Rattle.spec.specs.Basics.{Answer, refuse, give, numbered, checked}
use Rattle.spec.specs.Geometry.{good_length}
use Rattle.spec.specs.Record.{start_here, clean_here, wrap_here}
use Rattle.spec.specs.Head.{sought, walk, chosen, head}
use Rattle.spec.specs.Chain.{Reading, reading_from}
use Rattle.spec.specs.Reading.{legal, judged, reading}
use Rattle.spec.specs.Mount as Mount
use Rattle.spec.specs.Door.{accepted}
use Rattle.spec.specs.Fault.{first_fault}
use Rattle.spec.specs.Verdict.{first_repair, verdict_of, verdict_from, verdict, check}
use Rattle.checking.specs.Clear.{clear}
use Rattle.checking.specs.Legal.{clear_legal}
use Rattle.checking.specs.Repairs.{FirstStep, first_step, first_with_step, is_none, number_is, settled_number}

-- ---- what the check and mount say of an image

-- 5 or 6
pub data Unread : RefusalNumbers → Type 0 where
  five : Unread (numbered 5)
  six : Unread (numbered 6)

-- of the four repairs the first with a step is that of number k, or none is and k is 0
pub record First (image : Image) (r : Reading) (k : ℕ) : Type 0 where
  pub step : FirstStep k image r
  pub number : first_with_step image r ≡ k
  pub idle : Mount.settled image r ≡ is_none k

-- the four ways; `accepted` is what mount goes by: it refuses as that does, else it repairs that reading
pub data Agree (image : Image) : Type 0 where
  bad_length : check image ≡ refuse (numbered 22) → accepted image ≡ refuse (numbered 22) → Agree image
  broken : (rule : Rule) (a : ℕ) (x : RefusalNumbers) → check image ≡ give (Verdict.Broken rule a) → Unread x → accepted image ≡ refuse x
      → Agree image
  settled : (r : Reading) → check image ≡ give Verdict.Settled → accepted image ≡ give r → First image r 0 → Agree image
  recovery : (r : Reading) (k : ℕ) → check image ≡ give (Verdict.Recovery (suc k)) → accepted image ≡ give r → First image r (suc k)
      → Agree image

-- ---- the head's refusals

abbrev Fit : Answer ℕ → Type 0
Fit (refuse x) = Unread x
Fit (give h) = Unit {0}

module _ (image : Image) where
  chosen_fit : (a : ℕ) → Fit (chosen image a)
  unfolding chosen
  chosen_fit a = go (start_here (drop a image)) (clean_here (drop a image)) (clean_here image) refl refl refl where
    go : (t u v : Bool) → start_here (drop a image) ≡ t → clean_here (drop a image) ≡ u → clean_here image ≡ v → Fit (chosen image a)
    go true u v p q r = rw (chosen, p) tt
    go false true true p q r = rw (chosen, p, q, r) five
    go false true false p q r = rw (chosen, p, q, r) tt
    go false false true p q r = rw (chosen, p, q, r) tt
    go false false false p q r = rw (chosen, p, q, r) six

  head_fit : Fit (head image)
  unfolding head
  head_fit = go (start_here image) (wrap_here image) refl refl where
    go : (t u : Bool) → start_here image ≡ t → wrap_here image ≡ u → Fit (head image)
    go true u p q = rw (head, p) tt
    go false true p q = rw (head, p, q) five
    go false false p q = rw (head, p, q) (chosen_fit (sought image (walk (suc (length image)) 0 image)))

-- ---- an image of a good length

module _ (image : Image) (n : good_length (length image) ≡ true) where
  check_is : check image ≡ give (verdict image)
  unfolding check
  check_is = rw (check, n)

  accepted_is : accepted image ≡ reading image
  unfolding accepted
  accepted_is = rw (accepted, n)

  -- no head
  headless : (x : RefusalNumbers) → head image ≡ refuse x → Unread x → Agree image
  unfolding verdict verdict_from reading
  headless x e u =
      let v : verdict image ≡ Verdict.Broken Rule.Head 0 = rw (verdict, e) in
      let q : reading image ≡ refuse x = rw (reading, e) in
      broken Rule.Head 0 x (check_is ∙ ap give v) u (accepted_is ∙ q)

  module _ (h : ℕ) (e : head image ≡ give h) where
    r : Reading
    r = reading_from image h

    verdict_is : verdict image ≡ verdict_of image r
    unfolding verdict verdict_from r
    verdict_is = rw (verdict, e)

    reading_is : (t : Bool) → legal image r ≡ t → reading image ≡ checked t (numbered 5) (give r)
    unfolding reading judged r
    reading_is t l = rw (reading, e, judged, l)

    fault_there : (x : Fault) → first_fault image r ≡ Some x → Agree image
    unfolding verdict_of
    fault_there x f =
        let l : legal image r ≡ false = sym (clear_legal image r) ∙ ap clear f in
        let v : verdict_of image r ≡ Verdict.Broken x.rule x.at = rw (verdict_of, f) in
        broken x.rule x.at (numbered 5) (check_is ∙ ap give (verdict_is ∙ v)) five (accepted_is ∙ reading_is false l)

    first : {k : ℕ} → first_repair r ≡ k → First image r k
    first q =
        record {
          step = rw q at (first_step image r);
          number = sym (number_is image r) ∙ q;
          idle = settled_number image r ∙ ap is_none q;
        }

    no_fault : first_fault image r ≡ None → (k : ℕ) → first_repair r ≡ k → Agree image
    unfolding verdict_of
    no_fault f zero q =
        let l : legal image r ≡ true = sym (clear_legal image r) ∙ ap clear f in
        let v : verdict_of image r ≡ Verdict.Settled = rw (verdict_of, f, q) in
        settled r (check_is ∙ ap give (verdict_is ∙ v)) (accepted_is ∙ reading_is true l) (first q)
    no_fault f (suc k) q =
        let l : legal image r ≡ true = sym (clear_legal image r) ∙ ap clear f in
        let v : verdict_of image r ≡ Verdict.Recovery (suc k) = rw (verdict_of, f, q) in
        recovery r k (check_is ∙ ap give (verdict_is ∙ v)) (accepted_is ∙ reading_is true l) (first q)

    with_head : Agree image
    with_head = go (first_fault image r) refl where
      go : (f : Option Fault) → first_fault image r ≡ f → Agree image
      go None q = no_fault q (first_repair r) refl
      go (Some f) q = fault_there f q

  good : Agree image
  good = go (head image) refl (head_fit image) where
    go : (x : Answer ℕ) → head image ≡ x → Fit x → Agree image
    go (refuse x) e u = headless x e u
    go (give h) e u = with_head h e

-- THE theorem
pub agree : (image : Image) → Agree image
unfolding check accepted
agree image = go (good_length (length image)) refl where
  go : (t : Bool) → good_length (length image) ≡ t → Agree image
  go true n = good image n
  go false n = bad_length (rw (check, n)) (rw (accepted, n))
