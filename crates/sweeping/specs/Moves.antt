-- Moves, each a list of steps, begun one after another; n of them are finished.
use Rattle.std.specs.Prelude.{ℕ, suc, ◌+◌, ◌≤◌, ◌≡◌, refl, List, [], ◌∷◌, length}
use Rattle.std.proofs.Common.{arith, ap, ◌∙◌, length-append, le-leb}
use Rattle.std.proofs.lemmas.Bool.{lt-leb}
use Rattle.spec.specs.Step.{Image, Step}
use Rattle.spec.specs.Basics.{concat}
use Rattle.spec.specs.Answers.{finished}
use Rattle.flash.specs.declared.Meter.{Meter}
use Rattle.flash.specs.Did.{did_none}
use Rattle.flash.specs.Began.{Began, began_did, began_both, began_cut}
use Rattle.flash.specs.Meters.{Enough, UsedUp}

pub record Moves (s : Image) (m : Meter) (ms : List (List Step)) (t : Image) (n : ℕ) (r : Meter) : Type 0 where
  pub begun : Began s m (concat ms) t r
  pub count : n ≡ finished m.allowance m.asked ms

pub moves_none : (s : Image) (m : Meter) → Moves s m [] s 0 m
moves_none s m = record { begun = began_did (did_none s m); count = refl }

module _ {s t : Image} {m r : Meter} {a : List Step} (ms : List (List Step)) (w : Began s m a t r) where
  -- one that was cut
  pub moves_cut : UsedUp r → Moves s m (a ∷ ms) t 0 r
  moves_cut h = record { begun = began_cut w (concat ms) h; count = rw (lt-leb (m.asked + length a) m.allowance (w.cut h), finished) }

  -- one that was finished, and the others
  pub moves_more : {u : Image} {n : ℕ} {q : Meter} → Enough r → Moves t r ms u n q → Moves s m (a ∷ ms) u (suc n) q
  moves_more h v =
      record {
        begun = began_both w h v.begun;
        count =
            rw (le-leb (m.asked + length a) m.allowance (omega (arith, w.whole h, w.same)), finished)
            (ap suc (v.count ∙ rw (w.whole h, w.same)));
      }

-- all are finished where the allowance is enough
pub finished_all : (k n : ℕ) (ms : List (List Step)) → n + length (concat ms) ≤ k → finished k n ms ≡ length ms
finished_all k n [] h = refl
finished_all k n (a ∷ ms) h =
    let l : n + length a + length (concat ms) ≤ k = omega (arith, length-append a (concat ms)) in
    rw (le-leb (n + length a) k (omega arith), finished) (ap suc (finished_all k (n + length a) ms l))
