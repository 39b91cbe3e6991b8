-- The count that the search gives is the least: mount would take the image after any fewer entries. Where there is none, the search went as
-- far as the replay does, and mount would take every image on the way.
use Prim.Native.Nat.{ℕ, zero, suc, ◌+◌, ◌<◌}
use Rattle.std.proofs.Common.{arith, sym, ◌∙◌}
use Rattle.std.specs.Prelude.{◌≡◌, refl, Bool, true, false, List, [], ◌∷◌}
use Rattle.std.proofs.Math.Path.{ap}
use Rattle.std.proofs.lemmas.Bool.{false≢true}
use Rattle.spec.specs.Step.{Image, apply}
use Rattle.spec.specs.Planner.{step_of}
use Rattle.spec.specs.Trace.{is_sound, Replayed, replay_on, mount_refuses, Refusing, refusing, watch_on}

-- the image after j entries, or at the stop if that comes before
unfoldable pub image_after : ℕ → Image → List ℕ → List ℕ → List ℕ → Image
image_after zero image ks xs bs = image
image_after (suc j) image [] xs bs = image
image_after (suc j) image (k ∷ ks) [] bs = image
image_after (suc j) image (k ∷ ks) (a ∷ xs) [] = image
image_after (suc j) image (k ∷ ks) (a ∷ xs) (b ∷ bs) =
    elim (is_sound image k a b) [ true ↦ image_after j (apply image (step_of k a b)) ks xs bs | false ↦ image ]

-- of the search r that began behind n entries and went over m of these
pub record Least (n : ℕ) (image : Image) (ks xs bs : List ℕ) (r : Refusing) : Type 0 where
  pub m : ℕ
  pub count : r.count ≡ n + m
  pub left : r.image ≡ image_after m image ks xs bs
  pub at : r.there ≡ mount_refuses r.image
  pub before : (j : ℕ) → j < m → mount_refuses (image_after j image ks xs bs) ≡ false
  pub none : r.there ≡ false → ((replay_on n image ks xs bs).position ≡ r.count) × ((replay_on n image ks xs bs).image ≡ r.image)

-- it ends at once
ended : (n : ℕ) (image : Image) (ks xs bs : List ℕ) (t : Bool) → t ≡ mount_refuses image
    → (t ≡ false → ((replay_on n image ks xs bs).position ≡ n) × ((replay_on n image ks xs bs).image ≡ image))
    → Least n image ks xs bs (refusing 0 t n image)
unfolding image_after
ended n image ks xs bs t e f =
    record { m = 0; count = let z : n ≡ n + 0 = omega arith in z; left = refl; at = e; before = λ j l. absurd (omega arith); none = f }

-- the entry is carried out, and the search goes on
module _ (n : ℕ) (image : Image) (k a b : ℕ) (ks xs bs : List ℕ) (c : mount_refuses image ≡ false) (s : is_sound image k a b ≡ true)
    (r : Refusing) (ih : Least (suc n) (apply image (step_of k a b)) ks xs bs r) where
  step : (j : ℕ) → image_after (suc j) image (k ∷ ks) (a ∷ xs) (b ∷ bs) ≡ image_after j (apply image (step_of k a b)) ks xs bs
  unfolding image_after
  step j = rw (image_after, s)

  earlier : (j : ℕ) → j < suc ih.m → mount_refuses (image_after j image (k ∷ ks) (a ∷ xs) (b ∷ bs)) ≡ false
  unfolding image_after
  earlier zero l = c
  earlier (suc j) l = ap mount_refuses (step j) ∙ ih.before j (omega arith)

  replay_next : replay_on n image (k ∷ ks) (a ∷ xs) (b ∷ bs) ≡ replay_on (suc n) (apply image (step_of k a b)) ks xs bs
  unfolding replay_on
  replay_next = rw (replay_on, s)

  gone_on : Least n image (k ∷ ks) (a ∷ xs) (b ∷ bs) r
  gone_on =
      record {
        m = suc ih.m;
        count = ih.count ∙ (let z : suc n + ih.m ≡ n + suc ih.m = omega arith in z);
        left = ih.left ∙ sym (step ih.m);
        at = ih.at;
        before = earlier;
        none =
            λ q.
            let w = ih.none q in
            (ap (λ (x : Replayed). x.position) replay_next ∙ w.0, ap (λ (x : Replayed). x.image) replay_next ∙ w.1);
      }

pub least : (n : ℕ) (image : Image) (ks xs bs : List ℕ) → Least n image ks xs bs (watch_on n image ks xs bs)
unfolding watch_on replay_on
least n image [] xs bs = ended n image [] xs bs (mount_refuses image) refl (λ q. (refl, refl))
least n image (k ∷ ks) [] bs = ended n image (k ∷ ks) [] bs (mount_refuses image) refl (λ q. (refl, refl))
least n image (k ∷ ks) (a ∷ xs) [] = ended n image (k ∷ ks) (a ∷ xs) [] (mount_refuses image) refl (λ q. (refl, refl))
least n image (k ∷ ks) (a ∷ xs) (b ∷ bs) =
    go (mount_refuses image) refl (is_sound image k a b) refl (least (suc n) (apply image (step_of k a b)) ks xs bs) where
      go : (t : Bool) → mount_refuses image ≡ t → (u : Bool) → is_sound image k a b ≡ u
          → Least (suc n) (apply image (step_of k a b)) ks xs bs (watch_on (suc n) (apply image (step_of k a b)) ks xs bs)
          → Least n image (k ∷ ks) (a ∷ xs) (b ∷ bs) (watch_on n image (k ∷ ks) (a ∷ xs) (b ∷ bs))
      go true e u f ih =
          rw (watch_on, e) (ended n image (k ∷ ks) (a ∷ xs) (b ∷ bs) true (sym e) (λ q. absurd (false≢true (sym q))))
      go false e true f ih =
          rw (watch_on, e, f) (gone_on n image k a b ks xs bs e f (watch_on (suc n) (apply image (step_of k a b)) ks xs bs) ih)
      go false e false f ih =
          rw (watch_on, e, f) (ended n image (k ∷ ks) (a ∷ xs) (b ∷ bs) false (sym e) (λ q. rw (replay_on, f) (refl, refl)))
