-- The search for the first image that mount would refuse, turn by turn.
use Rattle.std.specs.Prelude.{Result, ⊤, is_err, ℕ, suc, ◌+◌, ◌≤◌, ◌<◌, ◌≡◌, refl, List, length, drop, get_or, eqb, Err, Ok}
use Rattle.std.proofs.Math.Numerals.{add-one}
use Rattle.std.proofs.Common.{sym, ap, ◌∙◌, drop_of_length-le}
use Rattle.std.proofs.Math.Path.{ap₂}
use Rattle.std.proofs.Math.Bool.{true, false, ◌&&◌}
use borrow.Author.Tests.{eq-eqb, ne_eqb}
use Rattle.spec.specs.Refusals.{refusal_numbers}
use Rattle.spec.specs.declared.Refusal.{Refusal}
use Rattle.spec.specs.Step.{Image}
use Rattle.spec.specs.Basics.{Answer}
use Rattle.spec.specs.Geometry.{good_length}
use Rattle.spec.specs.Chain.{Reading}
use Rattle.spec.specs.Door.{accepted}
use Rattle.spec.specs.Answers.{mount_of, mount_plan}
use Rattle.spec.specs.Basics.{onward}
use Rattle.spec.specs.Trace.{fault, is_refused, mount_refuses, Refusing, refusing, equal_lengths, replayable, watch_on, watch_trace}
use Rattle.laws.specs.Tests.{wrong}
use Rattle.laws.specs.Parts.{drop_next}
use Rattle.reading.specs.Answers.{Judgement}
use Rattle.reading.specs.Read.{judged_as}
use Rattle.window.specs.Handed.{slices}
use Rattle.replay.specs.Entry.{carried, carried_on, carried_not}
use Rattle.replay.specs.Told.{checked_told, stopped}
use Rattle.replay.specs.declared.Stop.{Stop}
use Rattle.replay.specs.declared.Refusing.{Refusing as Answered}

abbrev pub found : Result Answered Refusal → Image → Refusing
found (Ok r) image = refusing 0 r.there r.count image
found (Err x) image = refusing (refusal_numbers x).number false 0 image

-- ---- what mount would say: its door decides

by_door : (image : Image) (r : Judgement) → is_refused (onward (judged_as image r) (mount_of image)) ≡ is_err r
by_door image (Ok j) = refl
by_door image (Err x) = refl

pub refuses_by : (image : Image) (r : Judgement) → judged_as image r ≡ accepted image → mount_refuses image ≡ is_err r
unfolding mount_plan
refuses_by image r e = ap (λ (a : Answer Reading). is_refused (onward a (mount_of image))) (sym e) ∙ by_door image r

-- ---- the trace from its entry i on

abbrev pub watch_from : ℕ → Image → List ℕ → List ℕ → List ℕ → Refusing
watch_from i image ks xs bs = watch_on i image (drop i ks) (drop i xs) (drop i bs)

module _ (i : ℕ) (image : Image) (ks xs bs : List ℕ) where
  module _ (k : i < length ks) (x : i < length xs) (b : i < length bs) where
    abbrev which : ℕ
    which = fault image (get_or ks i 0) (get_or xs i 0) (get_or bs i 0)

    -- mount would refuse the image
    pub watch_refused : mount_refuses image ≡ true → watch_from i image ks xs bs ≡ refusing 0 true i image
    unfolding watch_on
    watch_refused e = rw (drop_next ks i k, drop_next xs i x, drop_next bs i b, watch_on, e)

    module _ (calm : mount_refuses image ≡ false) (left : Image)
        (l : left ≡ carried image (get_or ks i 0) (get_or xs i 0) (get_or bs i 0)) where
      -- it would not, and the entry is carried out
      pub watch_next : 0 ≡ which → watch_from i image ks xs bs ≡ watch_from (i + 1) left ks xs bs
      unfolding watch_on
      watch_next e =
          rw (drop_next ks i k, drop_next xs i x, drop_next bs i b, watch_on, calm, eq-eqb which 0 (sym e), add-one i, l)
          (ap (λ (n : Image). watch_on (suc i) n (drop (suc i) ks) (drop (suc i) xs) (drop (suc i) bs))
          (sym (carried_on image (get_or ks i 0) (get_or xs i 0) (get_or bs i 0) (sym e))))

      -- or stops it
      pub watch_stop : (r : Result ⊤ Stop) → checked_told r ≡ which → is_err r ≡ true
          → refusing 0 false i left ≡ watch_from i image ks xs bs
      unfolding watch_on
      watch_stop (Ok u) e z = wrong z
      watch_stop (Err s) e z =
          let n : which ≡ 0 → ⊥ = λ q. stopped s (e ∙ q) in
          ap (refusing 0 false i) (l ∙ carried_not image (get_or ks i 0) (get_or xs i 0) (get_or bs i 0) n)
          ∙ rw (drop_next ks i k, drop_next xs i x, drop_next bs i b, watch_on, calm, ne_eqb which 0 n)

  -- the end
  pub watch_end : length ks ≤ i → watch_from i image ks xs bs ≡ refusing 0 (mount_refuses image) i image
  unfolding watch_on
  watch_end e = rw (drop_of_length-le ks e)

-- ---- whether it is refused

module _ (image : Image) (ks xs bs : List ℕ) where
  pub watch_begun : good_length (length image) ≡ true → (eqb (length ks) (length xs) && eqb (length xs) (length bs)) ≡ true
      → watch_trace image (slices ks xs bs) ≡ watch_on 0 image ks xs bs
  unfolding watch_trace replayable equal_lengths
  watch_begun g e = let can : replayable image (slices ks xs bs) ≡ true = ap₂ ◌&&◌ g e in rw (watch_trace, can)

  pub watch_short : good_length (length image) ≡ false → watch_trace image (slices ks xs bs) ≡ refusing 22 false 0 image
  unfolding watch_trace replayable
  watch_short g = rw (watch_trace, replayable, g)

  pub watch_unequal : good_length (length image) ≡ true → (eqb (length ks) (length xs) && eqb (length xs) (length bs)) ≡ false
      → watch_trace image (slices ks xs bs) ≡ refusing 22 false 0 image
  unfolding watch_trace replayable equal_lengths
  watch_unequal g e = let can : replayable image (slices ks xs bs) ≡ false = ap₂ ◌&&◌ g e in rw (watch_trace, can)
