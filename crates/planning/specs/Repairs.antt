-- The four repairs, each as its steps and the head it leaves, of the image and the reading that it meets.
use Rattle.std.specs.Prelude.{ℕ, ◌+◌, ◌≡◌, Bool}
use Rattle.std.proofs.Math.Path.{refl}
use Rattle.std.proofs.Math.Bool.{true, false}
use mathlib.Core.List.{List, [], ◌∷◌, ◌++◌}
use Rattle.spec.specs.Step.{Image, Step, program}
use Rattle.spec.specs.Bytes.{is_start, is_clean}
use Rattle.spec.specs.Record.{Entry}
use Rattle.spec.specs.Chain.{Reading}
use Rattle.spec.specs.Reading.{head_clean}
use Rattle.spec.specs.Move.{Work, after, start_steps, close_steps}
use Rattle.spec.specs.Mount.{erase_steps, head_low, repair_1, repair_2, last_steps, torn_wrap_steps, repair_3, drop_steps, repair_4}

-- ---- the steps of each, as far as they are no list of the definition

-- 1
unfoldable pub steps_1 : Image → Reading → List Step
steps_1 image r =
    elim (head_clean r.entries) [
      | true ↦ erase_steps image r.place ++ start_steps r.place.head (head_low r.entries)
      | false ↦ []
    ]

-- 2, of the first record x and the second y
unfoldable pub pair_steps : ℕ → Entry → Entry → List Step
pair_steps N x y =
    elim (is_clean y.it.low) [
      | true ↦ close_steps N x y y.it.low
      | false ↦ elim (is_start y.it.low) [ true ↦ program (x.at + 1) 0x00 ∷ [] | false ↦ [] ]
    ]

unfoldable pub pair_head : ℕ → Entry → ℕ
pair_head h y = elim (is_clean y.it.low) [ true ↦ y.at | false ↦ elim (is_start y.it.low) [ true ↦ y.at | false ↦ h ] ]

abbrev pub steps_2 : ℕ → List Entry → List Step
steps_2 N [] = []
steps_2 N (x ∷ []) = []
steps_2 N (x ∷ (y ∷ es)) = pair_steps N x y

abbrev pub head_2 : ℕ → List Entry → ℕ
head_2 h [] = h
head_2 h (x ∷ []) = h
head_2 h (x ∷ (y ∷ es)) = pair_head h y

-- 3
abbrev pub steps_3 : Image → Reading → List Step
steps_3 image r = last_steps image r.entries ++ torn_wrap_steps r.ending

-- ---- they are the definition's

pub repair_1_is : (w : Work) → repair_1 w ≡ after w (steps_1 w.image w.reading) w.reading.place.head
unfolding repair_1 steps_1 after
repair_1_is w = go _ refl where
  go : (t : Bool) → head_clean w.reading.entries ≡ t → repair_1 w ≡ after w (steps_1 w.image w.reading) w.reading.place.head
  go true e = rw (repair_1, steps_1, e)
  go false e = rw (repair_1, steps_1, e)

module _ (w : Work) (h : ℕ) where
  pair_is : (x y : Entry) (es : List Entry) (t u : Bool) → is_clean y.it.low ≡ t → is_start y.it.low ≡ u
      → repair_2 w (x ∷ (y ∷ es)) ≡ after w (pair_steps w.reading.place.length x y) (pair_head h y)
  unfolding repair_2 pair_steps pair_head after
  pair_is x y es true u e f = rw (repair_2, pair_steps, pair_head, e)
  pair_is x y es false true e f = rw (repair_2, pair_steps, pair_head, e, f)
  pair_is x y es false false e f = rw (repair_2, pair_steps, pair_head, e, f)

  pub repair_2_is : (es : List Entry) → repair_2 w es ≡ after w (steps_2 w.reading.place.length es) (head_2 h es)
  unfolding repair_2 after
  repair_2_is [] = refl
  repair_2_is (x ∷ []) = refl
  repair_2_is (x ∷ (y ∷ es)) = pair_is x y es _ _ refl refl

pub repair_3_is : (w : Work) → repair_3 w ≡ after w (steps_3 w.image w.reading) w.reading.place.head
unfolding repair_3
repair_3_is w = refl

pub repair_4_is : (w : Work) → repair_4 w ≡ after w (drop_steps w.reading.entries) w.reading.place.head
unfolding repair_4
repair_4_is w = refl
