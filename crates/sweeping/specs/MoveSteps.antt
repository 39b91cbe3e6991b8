-- The definitions' moves: their steps and the head that each leaves, of the image that it meets.
use Rattle.std.specs.Prelude.{ℕ, ◌≡◌}
use Rattle.std.proofs.Math.Path.{refl, ap, ap₂}
use Rattle.std.proofs.Common.{sym, ◌∙◌}
use mathlib.Core.List.{List, [], ◌∷◌, ◌++◌, append-nil}
use Rattle.spec.specs.Step.{Image, Step, run}
use Rattle.spec.specs.Record.{Entry}
use Rattle.spec.specs.Chain.{Reading, reading_from}
use Rattle.spec.specs.Move.{Work, begin, reread, after, copy_steps, to_clean_step, close_steps, hand_over, moved_on, move}

-- (b) to (f), of the records of a chain; with no second record there is nothing to do
abbrev pub hand_steps : ℕ → List Entry → List Step
hand_steps N [] = []
hand_steps N (x ∷ []) = []
hand_steps N (x ∷ (y ∷ es)) = to_clean_step y ∷ close_steps N x y 0xA0

-- the head then, where it was h
abbrev pub hand_head : ℕ → List Entry → ℕ
hand_head h [] = h
hand_head h (x ∷ []) = h
hand_head h (x ∷ (y ∷ es)) = y.at

-- ---- each phase reads what the one before it left

module _ (w : Work) (h : ℕ) (e : w.reading ≡ reading_from w.image h) where
  after_on : (ss : List Step) → after w ss h ≡ reread w ss (run w.image ss) h
  unfolding after
  after_on [] = ap₂ (λ (r : Reading) (l : List Step). record { image = w.image; reading = r; steps = l }) e (sym (append-nil w.steps))
  after_on (s ∷ ss) = refl

  hand_on : (es : List Entry)
      → hand_over w es ≡ reread w (hand_steps w.reading.place.length es) (run w.image (hand_steps w.reading.place.length es))
      (hand_head h es)
  unfolding hand_over after
  hand_on [] = after_on []
  hand_on (x ∷ []) = after_on []
  hand_on (x ∷ (y ∷ es)) = refl

-- ---- the move of an image s, from the head h

module _ (s : Image) (h : ℕ) where
  -- (a)
  unfoldable pub copying : List Step
  copying = copy_steps (reading_from s h) (reading_from s h).entries

  -- (b) to (f)
  unfoldable pub handing : List Step
  handing = hand_steps (reading_from s h).place.length (reading_from s h).entries

  unfoldable pub heading : ℕ
  heading = hand_head h (reading_from s h).entries

module _ (s : Image) (h : ℕ) (at_head : (reading_from s h).place.head ≡ h) where
  pub move_is : move (begin s (reading_from s h))
      ≡ reread (begin s (reading_from s h)) (copying s h ++ handing (run s (copying s h)) h)
      (run (run s (copying s h)) (handing (run s (copying s h)) h)) (heading (run s (copying s h)) h)
  unfolding move copying handing heading
  move_is =
      let w : Work = begin s (reading_from s h) in
      let c : List Step = copy_steps (reading_from s h) (reading_from s h).entries in
      let v : Work = reread w c (run s c) h in
      ap (λ (i : ℕ). moved_on (after w c i)) at_head ∙ ap moved_on (after_on w h refl c) ∙ hand_on v h refl v.reading.entries
