-- "A trace that K1 planned from step 0 on an accepted image replays to its end": whatever the windows are into which its steps were handed
-- out, the numbers of their slots, put together, are a trace that is carried out to its last entry, and leaves the direct call's image.
use Rattle.std.specs.Prelude.{ℕ, ◌+◌, ◌≤◌, ◌<◌, ◌≡◌, true, ◌&&◌, take, eqb}
use Rattle.std.proofs.Common.{arith, sym, ◌∙◌, subst, take_at, take_all, eq-eqb}
use Rattle.std.proofs.Math.Path.{refl, ap, ap₂}
use mathlib.Core.List.{List, [], ◌∷◌, ◌++◌, map, map-append}
use Rattle.std.proofs.Math.ListN.{length}
use Rattle.std.proofs.lemmas.List.{length-map}
use Rattle.std.proofs.Math.Seq.{take-length}
use Rattle.spec.specs.Step.{Image, Step, run}
use Rattle.spec.specs.Basics.{Answer, Each}
use Rattle.spec.specs.Geometry.{good_length}
use Rattle.spec.specs.Demand.{StepsSound}
use Rattle.spec.specs.Answers.{Plan}
use Rattle.spec.specs.History.{steps_of}
use Rattle.spec.specs.Planner.{Writing, plan_of, direct, planned_steps, kind_of, address_of, byte_of, Slices, shortest, window, Handing}
use Rattle.spec.specs.Planner.{hand_out, planned, in_turn, slots}
use Rattle.spec.specs.Trace.{replayed, replay_trace}
use Rattle.laws.specs.Planner.{windows_join, planned_as_done}
use Rattle.window.specs.Handed.{slices}
use Rattle.laws.specs.Steps.{sound_take}
use Rattle.replay.specs.Told.{trace_on}
use Rattle.replay.specs.Runs.{BytesIn, bytes_in, replays_on}
use Rattle.replay.specs.Mounts.{mount_sound}
use Rattle.replay.specs.Puts.{put_plan_sound, remove_plan_sound}
use Rattle.replay.specs.Sweeps.{sweep_plan_sound}

-- ---- the statement

-- the entries that a window got: the first slots of each slice
abbrev pub logged : Handing → Slices
logged h = slices (take h.handed h.slices.kinds) (take h.handed h.slices.addresses) (take h.handed h.slices.bytes)

-- one trace behind another
abbrev pub joined : Slices → Slices → Slices
joined s t = slices (s.kinds ++ t.kinds) (s.addresses ++ t.addresses) (s.bytes ++ t.bytes)

-- window after window, each from the step on with which the one before it ended, all planned from one image
unfoldable pub log_in_turn : Writing → Image → ℕ → List Slices → Slices
log_in_turn c image first [] = slices [] [] []
log_in_turn c image first (s ∷ rest) =
    let h = planned c image first s in
    joined (logged h) (log_in_turn c image (first + h.handed) rest)

-- a put's content is bytes
abbrev pub BytesGiven : Writing → Type 0
BytesGiven (Writing.put name content) = Each (λ b. b < 256) content
BytesGiven (Writing.remove name) = Unit {0}
BytesGiven Writing.sweep = Unit {0}
BytesGiven Writing.mount = Unit {0}

-- on this image: the trace of the first steps, as many as the windows have slots, is carried out to its end, with no stop, and leaves what
-- the direct call leaves at as many steps; with slots enough these are all its steps
pub record ReplaysPlanned (c : Writing) (image : Image) : Type 0 where
  pub ends : (ws : List Slices) → let n = length (take (slots ws) (planned_steps c image)) in
      replay_trace image (log_in_turn c image 0 ws) ≡ replayed 0 n 0 (direct c image n).image
  pub whole : (ws : List Slices) → length (planned_steps c image) ≤ slots ws → let n = length (planned_steps c image) in
      replay_trace image (log_in_turn c image 0 ws) ≡ replayed 0 n 0 (direct c image n).image

-- ---- what windows put together hold

abbrev columns : List Step → Slices
columns ss = slices (map kind_of ss) (map address_of ss) (map byte_of ss)

columns_join : (ss ts : List Step) → joined (columns ss) (columns ts) ≡ columns (ss ++ ts)
columns_join ss ts =
    ap₂ (λ (ks xs : List ℕ). slices ks xs (map byte_of ss ++ map byte_of ts)) (sym (map-append kind_of ss ts))
    (sym (map-append address_of ss ts))
    ∙ ap (slices (map kind_of (ss ++ ts)) (map address_of (ss ++ ts))) (sym (map-append byte_of ss ts))

column_back : (f : Step → ℕ) (ss : List Step) (old : List ℕ) → take (length ss) (map f ss ++ old) ≡ map f ss
column_back f ss old = take_at (map f ss) old (length ss) (length-map ss f)

logged_window : (a : Answer Plan) (first : ℕ) (s : Slices) → logged (hand_out a first s) ≡ columns (window first (shortest s) (steps_of a))
unfolding hand_out
logged_window a first s =
    let ss : List Step = window first (shortest s) (steps_of a) in
    ap₂ (λ (ks xs : List ℕ). slices ks xs (logged (hand_out a first s)).bytes) (column_back kind_of ss _) (column_back address_of ss _)
    ∙ ap (slices (map kind_of ss) (map address_of ss)) (column_back byte_of ss _)

handed_count : (a : Answer Plan) (first : ℕ) (s : Slices) → (hand_out a first s).handed ≡ length (window first (shortest s) (steps_of a))
unfolding hand_out
handed_count a first s = refl

module _ (c : Writing) (image : Image) where
  log_windows : (first : ℕ) (ws : List Slices) → log_in_turn c image first ws ≡ columns (window first (slots ws) (planned_steps c image))
  unfolding log_in_turn
  log_windows first [] = refl
  log_windows first (s ∷ rest) =
      let ss = planned_steps c image in
      let h = planned c image first s in
      ap₂ joined (logged_window (plan_of c image) first s)
      (log_windows (first + h.handed) rest
      ∙ ap (λ (i : ℕ). columns (window (first + i) (slots rest) ss)) (handed_count (plan_of c image) first s))
      ∙ columns_join (window first (shortest s) ss) (window (first + length (window first (shortest s) ss)) (slots rest) ss)
      ∙ ap columns (windows_join first (shortest s) (slots rest) ss)

-- ---- the theorem

pub planned_sound : (c : Writing) (image : Image) → BytesIn image → BytesGiven c → StepsSound image (planned_steps c image)
planned_sound (Writing.put name content) image bs h = put_plan_sound image name content h
planned_sound (Writing.remove name) image bs h = remove_plan_sound image name
planned_sound Writing.sweep image bs h = sweep_plan_sound image bs
planned_sound Writing.mount image bs h = mount_sound image bs

-- on every image of bytes with a good length, so on every accepted one; where the call is refused, nothing is handed out
pub replays_planned : (c : Writing) (image : Image) → good_length (length image) ≡ true → Each (λ b. b < 256) image → BytesGiven c
    → ReplaysPlanned c image
replays_planned c image g bs h = record { ends = ends; whole = whole } where
  w : BytesIn image
  w = bytes_in image bs

  ends : (ws : List Slices) → let n = length (take (slots ws) (planned_steps c image)) in
      replay_trace image (log_in_turn c image 0 ws) ≡ replayed 0 n 0 (direct c image n).image
  ends ws =
      let all : List Step = planned_steps c image in
      let ss : List Step = take (slots ws) all in
      let n : ℕ = length ss in
      let d = planned_as_done c image in
      let turn : in_turn c image 0 ws ≡ ss = d.together ws in
      let left : run image ss ≡ (direct c image n).image =
      ap (run image) (sym (take-length ss)) ∙ ap (λ (l : List Step). run image (take n l)) (sym turn)
      ∙ d.images ws n (subst (λ (l : List Step). n ≤ length l) (sym turn) (let z : n ≤ n = omega arith in z)) in
      ap (replay_trace image) (log_windows c image 0 ws)
      ∙ trace_on image (map kind_of ss) (map address_of ss) (map byte_of ss) g (equal ss)
      ∙ replays_on 0 image ss (sound_take (slots ws) image all (planned_sound c image w h)) w
      ∙ ap₂ (λ (k : ℕ) (i : Image). replayed 0 k 0 i) (let z : 0 + n ≡ n = omega arith in z) left where
        equal : (ss : List Step) → (eqb (length (map kind_of ss)) (length (map address_of ss))
            && eqb (length (map address_of ss)) (length (map byte_of ss))) ≡ true
        equal ss =
            ap₂ ◌&&◌ (eq-eqb _ _ (length-map ss kind_of ∙ sym (length-map ss address_of)))
            (eq-eqb _ _ (length-map ss address_of ∙ sym (length-map ss byte_of)))

  whole : (ws : List Slices) → length (planned_steps c image) ≤ slots ws → let n = length (planned_steps c image) in
      replay_trace image (log_in_turn c image 0 ws) ≡ replayed 0 n 0 (direct c image n).image
  whole ws l =
      ends ws ∙ ap (λ (ss : List Step). replayed 0 (length ss) 0 (direct c image (length ss)).image)
      (take_all (slots ws) (planned_steps c image) l)
