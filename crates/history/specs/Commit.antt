-- The steps of a put, cut anywhere: before the commit the old files stand, from it on the new ones; inside it there are two values.
use Rattle.std.specs.Prelude.{ℕ, suc, ◌+◌, ◌-◌, ◌≤◌, ◌<◌, ◌≡◌, refl, Bool, true, false, List, ◌∷◌, ◌++◌, length, take, drop, set, get_or}
use Rattle.std.proofs.Common.{arith, sym, ap, ap₂, ◌∙◌, subst, append-nil, length-drop, get_or-set_same}
use Rattle.std.proofs.lemmas.List.{take-append-le, drop-append-le}
use Rattle.std.proofs.Math.Seq.{take-append-add, drop-append-add}
use Rattle.spec.specs.Step.{Image, Step, program, run}
use Rattle.spec.specs.Bytes.{is_committed}
use Rattle.spec.specs.History.{between, partly, Ledger}
use Rattle.spec.specs.Demand.{StepsSound}
use Rattle.laws.specs.Steps.{run_append, sound_append}
use Rattle.history.specs.Safe.{safe_here, safe_cut, safe_end, safe_sound}
use Rattle.history.specs.Between.{Between, between_is, one_bit}
use Rattle.history.specs.Kinds.{Inv}
use Rattle.history.specs.PutOld.{same_set}
use Rattle.history.specs.Puts.{Commits}
use Rattle.history.specs.Partly.{partly_append, partly_by}

-- inside the commit: the byte is FE still and the invariant holds of k, or it is FC and the invariant holds of l
pub data InsideCommit (k l : Ledger) (left : Image) (spot : ℕ) : Type 0 where
  not_yet : is_committed (get_or left spot 0) ≡ false → Inv k left → InsideCommit k l left spot
  all_done : is_committed (get_or left spot 0) ≡ true → Inv l left → InsideCommit k l left spot

is_fc : is_committed 0xFC ≡ true
unfolding is_committed
is_fc = refl

not_fc : is_committed 0xFE ≡ false
unfolding is_committed
not_fc = refl

-- steps that lead from ledger k to ledger l at the commit: they are sound, before it the invariant holds of k, from it on of l
module _ {k l : Ledger} {im : Image} {ss : List Step} {at h : ℕ} (c : Commits k l im ss at h) where
  abbrev cut_at : ℕ → ℕ → Image
  cut_at j v = partly v (drop j ss) (run im (take j ss))

  pub commits_sound : StepsSound im ss
  commits_sound =
      subst (StepsSound im) (sym c.is)
      (sound_append im c.before (program c.spot 0xFC ∷ c.behind) (safe_sound (Inv k) im c.before c.safe_before)
      (c.sound, safe_sound (Inv l) (set (run im c.before) c.spot 0xFC) c.behind c.safe_behind))

  pub commits_early : (j v : ℕ) → suc j < at → Inv k (cut_at j v)
  commits_early j v h =
      let B : List Step = c.before in
      let X : List Step = program c.spot 0xFC ∷ c.behind in
      let less : j < length B = omega (arith, c.place) in
      let t : take j ss ≡ take j B = ap (take j) c.is ∙ take-append-le j B X (omega arith) in
      let d : drop j ss ≡ drop j B ++ X = ap (drop j) c.is ∙ drop-append-le j B X (omega arith) in
      let n : 1 ≤ length (drop j B) = omega (arith, length-drop j B) in
      subst (Inv k) (sym (ap₂ (λ (x y : List Step). partly v x (run im y)) d t ∙ partly_append v (drop j B) X (run im (take j B)) n))
      (safe_cut (Inv k) im B c.safe_before j v)

  pub commits_late : (j v : ℕ) → at ≤ j → Inv l (cut_at j v)
  commits_late j v h =
      let B : List Step = c.before in
      let X : List Step = program c.spot 0xFC ∷ c.behind in
      let e : j ≡ length B + suc (j - at) = omega (arith, c.place) in
      let t : take j ss ≡ B ++ (program c.spot 0xFC ∷ take (j - at) c.behind) = ap₂ take e c.is ∙ take-append-add B X (suc (j - at)) in
      let d : drop j ss ≡ drop (j - at) c.behind = ap₂ drop e c.is ∙ drop-append-add B X (suc (j - at)) in
      subst (Inv l)
      (sym (ap₂ (λ (x y : List Step). partly v x (run im y)) d t
      ∙ ap (partly v (drop (j - at) c.behind)) (run_append im B (program c.spot 0xFC ∷ take (j - at) c.behind))))
      (safe_cut (Inv l) (set (run im B) c.spot 0xFC) c.behind c.safe_behind (j - at) v)

  pub commits_end : Inv l (run im ss)
  commits_end =
      subst (Inv l) (sym (ap (run im) c.is ∙ run_append im c.before (program c.spot 0xFC ∷ c.behind)))
      (safe_end (Inv l) (set (run im c.before) c.spot 0xFC) c.behind c.safe_behind)

  -- what is left at the commit, and what its byte then holds
  pub commit_left : (j : ℕ) → suc j ≡ at → drop j ss ≡ program c.spot 0xFC ∷ c.behind
  commit_left j h =
      ap₂ drop (let e : j ≡ length c.before + 0 = omega (arith, c.place) in e) c.is
      ∙ drop-append-add c.before (program c.spot 0xFC ∷ c.behind) 0

  pub commits_inside : (j v : ℕ) → suc j ≡ at → InsideCommit k l (cut_at j v) c.spot
  commits_inside j v h =
      subst (λ (i : Image). InsideCommit k l i c.spot) (sym (ap₂ (λ (x y : List Step). partly v x (run im y)) (commit_left j h) t))
      (go (between (get_or M c.spot 0) 0xFC v) refl)
    where
      M : Image
      M = run im c.before

      t : take j ss ≡ c.before
      t =
          ap₂ take (let e : j ≡ length c.before + 0 = omega (arith, c.place) in e) c.is
          ∙ take-append-add c.before (program c.spot 0xFC ∷ c.behind) 0 ∙ append-nil c.before

      here : Inv k M
      here = safe_end (Inv k) im c.before c.safe_before

      P : ℕ → Type 0
      P b = InsideCommit k l (set M c.spot b) c.spot

      byte : (b : ℕ) → get_or (set M c.spot b) c.spot 0 ≡ b
      byte b = get_or-set_same M c.spot b 0 c.sound.0

      go : (t : Bool) → between (get_or M c.spot 0) 0xFC v ≡ t → InsideCommit k l (partly v (program c.spot 0xFC ∷ c.behind) M) c.spot
      go false e =
          subst (λ (i : Image). InsideCommit k l i c.spot) (sym (partly_by v c.spot 0xFC c.behind M false e))
          (not_yet (ap is_committed c.finds ∙ not_fc) here)
      go true e =
          subst (λ (i : Image). InsideCommit k l i c.spot) (sym (partly_by v c.spot 0xFC c.behind M true e))
          (one_bit P 0xFE 0xFC refl (omega arith)
          (not_yet (ap is_committed (byte 0xFE) ∙ not_fc) (same_set (Inv k) M c.spot 0xFE c.finds here))
          (all_done (ap is_committed (byte 0xFC) ∙ is_fc) (safe_here (Inv l) (set M c.spot 0xFC) c.behind c.safe_behind))
          v (subst (λ (b : ℕ). Between b 0xFC v) c.finds (between_is (get_or M c.spot 0) 0xFC v e)))
