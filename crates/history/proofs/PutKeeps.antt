-- A put, whatever it is given and wherever it is cut: the invariant holds of the ledger that it is fed.
use Rattle.std.specs.Prelude.{ℕ, suc, ◌+◌, ◌≤◌, ◌<◌, ◌≡◌, Bool, false, List, [], length, take, drop, eqb, leb}
use Rattle.std.proofs.Common.{arith, sym, ap, ◌∙◌, drop_of_length-le, leb-true, leb-false, le-leb, eqb-true, eq-eqb, ne_eqb}
use Rattle.std.proofs.Math.Path.{refl, subst}
use Rattle.std.proofs.Math.Bool.{true}
use Rattle.std.proofs.Math.Seq.{drop-nil}
use Rattle.std.proofs.lemmas.Bool.{lt-leb, eqb-false}
use Rattle.spec.specs.Refusals.{RefusalNumbers}
use Rattle.spec.specs.Step.{Image, Step, run}
use Rattle.spec.specs.Basics.{Answer, refuse, give}
use Rattle.spec.specs.Bytes.{is_committed}
use Rattle.spec.specs.Record.{size_of}
use Rattle.spec.specs.Chain.{Reading}
use Rattle.spec.specs.Files.{file_named}
use Rattle.spec.specs.Reading.{reading}
use Rattle.spec.specs.Place.{with_marker}
use Rattle.spec.specs.Write.{put_steps}
use Rattle.spec.specs.Answers.{Plan, carry_out, cut, put_plan}
use Rattle.spec.specs.declared.Space.{Space}
use Rattle.spec.specs.Space.{space_left, put_work}
use Rattle.spec.specs.Numbers.{Numbers, Outcome, refusal, of_put}
use Rattle.spec.specs.History.{Request, steps_of, partly, next_byte, Ledger, with_file, one_if_fc, three_if, commit_place, committed_at, put_done, fed}
use Rattle.spec.specs.Demand.{StepsSound}
use Rattle.history.specs.Kinds.{Inv, Bytes, Rested}
use Rattle.history.specs.OkLaws.{old_file, Old}
use Rattle.history.specs.Settled.{rested_reads}
use Rattle.history.specs.Puts.{Commits, put_commits}
use Rattle.history.specs.Induction.{left, Keeps, carried_done, carried_cut}
use Rattle.history.proofs.Calls.{Puts, put_no, put_yes, puts_of, room_fits}
use Rattle.history.specs.Partly.{partly_none}
use Rattle.history.specs.Commit.{InsideCommit, not_yet, all_done, commits_sound, commits_early, commits_late, commits_end, commit_left, commits_inside}

apart : (at k : ℕ) → k < at → (at ≡ suc k → ⊥) → suc k < at
apart at k h n = omega arith

-- what the ledger is fed
fed_yes : (im : Image) (n c : List ℕ) (m : Numbers) (w : ℕ) (l : Ledger) → put_done im n c m w ≡ true → fed im (Request.put n c) m w l ≡ with_file n c l
unfolding fed
fed_yes im n c m w l e = rw (e, fed)

fed_no : (im : Image) (n c : List ℕ) (m : Numbers) (w : ℕ) (l : Ledger) → put_done im n c m w ≡ false → fed im (Request.put n c) m w l ≡ l
unfolding fed
fed_no im n c m w l e = rw (e, fed)

done_refused : (im : Image) (n c : List ℕ) (m : RefusalNumbers) (w : ℕ) → eqb m.number 0 ≡ false → eqb m.number 4 ≡ false
    → put_done im n c (refusal m) w ≡ false
unfolding put_done
done_refused im n c m w e f = rw (f, put_done) e

done_whole : (im : Image) (n c : List ℕ) (x : Space) (ss : List Step) (w : ℕ) → put_done im n c (of_put 0 x (length ss)) w ≡ true
unfolding put_done
done_whole im n c x ss w = refl

done_cut : (im : Image) (n c : List ℕ) (k : ℕ) (p : Plan) (w : ℕ) → put_done im n c (cut k p) w ≡ committed_at (commit_place n c (reading im)) k w
unfolding put_done
done_cut im n c k p w = refl

-- the commit's place and the steps used
at_late : (at k w : ℕ) → at ≤ k → committed_at at k w ≡ true
unfolding committed_at
at_late at k w h = rw (le-leb at k h)

at_inside : (at k w : ℕ) → suc k ≡ at → committed_at at k w ≡ is_committed w
unfolding committed_at
at_inside at k w h = rw (lt-leb at k (omega arith), eq-eqb at (suc k) (sym h))

at_early : (at k w : ℕ) → suc k < at → committed_at at k w ≡ false
unfolding committed_at
at_early at k w h = rw (lt-leb at k (omega arith), ne_eqb at (suc k) (λ e. omega arith))

put_refused : (im : Image) (l : Ledger) (n c : List ℕ) (k v : ℕ) (m : RefusalNumbers) → Inv l im → eqb m.number 0 ≡ false
    → eqb m.number 4 ≡ false
    → Keeps Inv im l (Request.put n c) k v (refuse m)
unfolding carry_out
put_refused im l n c k v m i e f =
    let s : left im k v (refuse m) ≡ im = ap (λ (x : List Step). partly v x im) (drop-nil k) ∙ partly_none v im in
    subst (λ (x : Ledger). Inv x (left im k v (refuse m))) (sym (fed_no im n c (refusal m) _ l (done_refused im n c m _ e f)))
    (subst (Inv l) (sym s) i)

module _ (im : Image) (l : Ledger) (n c : List ℕ) (k v : ℕ) (space : Space) (ss : List Step) (at : ℕ) {h : ℕ}
    (place : commit_place n c (reading im) ≡ at) (m : Commits l (with_file n c l) im ss at h) where
  abbrev P : Plan
  P = record { steps = ss; moves = []; done = of_put 0 space (length ss) }

  -- an outcome with these numbers and this image
  abbrev Fits : Outcome → Type 0
  Fits o =
      Inv (fed im (Request.put n c) o.numbers (next_byte (drop k ss) (partly v (drop k ss) o.image)) l) (partly v (drop k ss) o.image)

  now : Image
  now = partly v (drop k ss) (run im (take k ss))

  byte : ℕ
  unfolding now
  byte = next_byte (drop k ss) now

  told : (b : Bool) → committed_at at k byte ≡ b → put_done im n c (cut k P) byte ≡ b
  told b e = done_cut im n c k P byte ∙ ap (λ (x : ℕ). committed_at x k byte) place ∙ e

  cut_fits : Fits (record { numbers = cut k P; image = run im (take k ss) })
  unfolding now byte
  cut_fits = go (leb at k) (eqb at (suc k)) refl refl
    where
      yes : committed_at at k byte ≡ true → Inv (with_file n c l) now → Fits (record { numbers = cut k P; image = run im (take k ss) })
      yes e i = subst (λ (x : Ledger). Inv x now) (sym (fed_yes im n c (cut k P) byte l (told true e))) i

      no : committed_at at k byte ≡ false → Inv l now → Fits (record { numbers = cut k P; image = run im (take k ss) })
      no e i = subst (λ (x : Ledger). Inv x now) (sym (fed_no im n c (cut k P) byte l (told false e))) i

      inside : suc k ≡ at → InsideCommit l (with_file n c l) now m.spot → Fits (record { numbers = cut k P; image = run im (take k ss) })
      inside e (not_yet f i) = no (at_inside at k byte e ∙ ap is_committed (ap (λ (x : List Step). next_byte x now) (commit_left m k e)) ∙ f) i
      inside e (all_done f i) = yes (at_inside at k byte e ∙ ap is_committed (ap (λ (x : List Step). next_byte x now) (commit_left m k e)) ∙ f) i

      go : (a b : Bool) → leb at k ≡ a → eqb at (suc k) ≡ b → Fits (record { numbers = cut k P; image = run im (take k ss) })
      go true b e f = yes (at_late at k byte (leb-true at k e)) (commits_late m k v (leb-true at k e))
      go false true e f = let s : suc k ≡ at = sym (eqb-true at (suc k) f) in inside s (commits_inside m k v s)
      go false false e f =
          let less : suc k < at = apart at k (leb-false at k e) (eqb-false at (suc k) f) in
          no (at_early at k byte less) (commits_early m k v less)

  put_given : Keeps Inv im l (Request.put n c) k v (give P)
  put_given = go (leb (length ss) k) refl
    where
      go : (b : Bool) → leb (length ss) k ≡ b → Fits (carry_out im k (give P))
      go true e =
          let none : drop k ss ≡ [] = drop_of_length-le ss {i = k} (leb-true (length ss) k e) in
          subst Fits (sym (carried_done im k P (leb-true (length ss) k e)))
          (subst (λ (x : Ledger). Inv x (partly v (drop k ss) (run im ss)))
          (sym (fed_yes im n c (of_put 0 space (length ss)) _ l (done_whole im n c space ss _)))
          (subst (Inv (with_file n c l)) (sym (ap (λ (x : List Step). partly v x (run im ss)) none ∙ partly_none v (run im ss))) (commits_end m)))
      go false e = subst Fits (sym (carried_cut im k P (leb-false (length ss) k e))) cut_fits

-- the commit's place, on an image that is read as r
place_is : (im : Image) (r : Reading) (n c : List ℕ) → reading im ≡ give r →
    commit_place n c (reading im) ≡ length n + length c + 10 + one_if_fc (file_named n r.entries) + three_if
    (with_marker r.place (size_of (length n) (length c)))
unfolding commit_place
place_is im r n c e = ap (commit_place n c) e

rested_old : {l : Ledger} {im : Image} {r : Reading} (n : List ℕ) → Rested l im r → Old n r.entries (file_named n r.entries)
rested_old {l} {im} {r} n q = subst (λ (x : Reading). Old n x.entries (file_named n x.entries)) (sym q.is) (old_file n q.es l q.ok)

-- a put, whatever it is given: the invariant holds of the ledger that it is fed
pub put_keeps : (im : Image) (l : Ledger) (n c : List ℕ) (k v : ℕ) → Inv l im → Bytes c → Keeps Inv im l (Request.put n c) k v (put_plan n c im)
put_keeps im l n c k v i b = go (puts_of l im n c i)
  where
    go : Puts l im n c → Keeps Inv im l (Request.put n c) k v (put_plan n c im)
    go (put_no r) = subst (Keeps Inv im l (Request.put n c) k v) (sym r.is)
        (put_refused im l n c k v r.by i r.not_done r.not_cut)
    go (put_yes r q ok f e) =
        subst (Keeps Inv im l (Request.put n c) k v) (sym e)
        (put_given im l n c k v (space_left (put_work n c im r)) (put_steps r.place (file_named n r.entries) n c) _ (place_is im r n c (rested_reads q))
        (put_commits q (file_named n r.entries) n c (rested_old n q) ok b (room_fits r.place n _ r.entries f)))

-- its steps are sound
pub put_sound : (im : Image) (l : Ledger) (n c : List ℕ) → Inv l im → Bytes c → StepsSound im (steps_of (put_plan n c im))
put_sound im l n c i b = go (puts_of l im n c i)
  where
    go : Puts l im n c → StepsSound im (steps_of (put_plan n c im))
    go (put_no r) = subst (λ (p : Answer Plan). StepsSound im (steps_of p)) (sym r.is) tt
    go (put_yes r q ok f e) =
        subst (λ (p : Answer Plan). StepsSound im (steps_of p)) (sym e)
        (commits_sound (put_commits q (file_named n r.entries) n c (rested_old n q) ok b (room_fits r.place n _ r.entries f)))
