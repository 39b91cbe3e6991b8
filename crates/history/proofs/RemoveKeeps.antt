-- A remove likewise: its one step done, not done, or cut inside.
use Rattle.std.specs.Prelude.{ℕ, zero, suc, ◌+◌, ◌≡◌, refl, Bool, true, false, ◌&&◌, ◌||◌, not, List, [], ◌∷◌, drop, set, get_or, length, eqb}
use Rattle.std.proofs.Common.{arith, sym, ap, ◌∙◌, subst, get_or-set_same}
use Rattle.std.proofs.Math.Seq.{drop-nil}
use Rattle.spec.specs.Refusals.{RefusalNumbers}
use Rattle.spec.specs.Step.{Image, Step, program}
use Rattle.spec.specs.Basics.{Answer, refuse, give}
use Rattle.spec.specs.Bytes.{is_committed, is_migrating}
use Rattle.spec.specs.Record.{Entry}
use Rattle.spec.specs.Write.{status_step}
use Rattle.spec.specs.Answers.{Plan, removing, carry_out, cut, file_plan, remove_plan}
use Rattle.spec.specs.Numbers.{Numbers, Outcome, refusal, of_write}
use Rattle.spec.specs.History.{Request, steps_of, between, partly, next_byte, Ledger, without, remove_done, fed}
use Rattle.spec.specs.Demand.{StepsSound}
use Rattle.history.specs.Between.{Between, between_is}
use Rattle.history.specs.Kinds.{Inv}
use Rattle.history.specs.Sweeps.{Removes, remove_step}
use Rattle.history.specs.Induction.{left, Keeps, carried_done, carried_cut}
use Rattle.history.proofs.Calls.{Finds, find_no, find_yes, finds_of}
use Rattle.history.specs.Partly.{partly_by, partly_none}

removed : (im : Image) (n : List ℕ) (m : Numbers) (w : ℕ) (l : Ledger) → remove_done m w ≡ true → fed im (Request.remove n) m w l ≡ without n l
unfolding fed
removed im n m w l e = rw (e, fed)

not_removed : (im : Image) (n : List ℕ) (m : Numbers) (w : ℕ) (l : Ledger) → remove_done m w ≡ false → fed im (Request.remove n) m w l ≡ l
unfolding fed
not_removed im n m w l e = rw (e, fed)

refused_not : (m : RefusalNumbers) (w : ℕ) → eqb m.number 0 ≡ false → eqb m.number 4 ≡ false → remove_done (refusal m) w ≡ false
unfolding remove_done
refused_not m w e f = rw (f, remove_done) e

whole_done : (ss : List Step) (w : ℕ) → remove_done (of_write 0 (length ss)) w ≡ true
unfolding remove_done
whole_done ss w = refl

-- a cut remove: done at anything but FC and F8
cut_done : (p : Plan) (w : ℕ) (b : Bool) → (is_committed w || is_migrating w) ≡ b → remove_done (cut 0 p) w ≡ not b
unfolding remove_done
cut_done p w b e = go (is_committed w) (is_migrating w) e
  where
    go : (x y : Bool) → (x || y) ≡ b → (not x && not y) ≡ not b
    go true y e = ap not e
    go false y e = ap not e

remove_refused : (im : Image) (l : Ledger) (n : List ℕ) (k v : ℕ) (m : RefusalNumbers) → Inv l im → eqb m.number 0 ≡ false
    → eqb m.number 4 ≡ false
    → Keeps Inv im l (Request.remove n) k v (refuse m)
unfolding carry_out
remove_refused im l n k v m i e f =
    let s : left im k v (refuse m) ≡ im = ap (λ (x : List Step). partly v x im) (drop-nil k) ∙ partly_none v im in
    subst (λ (x : Ledger). Inv x (left im k v (refuse m))) (sym (not_removed im n (refusal m) _ l (refused_not m _ e f)))
    (subst (Inv l) (sym s) i)

-- one step: with no allowance it is cut inside
remove_given : (im : Image) (l : Ledger) (n : List ℕ) (k v : ℕ) (e : Entry) → Inv l im → Removes l im n (e.at + 2)
    → Keeps Inv im l (Request.remove n) k v (give (removing e))
remove_given im l n zero v e i r =
    subst (λ (o : Outcome). Inv (fed im (Request.remove n) o.numbers (get_or (partly v ss o.image) a 0) l) (partly v ss o.image))
    (sym (carried_cut im 0 (removing e) (omega arith))) (go (between (get_or im a 0) 0 v) refl)
  where
    a : ℕ
    a = e.at + 2

    ss : List Step
    ss = program a 0 ∷ []

    Fits : Image → Type 0
    Fits im' = Inv (fed im (Request.remove n) (cut 0 (removing e)) (get_or im' a 0) l) im'

    stays : (im' : Image) → (is_committed (get_or im' a 0) || is_migrating (get_or im' a 0)) ≡ true → Inv l im' → Fits im'
    stays im' h j =
        subst (λ (x : Ledger). Inv x im') (sym (not_removed im n (cut 0 (removing e)) (get_or im' a 0) l (cut_done (removing e) (get_or im' a 0) true h))) j

    goes : (im' : Image) → (is_committed (get_or im' a 0) || is_migrating (get_or im' a 0)) ≡ false → Inv (without n l) im' → Fits im'
    goes im' h j =
        subst (λ (x : Ledger). Inv x im') (sym (removed im n (cut 0 (removing e)) (get_or im' a 0) l (cut_done (removing e) (get_or im' a 0) false h))) j

    byte : get_or (set im a v) a 0 ≡ v
    byte = get_or-set_same im a v 0 r.sound.0

    test : (z : Between (get_or im a 0) 0 v) (b : Bool) → (is_committed v || is_migrating v) ≡ b → Fits (set im a v)
    test z true h = stays (set im a v) (ap (λ (x : ℕ). is_committed x || is_migrating x) byte ∙ h) (r.inside v z h)
    test z false h = goes (set im a v) (ap (λ (x : ℕ). is_committed x || is_migrating x) byte ∙ h) (r.gone v z h)

    go : (t : Bool) → between (get_or im a 0) 0 v ≡ t → Fits (partly v ss im)
    go false q = subst Fits (sym (partly_by v a 0 [] im false q)) (stays im r.found i)
    go true q =
        subst Fits (sym (partly_by v a 0 [] im true q)) (test (between_is (get_or im a 0) 0 v q) (is_committed v || is_migrating v) refl)
remove_given im l n (suc k) v e i r =
    let left_is : partly v (drop k []) (set im (e.at + 2) 0) ≡ set im (e.at + 2) 0 =
    ap (λ (x : List Step). partly v x (set im (e.at + 2) 0)) (drop-nil k) ∙ partly_none v (set im (e.at + 2) 0) in
    subst (λ (o : Outcome). Inv (fed im (Request.remove n) o.numbers (next_byte (drop k []) (partly v (drop k []) o.image)) l)
    (partly v (drop k []) o.image)) (sym (carried_done im (suc k) (removing e) (omega arith)))
    (subst (λ (x : Ledger). Inv x (partly v (drop k []) (set im (e.at + 2) 0)))
    (sym (removed im n (of_write 0 1) _ l (whole_done (status_step e 0 ∷ []) _)))
    (subst (Inv (without n l)) (sym left_is) r.done))

remove_is : (n : List ℕ) (im : Image) → remove_plan n im ≡ file_plan n removing im
unfolding remove_plan
remove_is n im = refl

-- a remove keeps the invariant
pub remove_keeps : (im : Image) (l : Ledger) (n : List ℕ) (k v : ℕ) → Inv l im → Keeps Inv im l (Request.remove n) k v (remove_plan n im)
remove_keeps im l n k v i = subst (Keeps Inv im l (Request.remove n) k v) (sym (remove_is n im)) (go (finds_of l im n removing i))
  where
    go : Finds l im n removing → Keeps Inv im l (Request.remove n) k v (file_plan n removing im)
    go (find_no r) = subst (Keeps Inv im l (Request.remove n) k v) (sym r.is)
        (remove_refused im l n k v r.by i r.not_done r.not_cut)
    go (find_yes r x q f e) = subst (Keeps Inv im l (Request.remove n) k v) (sym e) (remove_given im l n k v x i (remove_step n x q f))

-- its step is sound
pub remove_sound : (im : Image) (l : Ledger) (n : List ℕ) → Inv l im → StepsSound im (steps_of (remove_plan n im))
remove_sound im l n i = subst (λ (p : Answer Plan). StepsSound im (steps_of p)) (sym (remove_is n im)) (go (finds_of l im n removing i))
  where
    go : Finds l im n removing → StepsSound im (steps_of (file_plan n removing im))
    go (find_no r) = subst (λ (p : Answer Plan). StepsSound im (steps_of p)) (sym r.is) tt
    go (find_yes r x q f e) = subst (λ (p : Answer Plan). StepsSound im (steps_of p)) (sym e) ((remove_step n x q f).sound, tt)
