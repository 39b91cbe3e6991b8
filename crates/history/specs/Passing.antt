-- While records of the head's sector are ahead, a move is made, and passes one of them; so it goes for all moves of a sweep.
use Rattle.std.specs.Prelude.{ℕ, zero, suc, ◌-◌, ◌≤◌, min, pred, ◌≡◌, refl, Bool, true, false, List, [], ◌∷◌, ◌++◌, map, length}
use Rattle.std.proofs.Common.{arith, sym, ap, ◌∙◌, subst}
use Rattle.spec.specs.Step.{Image, Step, run}
use Rattle.spec.specs.Basics.{Each, concat}
use Rattle.spec.specs.Record.{Entry, size}
use Rattle.spec.specs.Chain.{Reading}
use Rattle.spec.specs.Files.{live}
use Rattle.spec.specs.Place.{fits, fits_all}
use Rattle.spec.specs.Move.{Work, begin, move}
use Rattle.spec.specs.Sweep.{no_room, at_end, stuck, moves}
use Rattle.spec.specs.History.{File, Ledger}
use Rattle.laws.specs.Lists.{keep_yes, keep_no}
use Rattle.laws.specs.Tests.{not_both}
use Rattle.history.specs.Store.{alive}
use Rattle.history.specs.Ledger.{as_file, Matches, perm_length, contents}
use Rattle.laws.specs.Steps.{run_append}
use Rattle.history.specs.Kinds.{Ok, Rested}
use Rattle.history.specs.Places.{fit_first}
use Rattle.history.specs.Sweeps.{Done, move_done}
use Rattle.laws.specs.Sweep.{end_live, end_two, stuck_room, room_live, room_dead, moves_stuck, moves_next}
use Rattle.history.specs.Ahead.{There, live_sizes, Ahead, none_ahead, rest_ok, dead_ahead, live_ahead}

-- ---- a move is made, and passes one

some_there : {l : Ledger} {f : File} (x : Entry) → alive x ≡ false → Matches (x ∷ []) (f ∷ l) → ⊥
some_there x a m =
    let n : length (contents (x ∷ [])) ≡ 0 = ap (λ (es : List Entry). length (map as_file es)) (keep_no alive x [] a) in
    omega (arith, perm_length m)

module _ {l : Ledger} {f : File} {im : Image} {r : Reading} (q : Rested (f ∷ l) im r) where
  read_is : r.entries ≡ q.es
  read_is = ap (λ (y : Reading). y.entries) q.is

  -- what the first record needs: the live ones that follow fit after it
  on_first : (x : Entry) (es : List Entry) → q.es ≡ x ∷ es → (alive x ≡ true → fits r.place (size x) ≡ true)
      → (at_end r.entries ≡ false) × (no_room r r.entries ≡ false)
  on_first x es i g = subst (λ (fs : List Entry). (at_end fs ≡ false) × (no_room r fs ≡ false)) (sym (read_is ∙ i)) (go es i (alive x) refl)
    where
      go : (es : List Entry) → q.es ≡ x ∷ es → (b : Bool) → alive x ≡ b → (at_end (x ∷ es) ≡ false) × (no_room r (x ∷ es) ≡ false)
      go es i true a =
          let e : live (x ∷ es) x ≡ true = rest_ok x es (subst (λ (fs : List Entry). Ok fs (f ∷ l)) i q.ok) ∙ a in
          (end_live x es e, room_live r x es true e (g a))
      go [] i false a = absurd (some_there x a (subst (λ (fs : List Entry). Matches fs (f ∷ l)) i q.ok.matches))
      go (y ∷ es) i false a =
          (end_two x y es, room_dead r x (y ∷ es) (rest_ok x (y ∷ es) (subst (λ (fs : List Entry). Ok fs (f ∷ l)) i q.ok) ∙ a))

  first_room : (x : Entry) (es : List Entry) → fits_all r.place (live_sizes (x ∷ es)) ≡ true
      → alive x ≡ true → fits r.place (size x) ≡ true
  first_room x es g a =
      fit_first r.place (size x) (live_sizes es)
      (sym (ap (λ (fs : List Entry). fits_all r.place (map size fs)) (keep_yes alive x es a)) ∙ g)

  -- with a record ahead, the sweep has a move to make
  pub goes_on : {j : ℕ} → Ahead (suc j) r → (at_end r.entries ≡ false) × (no_room r r.entries ≡ false)
  goes_on {j} h = go h.front h.is h.count h.room
    where
      go : (front : List Entry) → r.entries ≡ front ++ h.rest → length front ≡ suc j → fits_all r.place (live_sizes front) ≡ true
          → (at_end r.entries ≡ false) × (no_room r r.entries ≡ false)
      go [] e c g = absurd (omega arith)
      go (x ∷ front) e c g = on_first x (front ++ h.rest) (sym read_is ∙ e) (first_room x front g)

  pub not_stuck : {j : ℕ} → Ahead (suc j) r → stuck r ≡ false
  not_stuck h = stuck_room r (goes_on h).0 ∙ (goes_on h).1

  pub move_ahead : (j : ℕ) → Ahead (suc j) r → Ahead j (move (begin im r)).reading
  move_ahead j h = go h.front h.is h.count h.there h.room
    where
      by : (x y : Entry) (front : List Entry) → q.es ≡ x ∷ y ∷ (front ++ h.rest) → Each (There q.h) (y ∷ front)
          → fits_all r.place (live_sizes (x ∷ y ∷ front)) ≡ true → (b : Bool) → alive x ≡ b
          → Ahead (suc (length front)) (move (begin im r)).reading
      by x y front i t g true a =
          live_ahead q x y front h.rest i t a
          (sym (ap (λ (fs : List Entry). fits_all r.place (map size fs)) (keep_yes alive x (y ∷ front) a)) ∙ g)
      by x y front i t g false a =
          dead_ahead q x y front h.rest i t a
          (sym (ap (λ (fs : List Entry). fits_all r.place (map size fs)) (keep_no alive x (y ∷ front) a)) ∙ g)

      go : (front : List Entry) → r.entries ≡ front ++ h.rest → length front ≡ suc j → Each (There r.place.head) front
          → fits_all r.place (live_sizes front) ≡ true → Ahead j (move (begin im r)).reading
      go [] e c t g = absurd (omega arith)
      go (x ∷ []) e c t g =
          let z : 0 ≡ j = omega arith in
          subst (λ (n : ℕ). Ahead n (move (begin im r)).reading) z (none_ahead (move (begin im r)).reading)
      go (x ∷ y ∷ front) e c t g =
          let z : suc (length front) ≡ j = omega arith in
          subst (λ (n : ℕ). Ahead n (move (begin im r)).reading) z
          (by x y front (sym read_is ∙ e)
          (subst (λ (k : ℕ). Each (There k) (y ∷ front)) (ap (λ (y : Reading). y.place.head) q.is) t.1) g (alive x) refl)

-- ---- the moves of a sweep

-- k moves where j records are ahead: at least the lesser of both are made, and the others are still ahead
pub record Passed (l : Ledger) (k j : ℕ) (im : Image) (r : Reading) : Type 0 where
  pub left : Reading
  pub rested : Rested l (run im (concat (moves k im r))) left
  pub ahead : Ahead (j - k) left
  pub made : min j k ≤ length (moves k im r)

pub passes : (k j : ℕ) {l : Ledger} {f : File} {im : Image} {r : Reading} → Rested (f ∷ l) im r → Ahead j r → Passed (f ∷ l) k j im r
unfolding moves
passes zero j {r = r} q h =
    record { left = r; rested = q; ahead = subst (λ (n : ℕ). Ahead n r) (let z : j ≡ j - 0 = omega arith in z) h; made = omega arith }
passes (suc k) j {l} {f} {im} {r} q h = go j h (stuck r) refl (λ i d. passes k i d.rested)
  where
    w : Work
    w = move (begin im r)

    more : (j i : ℕ) → i ≡ pred j → stuck r ≡ false → Done (f ∷ l) im w → Passed (f ∷ l) k i w.image w.reading
        → Passed (f ∷ l) (suc k) j im r
    more j i m s d p =
        record {
          left = p.left;
          rested = subst (λ (z : Image). Rested (f ∷ l) z p.left) (sym at_end_of) p.rested;
          ahead = subst (λ (n : ℕ). Ahead n p.left) (let z : i - k ≡ j - suc k = omega arith in z) p.ahead;
          made = omega (arith, p.made, ap length (moves_next im r k s));
        }
      where
        at_end_of : run im (concat (moves (suc k) im r)) ≡ run w.image (concat (moves k w.image w.reading))
        at_end_of =
            ap (λ (ms : List (List Step)). run im (concat ms)) (moves_next im r k s)
            ∙ run_append im w.steps (concat (moves k w.image w.reading))
            ∙ ap (λ (z : Image). run z (concat (moves k w.image w.reading))) (sym d.image)

    go : (j : ℕ) → Ahead j r → (b : Bool) → stuck r ≡ b
        → ((i : ℕ) → Done (f ∷ l) im w → Ahead i w.reading → Passed (f ∷ l) k i w.image w.reading) → Passed (f ∷ l) (suc k) j im r
    go zero h true s ih =
        record {
          left = r;
          rested = subst (λ (ms : List (List Step)). Rested (f ∷ l) (run im (concat ms)) r) (sym (moves_stuck im r (suc k) s)) q;
          ahead = subst (λ (n : ℕ). Ahead n r) (let z : 0 ≡ 0 - suc k = omega arith in z) h;
          made = omega arith;
        }
    go zero h false s ih = let d : Done (f ∷ l) im w = move_done q s in more 0 0 refl s d (ih 0 d (none_ahead w.reading))
    go (suc j) h true s ih = absurd (not_both (stuck r) (not_stuck q h) s)
    go (suc j) h false s ih = let d : Done (f ∷ l) im w = move_done q s in more (suc j) j refl s d (ih j d (move_ahead q j h))
