-- The law of a sweep: on every settled image its moves are those that the first reading plans.
use Rattle.std.specs.Prelude.{ℕ, zero, suc, ◌+◌, ◌≤◌, min, ◌≡◌, refl, Bool, true, false}
use Rattle.std.proofs.Common.{arith, sym, ap₂, ◌∙◌, length-append}
use Rattle.std.proofs.Math.Path.{ap, subst}
use Rattle.std.proofs.lemmas.Bool.{false≢true}
use Rattle.std.proofs.Math.Option.{some}
use mathlib.Core.List.{List, [], ◌∷◌, ◌++◌}
use Rattle.std.proofs.Math.ListN.{length}
use Rattle.spec.specs.declared.Ending.{Ending}
use Rattle.spec.specs.declared.Place.{Place}
use Rattle.spec.specs.Step.{Image, Step, program, run}
use Rattle.spec.specs.Basics.{give}
use Rattle.spec.specs.Geometry.{good_length}
use Rattle.spec.specs.Record.{Entry, name_of, content_of, size}
use Rattle.spec.specs.Chain.{Reading, reading_from}
use Rattle.spec.specs.Files.{live}
use Rattle.spec.specs.Place.{fits}
use Rattle.spec.specs.Write.{put_steps}
use Rattle.spec.specs.Move.{Work, begin, after, copy_steps, close_steps, hand_over, moved_on, move}
use Rattle.spec.specs.Sweep.{no_room, at_end, stuck, moves, sweep_moves}
use Rattle.spec.specs.Door.{settled_reading}
use Rattle.laws.specs.Length.{Good, good}
use Rattle.laws.specs.Steps.{run_append}
use Rattle.laws.specs.Sweep.{end_dead, not_end, room_on, room_live, copy_live, copy_dead, moves_stuck, moves_next}
use Rattle.planning.specs.Planned.{copied_place, with_status, copy_of, copied, after_copy, hand_steps, handed}
use Rattle.planning.specs.Planned.{move_steps, moved_reading, planned, planned_moves}
use Rattle.planning.specs.Effect.{Writes}
use Rattle.planning.specs.Copy.{put_deletes}
use Rattle.planning.specs.Places.{led_head, copied_head}
use Rattle.planning.specs.Phase.{work, after_known}
use Rattle.planning.specs.Rested.{Rested, rested_reading, live_finished, settled_rested}
use Rattle.planning.specs.Handing.{Handed, hand_rested}
use Rattle.planning.specs.NewCopy.{new, new_length}
use Rattle.planning.specs.Copied.{copied_reading, copy_rested}

-- ---- (a)

-- what is read after (a)
abbrev pub after_a : Reading → Reading
after_a r = record { place = after_copy r.place r.entries; entries = copied r.place r.entries; ending = Ending.Tail }

-- (a) leaves a settled image with a second record
pub record First (im : Image) (r : Reading) : Type 0 where
  pub rested : Rested (run im (copy_steps r r.entries)) (after_a r)
  pub len : length (run im (copy_steps r r.entries)) ≡ length im
  pub two : 2 ≤ length (copied r.place r.entries)
  pub idle : copy_steps r r.entries ≡ [] → r ≡ after_a r
  pub head : (after_copy r.place r.entries).head ≡ r.place.head
  pub whole : (after_copy r.place r.entries).length ≡ r.place.length

module _ (im : Image) (g : Good (length im)) (r : Reading) (w : Rested im r) (n : stuck r ≡ false) (x : Entry) (es : List Entry)
    (q : r.entries ≡ x ∷ es) where
  module _ (l : live (x ∷ es) x ≡ true) where
    live_steps : copy_steps r r.entries ≡ put_steps r.place (some x) (name_of x) (content_of x)
    live_steps = copy_live r x es q l

    live_copied : copied r.place r.entries ≡ with_status 0x00 x ∷ (es ++ (copy_of r.place x ∷ []))
    unfolding copied
    live_copied = ap (copied r.place) q ∙ rw (copied, l)

    live_place : after_copy r.place r.entries ≡ copied_place r.place (size x)
    unfolding after_copy
    live_place = ap (after_copy r.place) q ∙ rw (after_copy, l)

    live_reading : after_a r ≡ copied_reading r.place x es
    live_reading = ap₂ (λ (p : Place) (fs : List Entry). record { place = p; entries = fs; ending = Ending.Tail }) live_place live_copied

    room : fits r.place (size x) ≡ true
    room = go _ refl where
      go : (t : Bool) → fits r.place (size x) ≡ t → fits r.place (size x) ≡ true
      go true e = e
      go false e = absurd (false≢true (sym (sym (room_live r x es false l e) ∙ sym (ap (no_room r) q) ∙ room_on r n)))

    live_first : First im r
    live_first =
        record {
          rested =
              subst (λ (ss : List Step). Rested (run im ss) (after_a r)) (sym live_steps)
              (subst (Rested (new im r.place x)) (sym live_reading) (copy_rested im g w q (live_finished (x ∷ es) x l) room));
          len = ap (λ (ss : List Step). length (run im ss)) live_steps ∙ new_length im r.place x;
          two = omega (arith, ap (λ (fs : List Entry). length fs) live_copied, length-append es (copy_of r.place x ∷ []));
          idle =
              λ e.
              absurd (subst (λ (ss : List Step). Writes ss (x.at + 2) 0x00) (sym live_steps ∙ e)
              (put_deletes r.place x (name_of x) (content_of x)));
          head = ap (λ (p : Place). p.head) live_place ∙ (copied_head r.place (size x)).0;
          whole = ap (λ (p : Place). p.length) live_place ∙ (copied_head r.place (size x)).1;
        }

  module _ (l : live (x ∷ es) x ≡ false) where
    dead_copied : copied r.place r.entries ≡ r.entries
    unfolding copied
    dead_copied = ap (copied r.place) q ∙ rw (copied, l) (sym q)

    dead_place : after_copy r.place r.entries ≡ r.place
    unfolding after_copy
    dead_place = ap (after_copy r.place) q ∙ rw (after_copy, l)

    dead_reading : r ≡ after_a r
    dead_reading =
        ap (λ (e : Ending). record { place = r.place; entries = r.entries; ending = e }) w.tail
        ∙ sym (ap₂ (λ (p : Place) (fs : List Entry). record { place = p; entries = fs; ending = Ending.Tail }) dead_place dead_copied)

    dead_first : First im r
    dead_first =
        let none : copy_steps r r.entries ≡ [] = copy_dead r x es q l in
        record {
          rested = subst (λ (ss : List Step). Rested (run im ss) (after_a r)) (sym none) (subst (Rested im) dead_reading w);
          len = ap (λ (ss : List Step). length (run im ss)) none;
          two = omega (arith, ap (λ (fs : List Entry). length fs) (dead_copied ∙ q), second es refl);
          idle = λ e. dead_reading;
          head = ap (λ (p : Place). p.head) dead_place;
          whole = ap (λ (p : Place). p.length) dead_place;
        } where
          second : (us : List Entry) → es ≡ us → 1 ≤ length es
          second [] e =
              let d : live (x ∷ []) x ≡ false = sym (ap (λ (us : List Entry). live (x ∷ us) x) e) ∙ l in
              absurd (false≢true (sym (not_end r n) ∙ ap at_end (q ∙ ap (λ (us : List Entry). x ∷ us) e) ∙ end_dead x d))
          second (y ∷ us) e = omega (arith, ap length e)

pub first : (im : Image) → Good (length im) → (r : Reading) → Rested im r → stuck r ≡ false → First im r
unfolding at_end
first im g r w n = go r.entries refl where
  by : (x : Entry) (es : List Entry) → r.entries ≡ x ∷ es → (t : Bool) → live (x ∷ es) x ≡ t → First im r
  by x es q true l = live_first im g r w n x es q l
  by x es q false l = dead_first im g r w n x es q l

  go : (es : List Entry) → r.entries ≡ es → First im r
  go [] q = absurd (false≢true (sym (not_end r n) ∙ ap at_end q))
  go (x ∷ es) q = by x es q _ refl

-- ---- (b) to (f)

hand_known : (w : Work) (p : Place) (es : List Entry) → 2 ≤ length es
    → reading_from (run w.image (hand_steps w.reading.place.length es)) (handed p es).place.head ≡ handed p es
    → hand_over w es
    ≡ work (run w.image (hand_steps w.reading.place.length es)) (handed p es)
    (w.steps ++ hand_steps w.reading.place.length es)
unfolding hand_over hand_steps handed after
hand_known w p [] two e = absurd (omega arith)
hand_known w p (x ∷ []) two e = absurd (omega arith)
hand_known w p (x ∷ (y ∷ es)) two e =
    let ss : List Step = program y.at 0xA0 ∷ close_steps w.reading.place.length x y 0xA0 in
    let left : Image = run w.image ss in
    ap (λ (r : Reading). work left r (w.steps ++ ss)) (ap (reading_from left) (sym (led_head p y.at)) ∙ e)

-- ---- the whole move

-- what a move is, on a settled image: the steps that the reading plans, and the reading that it plans
pub record Move (im : Image) (r : Reading) : Type 0 where
  pub is : move (begin im r) ≡ record { image = run im (move_steps r); reading = moved_reading r; steps = move_steps r }
  pub len : length (run im (move_steps r)) ≡ length im
  pub good : Good (length (run im (move_steps r)))
  pub rested : Rested (run im (move_steps r)) (moved_reading r)

module _ (im : Image) (g : Good (length im)) (r : Reading) (w : Rested im r) (n : stuck r ≡ false) where
  a : First im r
  a = first im g r w n

  abbrev copying : List Step
  copying = copy_steps r r.entries

  abbrev handing : List Step
  handing = hand_steps r.place.length (copied r.place r.entries)

  abbrev mid : Image
  mid = run im copying

  w_1 : after (begin im r) copying r.place.head ≡ work mid (after_a r) copying
  w_1 =
      after_known (begin im r) copying r.place.head (after_a r) a.idle
      (ap (reading_from mid) (sym a.head) ∙ rested_reading a.rested)

  -- its steps, by the length that stays
  same_steps : hand_steps (after_a r).place.length (after_a r).entries ≡ handing
  same_steps = ap (λ (k : ℕ). hand_steps k (copied r.place r.entries)) a.whole

  second : Handed mid (after_a r)
  second = hand_rested mid (subst Good (sym a.len) g) a.rested a.two

  rested_2 : Rested (run mid handing) (moved_reading r)
  rested_2 = subst (λ (ss : List Step). Rested (run mid ss) (moved_reading r)) same_steps second.rested

  w_2 : hand_over (work mid (after_a r) copying) (copied r.place r.entries)
      ≡ work (run mid handing) (moved_reading r) (copying ++ handing)
  w_2 =
      hand_known (work mid (after_a r) copying) (after_copy r.place r.entries) (copied r.place r.entries) a.two
      (rested_reading second.rested)
      ∙ ap (λ (ss : List Step). work (run mid ss) (moved_reading r) (copying ++ ss)) same_steps

  pub moved : Move im r
  unfolding move
  moved =
      let q : run im (move_steps r) ≡ run mid handing = run_append im copying handing in
      let len : length (run im (move_steps r)) ≡ length im =
      ap length q ∙ ap (λ (ss : List Step). length (run mid ss)) (sym same_steps) ∙ second.len ∙ a.len in
      record {
        is = ap moved_on w_1 ∙ w_2 ∙ ap (λ (i : Image). work i (moved_reading r) (move_steps r)) (sym q);
        len = len;
        good = subst Good (sym len) g;
        rested = subst (λ (i : Image). Rested i (moved_reading r)) (sym q) rested_2;
      }

-- ---- all moves

pub planned_stuck : (k : ℕ) (r : Reading) → stuck r ≡ true → planned k r ≡ []
unfolding planned
planned_stuck zero r e = refl
planned_stuck (suc k) r e = rw (planned, e)

moves_planned : (k : ℕ) {im : Image} (r : Reading) → Good (length im) → Rested im r → moves k im r ≡ planned k r
unfolding moves planned
moves_planned zero r g w = refl
moves_planned (suc k) {im} r g w =
    go _ refl (λ (i : Image) (s : Reading) (h : Good (length i)) (v : Rested i s). moves_planned k s h v) where
      go : (t : Bool) → stuck r ≡ t → ((i : Image) (s : Reading) → Good (length i) → Rested i s → moves k i s ≡ planned k s)
          → moves (suc k) im r ≡ planned (suc k) r
      go true e ih = moves_stuck im r (suc k) e ∙ sym (planned_stuck (suc k) r e)
      go false e ih =
          let m : Move im r = moved im g r w e in
          moves_next im r k e
          ∙ rw (planned, e)
          (ap (λ (v : Work). v.steps ∷ moves k v.image v.reading) m.is
          ∙ ap (λ (l : List (List Step)). move_steps r ∷ l) (ih (run im (move_steps r)) (moved_reading r) m.good m.rested))

-- the moves of a sweep, from the first reading alone
pub sweep_as_planned : (im : Image) (r : Reading) → good_length (length im) ≡ true → settled_reading im ≡ give r
    → sweep_moves im r ≡ planned_moves r
sweep_as_planned im r n e = moves_planned (min 5 (length r.entries)) r (good (length im) n) (settled_rested im r e)
