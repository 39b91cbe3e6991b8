-- The moves of a sweep by the entry chain: the queue of records and copies need not be kept.
use Rattle.std.specs.Prelude.{ℕ, zero, suc, ◌≤◌, min, ◌≡◌, refl, Bool, not, length}
use Rattle.std.proofs.Common.{arith, sym, ◌∙◌}
use Rattle.std.proofs.Math.Path.{ap, ap₂}
use Rattle.std.proofs.Math.Bool.{true, false}
use Rattle.std.proofs.Math.Option.{Option, none, some}
use mathlib.Core.List.{List, [], ◌∷◌, ◌++◌, append-nil, append_assoc}
use Rattle.spec.specs.declared.Place.{Place}
use Rattle.spec.specs.declared.Ending.{Ending}
use Rattle.spec.specs.Step.{Image, Step, program}
use Rattle.spec.specs.Basics.{give, any}
use Rattle.spec.specs.Geometry.{good_length}
use Rattle.spec.specs.Record.{Entry, name_of, content_of, size}
use Rattle.spec.specs.Chain.{Reading}
use Rattle.spec.specs.Files.{live, superseded, doubled}
use Rattle.spec.specs.Place.{fits}
use Rattle.spec.specs.Write.{put_steps}
use Rattle.spec.specs.Move.{copy_steps, close_steps}
use Rattle.spec.specs.Sweep.{at_end, stuck, sweep_moves}
use Rattle.spec.specs.Door.{settled_reading}
use Rattle.laws.specs.Sweep.{end_live, end_dead, end_two, stuck_end, stuck_room, room_live, room_dead, copy_live, copy_dead}
use Rattle.planning.specs.Planned.{copied_place, led_place, with_status, with_low, copy_of, copied, after_copy, hand_steps, handed}
use Rattle.planning.specs.Planned.{move_steps, moved_reading, planned, planned_moves}
use Rattle.planning.specs.Planned.{next_of, first_copy, handing, walked, walked_moves}
use Rattle.planning.specs.Known.{settled_known}
use Rattle.planning.specs.Copy.{put_low}
use Rattle.planning.specs.Close.{close_like}
use Rattle.planning.specs.Moves.{planned_stuck, sweep_as_planned}
use Rattle.planning.specs.Lone.{Lone, lone_first, lone_passed, lone_copied, lone_live}

-- ---- one move

-- the queue that is left, from Y on
abbrev pub onward_from : Place → Entry → List Entry → Reading
onward_from p y es = record { place = led_place p y.at; entries = with_low 0x00 y ∷ es; ending = Ending.Tail }

module _ (p : Place) (e : Ending) (b : ℕ) (x : Entry) (es : List Entry) where
  abbrev pub queue : List Entry
  queue = with_low b x ∷ es

  abbrev pub now : Reading
  now = record { place = p; entries = queue; ending = e }

  abbrev pub own : Entry
  own = with_low b x

  pub stuck_live : (t : Bool) → live queue own ≡ true → fits p (size x) ≡ t → stuck now ≡ not t
  stuck_live t l f = stuck_room now (end_live own es l) ∙ room_live now own es t l f

  pub stuck_dead : (y : Entry) (us : List Entry) → es ≡ y ∷ us → live queue own ≡ false → stuck now ≡ false
  stuck_dead y us q l = stuck_room now (ap (λ (vs : List Entry). at_end (own ∷ vs)) q ∙ end_two own y us) ∙ room_dead now own es l

  pub stuck_last : es ≡ [] → live queue own ≡ false → stuck now ≡ true
  stuck_last q l =
      stuck_end now
      (ap (λ (vs : List Entry). at_end (own ∷ vs)) q ∙ end_dead own (ap (λ (vs : List Entry). live (own ∷ vs) own) (sym q) ∙ l))

  planned_on : (k : ℕ) → stuck now ≡ false → planned (suc k) now ≡ move_steps now ∷ planned k (moved_reading now)
  unfolding planned
  planned_on k s = rw (planned, s)

  module _ (y : Entry) (us : List Entry) where
    -- X is live: its copy goes to the end of the queue
    module _ (l : live queue own ≡ true) (q : es ++ (copy_of p x ∷ []) ≡ y ∷ us) where
      pub copied_is : copied p queue ≡ with_status 0x00 own ∷ (y ∷ us)
      unfolding copied
      copied_is =
          ap (λ (a : Bool). elim a [ true ↦ with_status 0x00 own ∷ (es ++ (copy_of p x ∷ [])) | false ↦ queue ]) l
          ∙ ap (λ (vs : List Entry). with_status 0x00 own ∷ vs) q

      after_is : after_copy p queue ≡ copied_place p (size x)
      unfolding after_copy
      after_is = ap (λ (a : Bool). elim a [ true ↦ copied_place p (size x) | false ↦ p ]) l

      copy_is : copy_steps now queue ≡ put_steps p (some x) (name_of x) (content_of x)
      copy_is = copy_live now own es refl l ∙ put_low p b x

      live_steps : move_steps now
          ≡ put_steps p (some x) (name_of x) (content_of x) ++ (program y.at 0xA0 ∷ close_steps p.length x y 0xA0)
      unfolding hand_steps
      live_steps =
          ap₂ (λ (ss ts : List Step). ss ++ ts) copy_is
          (ap (hand_steps p.length) copied_is
          ∙ ap (λ (ss : List Step). program y.at 0xA0 ∷ ss) (close_like p.length 0xA0 b 0x00 x y))

      pub live_left : moved_reading now ≡ onward_from (copied_place p (size x)) y us
      unfolding handed
      live_left = ap₂ handed after_is copied_is

    -- X is not
    module _ (l : live queue own ≡ false) (q : es ≡ y ∷ us) where
      pub same_is : copied p queue ≡ own ∷ (y ∷ us)
      unfolding copied
      same_is =
          ap (λ (a : Bool). elim a [ true ↦ with_status 0x00 own ∷ (es ++ (copy_of p x ∷ [])) | false ↦ queue ]) l
          ∙ ap (λ (vs : List Entry). own ∷ vs) q

      stays_is : after_copy p queue ≡ p
      unfolding after_copy
      stays_is = ap (λ (a : Bool). elim a [ true ↦ copied_place p (size x) | false ↦ p ]) l

      none_is : copy_steps now queue ≡ []
      none_is = copy_dead now own es refl l

      dead_steps : move_steps now ≡ program y.at 0xA0 ∷ close_steps p.length x y 0xA0
      unfolding hand_steps
      dead_steps =
          ap₂ (λ (ss ts : List Step). ss ++ ts) none_is
          (ap (hand_steps p.length) same_is
          ∙ ap (λ (ss : List Step). program y.at 0xA0 ∷ ss) (close_like p.length 0xA0 b x.it.status x y))

      pub dead_left : moved_reading now ≡ onward_from p y us
      unfolding handed
      dead_left = ap₂ handed stays_is same_is

-- ---- the walk

abbrev first_of : List Entry → Option Entry
first_of [] = none
first_of (c ∷ cs) = some c

first_with : (cs : List Entry) (c : Entry) → first_of (cs ++ (c ∷ [])) ≡ first_copy (first_of cs) c
first_with [] c = refl
first_with (d ∷ cs) c = refl

module _ (k : ℕ) (all : List Entry) (p : Place) (x : Entry) (xs : List Entry) (c : Option Entry) where
  abbrev f : Option Entry
  f = first_copy c (copy_of p x)

  abbrev on_live : List (List Step)
  on_live =
      handing p.length x (next_of xs f) (λ y. walked k all (led_place (copied_place p (size x)) y.at) xs f)
      (put_steps p (some x) (name_of x) (content_of x))

  abbrev on_dead : List (List Step)
  on_dead = handing p.length x (next_of xs c) (λ y. walked k all (led_place p y.at) xs c) []

  walked_live : (t : Bool) → live all x ≡ true → fits p (size x) ≡ t
      → walked (suc k) all p (x ∷ xs) c ≡ elim t [ true ↦ on_live | false ↦ [] ]
  unfolding walked
  walked_live t l s = ap₂ (λ (a d : Bool). elim a [ true ↦ elim d [ true ↦ on_live | false ↦ [] ] | false ↦ on_dead ]) l s

  walked_dead : live all x ≡ false → walked (suc k) all p (x ∷ xs) c ≡ on_dead
  unfolding walked
  walked_dead l = ap (λ (a : Bool). elim a [ true ↦ elim (fits p (size x)) [ true ↦ on_live | false ↦ [] ] | false ↦ on_dead ]) l

-- with no record of the entry chain left no move is left
walked_none : (k : ℕ) (all : List Entry) (p : Place) (r : Reading) (c : Option Entry) → k ≤ 0 → planned k r ≡ walked k all p [] c
unfolding planned walked
walked_none zero all p r c h = refl
walked_none (suc k) all p r c h = absurd (omega arith)

-- the same moves, of a queue with the records y ∷ ys of the entry chain and the copies ds
abbrev Alike : ℕ → List Entry → Place → Ending → ℕ → Entry → List Entry → List Entry → Type 0
Alike k all p e b x xs cs =
    planned k (record { place = p; entries = with_low b x ∷ (xs ++ cs); ending = e }) ≡ walked k all p (x ∷ xs) (first_of cs)

module _ (k : ℕ) (all : List Entry) (p : Place) (e : Ending) (b : ℕ) (x : Entry)
    (ih : (q : Place) (y : Entry) (ys ds : List Entry) → k ≤ suc (length ys) → Lone all
    (y ∷ ys) ds → Alike k all q Ending.Tail 0x00 y ys ds) where
  abbrev c : Entry
  c = copy_of p x

  abbrev put : List Step
  put = put_steps p (some x) (name_of x) (content_of x)

  abbrev hand : Entry → List Step
  hand y = program y.at 0xA0 ∷ close_steps p.length x y 0xA0

  module _ (xs cs : List Entry) (w : Lone all (x ∷ xs) cs) where
    -- X is live and fits
    live_on : (y : Entry) (us : List Entry) → live all x ≡ true → fits p (size x) ≡ true → (xs ++ cs) ++ (c ∷ []) ≡ y ∷ us
        → planned (suc k) (record { place = p; entries = with_low b x ∷ (xs ++ cs); ending = e })
        ≡ (put ++ hand y) ∷ planned k (onward_from (copied_place p (size x)) y us)
    live_on y us l s q =
        let m = lone_live w b ∙ l in
        planned_on p e b x (xs ++ cs) k (stuck_live p e b x (xs ++ cs) true m s)
        ∙ ap₂ (λ (ss : List Step) (r : Reading). ss ∷ planned k r) (live_steps p e b x (xs ++ cs) y us m q)
        (live_left p e b x (xs ++ cs) y us m q)

    -- X is not live
    dead_on : (y : Entry) (us : List Entry) → live all x ≡ false → xs ++ cs ≡ y ∷ us
        → planned (suc k) (record { place = p; entries = with_low b x ∷ (xs ++ cs); ending = e }) ≡ hand y ∷ planned k (onward_from p y us)
    dead_on y us l q =
        let m = lone_live w b ∙ l in
        planned_on p e b x (xs ++ cs) k (stuck_dead p e b x (xs ++ cs) y us q m)
        ∙ ap₂ (λ (ss : List Step) (r : Reading). ss ∷ planned k r) (dead_steps p e b x (xs ++ cs) y us m q)
        (dead_left p e b x (xs ++ cs) y us m q)

    full_case : live all x ≡ true → fits p (size x) ≡ false → Alike (suc k) all p e b x xs cs
    full_case l s =
        planned_stuck (suc k) _ (stuck_live p e b x (xs ++ cs) false (lone_live w b ∙ l) s)
        ∙ sym (walked_live k all p x xs (first_of cs) false l s)

  live_case : (xs cs : List Entry) → k ≤ length xs → Lone all (x ∷ xs) cs → live all x ≡ true → fits p (size x) ≡ true
      → Alike (suc k) all p e b x xs cs
  live_case (y ∷ ys) cs h w l s =
      let q : ((y ∷ ys) ++ cs) ++ (c ∷ []) ≡ y ∷ (ys ++ (cs ++ (c ∷ []))) = append_assoc (y ∷ ys) cs (c ∷ []) in
      live_on (y ∷ ys) cs w y (ys ++ (cs ++ (c ∷ []))) l s q
      ∙ ap (λ (ms : List (List Step)). (put ++ hand y) ∷ ms)
      (ih (led_place (copied_place p (size x)) y.at) y ys (cs ++ (c ∷ [])) h (lone_copied w c refl l)
      ∙ ap (walked k all (led_place (copied_place p (size x)) y.at) (y ∷ ys)) (first_with cs c))
      ∙ sym (walked_live k all p x (y ∷ ys) (first_of cs) true l s)
  live_case [] [] h w l s =
      live_on [] [] w c [] l s refl
      ∙ ap (λ (ms : List (List Step)). (put ++ hand c) ∷ ms)
      (walked_none k all (led_place (copied_place p (size x)) c.at) (onward_from (copied_place p (size x)) c []) (some c) h)
      ∙ sym (walked_live k all p x [] none true l s)
  live_case [] (d ∷ ds) h w l s =
      live_on [] (d ∷ ds) w d (ds ++ (c ∷ [])) l s refl
      ∙ ap (λ (ms : List (List Step)). (put ++ hand d) ∷ ms)
      (walked_none k all (led_place (copied_place p (size x)) d.at) (onward_from (copied_place p (size x)) d (ds ++ (c ∷ [])))
      (some d) h)
      ∙ sym (walked_live k all p x [] (some d) true l s)

  dead_case : (xs cs : List Entry) → k ≤ length xs → Lone all (x ∷ xs) cs → live all x ≡ false → Alike (suc k) all p e b x xs cs
  dead_case (y ∷ ys) cs h w l =
      dead_on (y ∷ ys) cs w y (ys ++ cs) l refl
      ∙ ap (λ (ms : List (List Step)). hand y ∷ ms) (ih (led_place p y.at) y ys cs h (lone_passed w))
      ∙ sym (walked_dead k all p x (y ∷ ys) (first_of cs) l)
  dead_case [] [] h w l =
      planned_stuck (suc k) _ (stuck_last p e b x [] refl (lone_live w b ∙ l)) ∙ sym (walked_dead k all p x [] none l)
  dead_case [] (d ∷ ds) h w l =
      dead_on [] (d ∷ ds) w d ds l refl
      ∙ ap (λ (ms : List (List Step)). hand d ∷ ms) (walked_none k all (led_place p d.at) (onward_from p d ds) (some d) h)
      ∙ sym (walked_dead k all p x [] (some d) l)

walks : (k : ℕ) (all : List Entry) (p : Place) (e : Ending) (b : ℕ) (x : Entry) (xs cs : List Entry) → k ≤ suc (length xs)
    → Lone all (x ∷ xs) cs
    → Alike k all p e b x xs cs
unfolding planned walked
walks zero all p e b x xs cs h w = refl
walks (suc k) all p e b x xs cs h w =
    go _ _ refl refl (λ (q : Place) (y : Entry) (ys ds : List Entry). walks k all q Ending.Tail 0x00 y ys ds) where
      go : (t u : Bool) → live all x ≡ t → fits p (size x) ≡ u
          → ((q : Place) (y : Entry) (ys ds : List Entry) → k ≤ suc (length ys) → Lone all (y ∷ ys) ds
          → Alike k all q Ending.Tail 0x00 y ys ds)
          → Alike (suc k) all p e b x xs cs
      go true true l s ih = live_case k all p e b x ih xs cs (omega arith) w l s
      go true false l s ih = full_case k all p e b x ih xs cs w l s
      go false u l s ih = dead_case k all p e b x ih xs cs (omega arith) w l

-- ---- the whole sweep

no_moves : (k : ℕ) (all : List Entry) (p : Place) (e : Ending) (c : Option Entry)
    → planned k (record { place = p; entries = []; ending = e }) ≡ walked k all p [] c
unfolding planned walked stuck at_end
no_moves zero all p e c = refl
no_moves (suc k) all p e c = refl

pub walked_planned : (r : Reading) → any (superseded r.entries) r.entries ≡ false → doubled 0xF8 r.entries ≡ false
    → walked_moves r ≡ planned_moves r
walked_planned r s d = sym (go r.entries r.place r.ending s d) where
  go : (es : List Entry) (p : Place) (e : Ending) → any (superseded es) es ≡ false → doubled 0xF8 es ≡ false
      → planned_moves (record { place = p; entries = es; ending = e }) ≡ walked_moves (record { place = p; entries = es; ending = e })
  go [] p e s d = no_moves (min 5 0) [] p e none
  go (x ∷ xs) p e s d =
      ap (λ (us : List Entry). planned (min 5 (suc (length xs))) (record { place = p; entries = x ∷ us; ending = e })) (sym (append-nil xs))
      ∙ walks (min 5 (suc (length xs))) (x ∷ xs) p e x.it.low x xs [] (omega arith) (lone_first (x ∷ xs) s d)

-- ---- on settled images

module _ (im : Image) (r : Reading) (n : good_length (length im) ≡ true) (e : settled_reading im ≡ give r) where
  pub walked_as_planned : walked_moves r ≡ planned_moves r
  walked_as_planned = let s = settled_known im r e in walked_planned r s.1.single s.0.once

  -- the moves of a sweep, as K1's engine walks them
  pub sweep_as_walked : sweep_moves im r ≡ walked_moves r
  sweep_as_walked = sweep_as_planned im r n e ∙ sym walked_as_planned
