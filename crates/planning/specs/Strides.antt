-- Place and wall (Walls.antt) that a sweep leaves, by the entry chain: as Walked.antt walks its moves, with Y and the first copy told by
-- their addresses.
use Rattle.std.specs.Prelude.{ℕ, zero, suc, ◌≤◌, min, ◌≡◌, refl, Bool, length}
use Rattle.std.proofs.Common.{arith, sym, ◌∙◌}
use Rattle.std.proofs.Math.Path.{ap, ap₂}
use Rattle.std.proofs.Math.Bool.{true, false}
use Rattle.std.proofs.Math.Option.{Option, none, some}
use mathlib.Core.List.{List, [], ◌∷◌, ◌++◌, append-nil, append_assoc}
use Rattle.spec.specs.declared.Place.{Place}
use Rattle.spec.specs.declared.Ending.{Ending}
use Rattle.spec.specs.Step.{Image}
use Rattle.spec.specs.Basics.{give, any}
use Rattle.spec.specs.Geometry.{good_length}
use Rattle.spec.specs.Record.{Entry, size}
use Rattle.spec.specs.Chain.{Reading}
use Rattle.spec.specs.Files.{live, superseded, doubled}
use Rattle.spec.specs.Place.{fits, address}
use Rattle.spec.specs.Sweep.{at_end, stuck}
use Rattle.spec.specs.Door.{settled_reading}
use Rattle.spec.specs.Space.{live_bytes, space_left, sweep_work}
use Rattle.laws.specs.Length.{good}
use Rattle.planning.specs.Planned.{copied_place, led_place, with_low, copy_of, copied, after_copy, handed, moved_reading}
use Rattle.planning.specs.Known.{settled_known}
use Rattle.planning.specs.Lone.{Lone, lone_first, lone_passed, lone_copied, lone_live}
use Rattle.planning.specs.Places.{copied_head, led_length}
use Rattle.planning.specs.Rested.{settled_rested}
use Rattle.planning.specs.First.{reads_head}
use Rattle.planning.specs.Walked.{onward_from, queue, now, own, stuck_live, stuck_dead, stuck_last, copied_is, live_left, same_is}
use Rattle.planning.specs.Walked.{dead_left}
use Rattle.planning.specs.Space.{total, marker_at}
use Rattle.planning.specs.Spaces.{swept_reading, sweep_leaves}
use Rattle.planning.specs.CallMarkers.{copied_marker, handed_marker, moved_marker, swept_marker, sweep_marked}
use Rattle.planning.specs.SweepCounts.{sweep_live}
use Rattle.planning.specs.Walls.{put_wall, led_wall, wall_of, first_told, put_walled, led_walled, space_filled, filled_is}

pub record Stand : Type 0 where
  pub place : Place
  pub wall : ℕ

abbrev pub stand : Place → ℕ → Stand
stand p wall = record { place = p; wall = wall }

-- ---- by the entry chain

-- Y: the next record of the entry chain, or the first copy
abbrev pub next_at : List Entry → Option ℕ → Option ℕ
next_at [] c = c
next_at (y ∷ xs) c = some y.at

-- the first of the copies: c, or the one at a
abbrev pub first_at : Option ℕ → ℕ → Option ℕ
first_at none a = some a
first_at (some b) a = some b

-- on to Y; without one there is no move
abbrev pub led_on : Stand → Option ℕ → (ℕ → Stand) → Stand
led_on s none more = s
led_on s (some y) more = more y

-- at most k moves; all is the entry chain, x ∷ xs what is left of it, p and wall stand at x, c is the first copy if there is one yet
unfoldable pub strode : ℕ → List Entry → Place → ℕ → List Entry → Option ℕ → Stand
strode zero all p wall xs c = stand p wall
strode (suc k) all p wall [] c = stand p wall
strode (suc k) all p wall (x ∷ xs) c =
    elim (live all x) [
      | true ↦
          elim (fits p (size x)) [
            | true ↦
                let a = first_at c (address p (size x)) in
                led_on (stand p wall) (next_at xs a)
                (λ y. strode k all (led_place (copied_place p (size x)) y) (led_wall p.length y (put_wall p (size x) wall)) xs a)
            | false ↦ stand p wall
          ]
      | false ↦ led_on (stand p wall) (next_at xs c) (λ y. strode k all (led_place p y) (led_wall p.length y wall) xs c)
    ]

-- ---- by readings, one move after another

unfoldable copied_wall : Place → List Entry → ℕ → ℕ
copied_wall p [] wall = wall
copied_wall p (x ∷ es) wall = elim (live (x ∷ es) x) [ true ↦ put_wall p (size x) wall | false ↦ wall ]

unfoldable handed_wall : ℕ → List Entry → ℕ → ℕ
handed_wall N [] wall = wall
handed_wall N (x ∷ []) wall = wall
handed_wall N (x ∷ (y ∷ es)) wall = led_wall N y.at wall

abbrev moved_wall : Reading → ℕ → ℕ
moved_wall r wall = handed_wall r.place.length (copied r.place r.entries) (copied_wall r.place r.entries wall)

unfoldable swept_stand : ℕ → Reading → ℕ → Stand
swept_stand zero r wall = stand r.place wall
swept_stand (suc k) r wall = elim (stuck r) [ true ↦ stand r.place wall | false ↦ swept_stand k (moved_reading r) (moved_wall r wall) ]

-- the place is that of the sweep's reading
stand_place : (k : ℕ) (r : Reading) (wall : ℕ) → (swept_stand k r wall).place ≡ (swept_reading k r).place
unfolding swept_stand swept_reading
stand_place zero r wall = refl
stand_place (suc k) r wall = go (stuck r) (stand_place k (moved_reading r) (moved_wall r wall)) where
  go : (t : Bool) → (swept_stand k (moved_reading r) (moved_wall r wall)).place ≡ (swept_reading k (moved_reading r)).place
      → (elim t as (λ b. Stand) [ true ↦ stand r.place wall | false ↦ swept_stand k (moved_reading r) (moved_wall r wall) ]).place
      ≡ (elim t as (λ b. Reading) [ true ↦ r | false ↦ swept_reading k (moved_reading r) ]).place
  go true ih = refl
  go false ih = ih

-- the wall tells its marker
copied_walled : (p : Place) (es : List Entry) (wall : ℕ)
    → copied_marker p es (marker_at p.length wall) ≡ marker_at p.length (copied_wall p es wall)
unfolding copied_marker copied_wall
copied_walled p [] wall = refl
copied_walled p (x ∷ es) wall = go (live (x ∷ es) x) _ (put_walled p (size x) wall) where
  go : (t : Bool) (b : ℕ) {a : Option ℕ} → a ≡ marker_at p.length b
      → elim t as (λ c. Option ℕ) [ true ↦ a | false ↦ marker_at p.length wall ]
      ≡ marker_at p.length (elim t as (λ c. ℕ) [ true ↦ b | false ↦ wall ])
  go true b e = e
  go false b e = refl

handed_walled : (N : ℕ) (es : List Entry) (wall : ℕ) → handed_marker es (marker_at N wall) ≡ marker_at N (handed_wall N es wall)
unfolding handed_marker handed_wall
handed_walled N [] wall = refl
handed_walled N (x ∷ []) wall = refl
handed_walled N (x ∷ (y ∷ es)) wall = led_walled N y.at wall

moved_walled : (r : Reading) (wall : ℕ) → moved_marker r (marker_at r.place.length wall)
    ≡ marker_at r.place.length (moved_wall r wall)
moved_walled r wall =
    ap (handed_marker (copied r.place r.entries)) (copied_walled r.place r.entries wall)
    ∙ handed_walled r.place.length (copied r.place r.entries) (copied_wall r.place r.entries wall)

-- the length stays
after_length : (p : Place) (es : List Entry) → (after_copy p es).length ≡ p.length
unfolding after_copy
after_length p [] = refl
after_length p (x ∷ es) = go (live (x ∷ es) x) where
  go : (t : Bool) → (elim t as (λ b. Place) [ true ↦ copied_place p (size x) | false ↦ p ]).length ≡ p.length
  go true = (copied_head p (size x)).1
  go false = refl

handed_length : (p : Place) (es : List Entry) → (handed p es).place.length ≡ p.length
unfolding handed
handed_length p [] = refl
handed_length p (x ∷ []) = refl
handed_length p (x ∷ (y ∷ es)) = led_length p y.at

moved_length : (r : Reading) → (moved_reading r).place.length ≡ r.place.length
moved_length r = handed_length (after_copy r.place r.entries) (copied r.place r.entries) ∙ after_length r.place r.entries

stand_marker : (k : ℕ) (r : Reading) (wall N : ℕ) → r.place.length ≡ N
    → swept_marker k r (marker_at N wall) ≡ marker_at N (swept_stand k r wall).wall
unfolding swept_marker swept_stand
stand_marker zero r wall N h = refl
stand_marker (suc k) r wall N h =
    go (stuck r)
    (ap (swept_marker k (moved_reading r))
    (ap (λ (n : ℕ). moved_marker r (marker_at n wall)) (sym h) ∙ moved_walled r wall ∙ ap (λ (n : ℕ). marker_at n (moved_wall r wall)) h)
    ∙ stand_marker k (moved_reading r) (moved_wall r wall) N (moved_length r ∙ h)) where
      go : (t : Bool) → swept_marker k (moved_reading r) (moved_marker r (marker_at N wall))
          ≡ marker_at N (swept_stand k (moved_reading r) (moved_wall r wall)).wall
          → elim t as (λ b. Option ℕ) [
            | true ↦ marker_at N wall
            | false ↦ swept_marker k (moved_reading r) (moved_marker r (marker_at N wall))
          ]
          ≡ marker_at N (elim t as (λ b. Stand) [
            | true ↦ stand r.place wall
            | false ↦ swept_stand k (moved_reading r) (moved_wall r wall)
          ]).wall
      go true ih = refl
      go false ih = ih

stand_length : (k : ℕ) (r : Reading) → (swept_reading k r).place.length ≡ r.place.length
unfolding swept_reading
stand_length zero r = refl
stand_length (suc k) r = go (stuck r) (stand_length k (moved_reading r) ∙ moved_length r) where
  go : (t : Bool) → (swept_reading k (moved_reading r)).place.length ≡ r.place.length
      → (elim t as (λ b. Reading) [ true ↦ r | false ↦ swept_reading k (moved_reading r) ]).place.length ≡ r.place.length
  go true ih = refl
  go false ih = ih

-- ---- both are one

abbrev at_first : List Entry → Option ℕ
at_first [] = none
at_first (c ∷ cs) = some c.at

first_with : (cs : List Entry) (c : Entry) → at_first (cs ++ (c ∷ [])) ≡ first_at (at_first cs) c.at
first_with [] c = refl
first_with (d ∷ cs) c = refl

module _ (k : ℕ) (all : List Entry) (p : Place) (wall : ℕ) (x : Entry) (xs : List Entry) (c : Option ℕ) where
  abbrev a : Option ℕ
  a = first_at c (address p (size x))

  abbrev on_live : Stand
  on_live =
      led_on (stand p wall) (next_at xs a)
      (λ y. strode k all (led_place (copied_place p (size x)) y) (led_wall p.length y (put_wall p (size x) wall)) xs a)

  abbrev on_dead : Stand
  on_dead = led_on (stand p wall) (next_at xs c) (λ y. strode k all (led_place p y) (led_wall p.length y wall) xs c)

  pub strode_live : (t : Bool) → live all x ≡ true → fits p (size x) ≡ t
      → strode (suc k) all p wall (x ∷ xs) c ≡ elim t [ true ↦ on_live | false ↦ stand p wall ]
  unfolding strode
  strode_live t l s = ap₂ (λ (a d : Bool). elim a [ true ↦ elim d [ true ↦ on_live | false ↦ stand p wall ] | false ↦ on_dead ]) l s

  pub strode_dead : live all x ≡ false → strode (suc k) all p wall (x ∷ xs) c ≡ on_dead
  unfolding strode
  strode_dead l =
      ap (λ (a : Bool). elim a [ true ↦ elim (fits p (size x)) [ true ↦ on_live | false ↦ stand p wall ] | false ↦ on_dead ]) l

pub strode_end : (k : ℕ) (all : List Entry) (p : Place) (wall : ℕ) (c : Option ℕ) → strode k all p wall [] c ≡ stand p wall
unfolding strode
strode_end zero all p wall c = refl
strode_end (suc k) all p wall c = refl

pub strode_none : (all : List Entry) (p : Place) (wall : ℕ) (xs : List Entry) (c : Option ℕ) → strode 0 all p wall xs c ≡ stand p wall
unfolding strode
strode_none all p wall xs c = refl

stand_stuck : (k : ℕ) (r : Reading) (wall : ℕ) → stuck r ≡ true → swept_stand (suc k) r wall ≡ stand r.place wall
unfolding swept_stand
stand_stuck k r wall s = rw (swept_stand, s)

stand_on : (k : ℕ) (r : Reading) (wall : ℕ) → stuck r ≡ false → swept_stand (suc k) r wall
    ≡ swept_stand k (moved_reading r) (moved_wall r wall)
unfolding swept_stand
stand_on k r wall s = rw (swept_stand, s)

abbrev Alike : ℕ → List Entry → Place → Ending → ℕ → ℕ → Entry → List Entry → List Entry → Type 0
Alike k all p e b wall x xs cs =
    swept_stand k (record { place = p; entries = with_low b x ∷ (xs ++ cs); ending = e }) wall ≡ strode k all p wall (x ∷ xs) (at_first cs)

-- with no record of the entry chain left no move is left
last_stand : (k : ℕ) (all : List Entry) (r : Reading) (wall : ℕ) (c : Option ℕ) → k ≤ 0 → swept_stand k r wall
    ≡ strode k all r.place wall [] c
unfolding swept_stand strode
last_stand zero all r wall c h = refl
last_stand (suc k) all r wall c h = absurd (omega arith)

module _ (p : Place) (e : Ending) (b wall : ℕ) (x : Entry) (es : List Entry) (y : Entry) (us : List Entry) where
  live_wall : live (queue p e b x es) (own p e b x es) ≡ true → es ++ (copy_of p x ∷ []) ≡ y ∷ us
      → moved_wall (now p e b x es) wall ≡ led_wall p.length y.at (put_wall p (size x) wall)
  unfolding copied_wall handed_wall
  live_wall l q =
      ap₂ (λ (vs : List Entry) (w : ℕ). handed_wall p.length vs w) (copied_is p e b x es y us l q)
      (ap (λ (t : Bool). elim t [ true ↦ put_wall p (size x) wall | false ↦ wall ]) l)

  dead_wall : live (queue p e b x es) (own p e b x es) ≡ false → es ≡ y ∷ us → moved_wall (now p e b x es) wall
      ≡ led_wall p.length y.at wall
  unfolding copied_wall handed_wall
  dead_wall l q =
      ap₂ (λ (vs : List Entry) (w : ℕ). handed_wall p.length vs w) (same_is p e b x es y us l q)
      (ap (λ (t : Bool). elim t [ true ↦ put_wall p (size x) wall | false ↦ wall ]) l)

module _ (k : ℕ) (all : List Entry) (p : Place) (e : Ending) (b wall : ℕ) (x : Entry)
    (ih : (q : Place) (v : ℕ) (y : Entry) (ys ds : List Entry) → k ≤ suc (length ys) → Lone all (y ∷ ys) ds
    → Alike k all q Ending.Tail 0x00 v y ys ds) where
  abbrev c : Entry
  c = copy_of p x

  abbrev q : Place
  q = copied_place p (size x)

  abbrev put : ℕ
  put = put_wall p (size x) wall

  module _ (xs cs : List Entry) (w : Lone all (x ∷ xs) cs) where
    live_on : (y : Entry) (us : List Entry) → live all x ≡ true → fits p (size x) ≡ true → (xs ++ cs) ++ (c ∷ []) ≡ y ∷ us
        → swept_stand (suc k) (record { place = p; entries = with_low b x ∷ (xs ++ cs); ending = e }) wall
        ≡ swept_stand k (onward_from q y us) (led_wall p.length y.at put)
    live_on y us l s h =
        let m = lone_live w b ∙ l in
        stand_on k (now p e b x (xs ++ cs)) wall (stuck_live p e b x (xs ++ cs) true m s)
        ∙ ap₂ (swept_stand k) (live_left p e b x (xs ++ cs) y us m h) (live_wall p e b wall x (xs ++ cs) y us m h)

    dead_on : (y : Entry) (us : List Entry) → live all x ≡ false → xs ++ cs ≡ y ∷ us
        → swept_stand (suc k) (record { place = p; entries = with_low b x ∷ (xs ++ cs); ending = e }) wall
        ≡ swept_stand k (onward_from p y us) (led_wall p.length y.at wall)
    dead_on y us l h =
        let m = lone_live w b ∙ l in
        stand_on k (now p e b x (xs ++ cs)) wall (stuck_dead p e b x (xs ++ cs) y us h m)
        ∙ ap₂ (swept_stand k) (dead_left p e b x (xs ++ cs) y us m h) (dead_wall p e b wall x (xs ++ cs) y us m h)

    full_case : live all x ≡ true → fits p (size x) ≡ false → Alike (suc k) all p e b wall x xs cs
    full_case l s =
        stand_stuck k (now p e b x (xs ++ cs)) wall (stuck_live p e b x (xs ++ cs) false (lone_live w b ∙ l) s)
        ∙ sym (strode_live k all p wall x xs (at_first cs) false l s)

  live_case : (xs cs : List Entry) → k ≤ length xs → Lone all (x ∷ xs) cs → live all x ≡ true → fits p (size x) ≡ true
      → Alike (suc k) all p e b wall x xs cs
  live_case (y ∷ ys) cs h w l s =
      live_on (y ∷ ys) cs w y (ys ++ (cs ++ (c ∷ []))) l s (append_assoc (y ∷ ys) cs (c ∷ []))
      ∙ ih (led_place q y.at) (led_wall p.length y.at put) y ys (cs ++ (c ∷ [])) h (lone_copied w c refl l)
      ∙ ap (strode k all (led_place q y.at) (led_wall p.length y.at put) (y ∷ ys)) (first_with cs c)
      ∙ sym (strode_live k all p wall x (y ∷ ys) (at_first cs) true l s)
  live_case [] [] h w l s =
      live_on [] [] w c [] l s refl
      ∙ last_stand k all (onward_from q c []) (led_wall p.length c.at put) (some c.at) h
      ∙ sym (strode_live k all p wall x [] none true l s)
  live_case [] (d ∷ ds) h w l s =
      live_on [] (d ∷ ds) w d (ds ++ (c ∷ [])) l s refl
      ∙ last_stand k all (onward_from q d (ds ++ (c ∷ []))) (led_wall p.length d.at put) (some d.at) h
      ∙ sym (strode_live k all p wall x [] (some d.at) true l s)

  dead_case : (xs cs : List Entry) → k ≤ length xs → Lone all (x ∷ xs) cs → live all x ≡ false → Alike (suc k) all p e b wall x xs cs
  dead_case (y ∷ ys) cs h w l =
      dead_on (y ∷ ys) cs w y (ys ++ cs) l refl
      ∙ ih (led_place p y.at) (led_wall p.length y.at wall) y ys cs h (lone_passed w)
      ∙ sym (strode_dead k all p wall x (y ∷ ys) (at_first cs) l)
  dead_case [] [] h w l =
      stand_stuck k (now p e b x []) wall (stuck_last p e b x [] refl (lone_live w b ∙ l)) ∙ sym (strode_dead k all p wall x [] none l)
  dead_case [] (d ∷ ds) h w l =
      dead_on [] (d ∷ ds) w d ds l refl
      ∙ last_stand k all (onward_from p d ds) (led_wall p.length d.at wall) (some d.at) h
      ∙ sym (strode_dead k all p wall x [] (some d.at) l)

strides : (k : ℕ) (all : List Entry) (p : Place) (e : Ending) (b wall : ℕ) (x : Entry) (xs cs : List Entry) → k ≤ suc (length xs)
    → Lone all (x ∷ xs) cs → Alike k all p e b wall x xs cs
unfolding swept_stand strode
strides zero all p e b wall x xs cs h w = refl
strides (suc k) all p e b wall x xs cs h w =
    go _ _ refl refl (λ (q : Place) (v : ℕ) (y : Entry) (ys ds : List Entry). strides k all q Ending.Tail 0x00 v y ys ds) where
      go : (t u : Bool) → live all x ≡ t → fits p (size x) ≡ u
          → ((q : Place) (v : ℕ) (y : Entry) (ys ds : List Entry) → k ≤ suc (length ys) → Lone all (y ∷ ys) ds
          → Alike k all q Ending.Tail 0x00 v y ys ds)
          → Alike (suc k) all p e b wall x xs cs
      go true true l s ih = live_case k all p e b wall x ih xs cs (omega arith) w l s
      go true false l s ih = full_case k all p e b wall x ih xs cs w l s
      go false u l s ih = dead_case k all p e b wall x ih xs cs (omega arith) w l

-- ---- the whole sweep

no_strides : (k : ℕ) (all : List Entry) (p : Place) (e : Ending) (wall : ℕ) (c : Option ℕ)
    → swept_stand k (record { place = p; entries = []; ending = e }) wall ≡ strode k all p wall [] c
unfolding swept_stand strode stuck at_end
no_strides zero all p e wall c = refl
no_strides (suc k) all p e wall c = refl

-- where a sweep of the reading r ends
abbrev pub sweep_stand : Reading → Stand
sweep_stand r = strode (min 5 (length r.entries)) r.entries r.place (wall_of r) r.entries none

strode_stand : (r : Reading) → any (superseded r.entries) r.entries ≡ false → doubled 0xF8 r.entries ≡ false → (wall : ℕ)
    → swept_stand (min 5 (length r.entries)) r wall ≡ strode (min 5 (length r.entries)) r.entries r.place wall r.entries none
strode_stand r s d wall = go r.entries r.place r.ending s d where
  go : (es : List Entry) (p : Place) (e : Ending) → any (superseded es) es ≡ false → doubled 0xF8 es ≡ false
      → swept_stand (min 5 (length es)) (record { place = p; entries = es; ending = e }) wall ≡ strode (min 5 (length es)) es p wall es none
  go [] p e s d = no_strides (min 5 0) [] p e wall none
  go (x ∷ xs) p e s d =
      ap (λ (us : List Entry). swept_stand (min 5 (suc (length xs))) (record { place = p; entries = x ∷ us; ending = e }) wall)
      (sym (append-nil xs))
      ∙ strides (min 5 (suc (length xs))) (x ∷ xs) p e x.it.low wall x xs [] (omega arith) (lone_first (x ∷ xs) s d)

pub sweep_filled : (im : Image) (r : Reading) → good_length (length im) ≡ true → settled_reading im ≡ give r
    → space_left (sweep_work im r) ≡ space_filled (live_bytes r.entries) (sweep_stand r).place (sweep_stand r).wall
sweep_filled im r n e =
    let k : ℕ = min 5 (length r.entries) in
    let known = settled_known im r e in
    let v = settled_rested im r e in
    let w = sweep_leaves im r (good (length im) n) v in
    let is : swept_stand k r (wall_of r) ≡ sweep_stand r = strode_stand r known.1.single known.0.once (wall_of r) in
    let at : (swept_reading k r).place ≡ (sweep_stand r).place = sym (stand_place k r (wall_of r)) ∙ ap (λ (s : Stand). s.place) is in
    let N : (sweep_stand r).place.length ≡ r.place.length = ap (λ (p : Place). p.length) (sym at) ∙ stand_length k r in
    w.told
    ∙ filled_is (swept_reading k r) (live_bytes r.entries) (sweep_stand r).wall (sweep_stand r).place
    (ap total (sym w.told) ∙ w.sum ∙ sym (N ∙ (reads_head v.reads).1)) (sweep_live im r n e) at
    (sweep_marked k im (good (length im) n) r v ∙ ap (swept_marker k r) (first_told r)
    ∙ stand_marker k r (wall_of r) r.place.length refl
    ∙ ap₂ (λ (n : ℕ) (s : Stand). marker_at n s.wall) (sym N) is)
