-- What a planned move leaves: nothing where there is none; else its steps, and a place, a cursor and a first copy to go on from.
use Rattle.std.specs.Prelude.{ℕ, suc, ◌+◌, ◌*◌, ◌%◌, ◌≤◌, ◌<◌, ◌^◌, ◌≡◌, refl, Bool, true, false, ◌&&◌, not}
use Rattle.std.specs.Prelude.{List, [], ◌∷◌, ◌++◌, length, eqb, ltb, None, Some}
use Rattle.std.proofs.Common.{arith, sym, ap, ap₂, subst, ◌∙◌}
use Rattle.std.proofs.Math.Option.{some}
use Rattle.spec.specs.declared.Place.{Place}
use Rattle.spec.specs.Step.{Image, Step}
use Rattle.spec.specs.Geometry.{floor}
use Rattle.spec.specs.Record.{Entry, name_of, content_of, size, size_of}
use Rattle.spec.specs.Files.{live}
use Rattle.spec.specs.Place.{fits, fits_at_tail, address, place_after}
use Rattle.spec.specs.Placed.{PlaceSound}
use Rattle.spec.specs.Write.{put_steps}
use Rattle.planning.specs.Planned.{come_round, copied_place, led_place, walked}
use Rattle.chain.specs.declared.Cursor.{Cursor}
use Rattle.chain.specs.declared.Spot.{Spot}
use Rattle.chain.specs.Cursor.{CursorSound}
use Rattle.chain.specs.Rest.{entry_of, rest}
use Rattle.chain.specs.Fold.{Whole, name_length_is, content_length_is}
use Rattle.writing.specs.Placing.{placed_inside}
use Rattle.writing.specs.Put.{Ready}
use Rattle.window.specs.declared.Emitter.{Emitter}
use Rattle.planner.specs.Answers.{Copied, Moved}
use Rattle.planner.specs.declared.Walk.{Walk}
use Rattle.window.specs.Handed.{Handed, handed_both}
use Rattle.planner.specs.Walk.{copy_entry, first_of, going_on, walked_full, walked_live, walked_dead, walked_end}

-- ---- what a move goes by

-- the copy lies in an image of this length
abbrev pub Below : Copied → ℕ → Type 0
Below None N = Unit {0}
Below (Some a) N = a < N

-- a place in an image of this length, with its tail on a boundary
pub record Walkable (N : ℕ) (p : Place) : Type 0 where
  pub whole : p.length ≡ N
  pub sound : PlaceSound p
  pub even : p.tail % 8 ≡ 0
  pub eights : N % 8 ≡ 0

-- all that is known where a sweep stands
pub record Known (image : Image) (k : Walk) : Type 0 where
  pub cursor : CursorSound image k.cursor
  pub place : Walkable (length image) k.place
  pub copy : Below k.copy (length image)

-- the moves that are left there, at most k, of the entry chain `all`
abbrev pub moves_left : Image → ℕ → List Entry → Walk → List (List Step)
moves_left image k all v = walked k all v.place (rest image v.cursor).entries (copy_entry v.copy)

-- ---- what (b) to (f) leave

pub record OnHanded (image : Image) (x : Spot) (past : Cursor) (p : Place) (c : Copied) (w r : Emitter) (v : Walk) : Type 0 where
  pub steps : List Step
  pub handed : Handed w steps r
  pub moves : (k : ℕ) (all : List Entry) (ss : List Step)
      → going_on k all (length image) (entry_of image x) (rest image past).entries p (copy_entry c) ss ≡
      (ss ++ steps) ∷ moves_left image k all v
  pub known : Known image v
  pub few : r.passed ≤ w.passed + (2 * length image + 4)

abbrev pub OverHanded : Image → Spot → Cursor → Place → Copied → Emitter → Emitter → Moved → Type 0
OverHanded image x past p c w r None = (r ≡ w) × ((k : ℕ) (all : List Entry) (ss : List Step)
    → going_on k all (length image) (entry_of image x) (rest image past).entries p (copy_entry c) ss ≡ [])
OverHanded image x past p c w r (Some v) = OnHanded image x past p c w r v

-- ---- what a move of a live X leaves

pub record LiveWent (image : Image) (x : Spot) (past : Cursor) (p : Place) (c : Copied) (w r : Emitter) (v : Walk) : Type 0 where
  pub steps : List Step
  pub handed : Handed w steps r
  pub moves : (k : ℕ) (all : List Entry) → live all (entry_of image x) ≡ true
      → walked (suc k) all p (entry_of image x ∷ (rest image past).entries) (copy_entry c) ≡ steps ∷ moves_left image k all v
  pub known : Known image v
  pub few : r.passed ≤ w.passed + 2 ^ 27

abbrev pub LiveHanded : Image → Spot → Cursor → Place → Copied → Emitter → Emitter → Moved → Type 0
LiveHanded image x past p c w r None = (r ≡ w) × ((k : ℕ) (all : List Entry) → live all (entry_of image x) ≡ true
    → walked (suc k) all p (entry_of image x ∷ (rest image past).entries) (copy_entry c) ≡ [])
LiveHanded image x past p c w r (Some v) = LiveWent image x past p c w r v

-- ---- what a whole move leaves, of the entry chain `all`

pub record Went (image : Image) (all : List Entry) (v : Walk) (w : Emitter) (u : Walk) (r : Emitter) : Type 0 where
  pub steps : List Step
  pub handed : Handed w steps r
  pub moves : (k : ℕ) → moves_left image (suc k) all v ≡ steps ∷ moves_left image k all u
  pub known : Known image u
  pub few : r.passed ≤ w.passed + 2 ^ 27

abbrev pub MoveHanded : Image → List Entry → Walk → Emitter → Emitter → Moved → Type 0
MoveHanded image all v w r None = (r ≡ w) × ((k : ℕ) → moves_left image (suc k) all v ≡ [])
MoveHanded image all v w r (Some u) = Went image all v w u r

-- ---- places stay good

round_walkable : (N : ℕ) (p : Place) → Walkable N p → Walkable N (come_round p)
unfolding come_round
round_walkable N p g = go _ refl where
  go : (t : Bool) → not p.turned && eqb p.tail p.length && ltb 0 (floor p.head) ≡ t → Walkable N (come_round p)
  go true e =
      rw (come_round, e) (record {
        whole = g.whole;
        sound = record { inside = g.sound.inside; short = g.sound.short };
        even = refl;
        eights = g.eights;
      })
  go false e = rw (come_round, e) g

pub led_walkable : (N : ℕ) (p : Place) (y : ℕ) → Walkable N p → y < N → Walkable N (led_place p y)
unfolding led_place
led_walkable N p y g h =
    round_walkable N _ (record {
      whole = g.whole;
      sound = record { inside = omega (arith, g.whole); short = g.sound.short };
      even = g.even;
      eights = g.eights;
    })

address_even : (p : Place) (s : ℕ) → p.tail % 8 ≡ 0 → address p s % 8 ≡ 0
unfolding address
address_even p s e = go (fits_at_tail p s) refl where
  go : (t : Bool) → fits_at_tail p s ≡ t → address p s % 8 ≡ 0
  go true f = rw (address, f) e
  go false f = rw (address, f) refl

pub copied_walkable : (N : ℕ) (p : Place) (s : ℕ) → Walkable N p → s % 8 ≡ 0 → Walkable N (copied_place p s)
unfolding copied_place place_after
copied_walkable N p s g h =
    round_walkable N (place_after p s) (record {
      whole = g.whole;
      sound = record { inside = g.sound.inside; short = g.sound.short };
      even = omega (arith, address_even p s g.even);
      eights = g.eights;
    })

pub size_even : (n d : ℕ) → size_of n d % 8 ≡ 0
size_even n d = omega arith

-- a copy that fits can be handed out
pub walk_ready : (N : ℕ) (p : Place) (n d passed : ℕ) → Walkable N p → fits p (size_of n d) ≡ true → n ≤ 63 → passed ≤ 2 ^ 31
    → Ready p p.length n d passed
walk_ready N p n d passed g f l h =
    record {
      sound = g.sound;
      whole = refl;
      taken = f;
      named = l;
      gap = λ t u. omega (arith, g.even, g.eights, g.whole);
      few = omega (arith, placed_inside p (size_of n d) g.sound f, g.sound.short);
    }

-- ---- (a), then (b) to (f)

pub copied_is : (p : Place) (z : ℕ) → come_round (place_after p z) ≡ copied_place p z
unfolding copied_place
copied_is p z = refl

pub first_below : (c : Copied) (a N : ℕ) → Below c N → a < N → Below (first_of c a) N
first_below None a N b h = h
first_below (Some i) a N b h = b

-- with a copy made there is a Y
never_ends : (k : ℕ) (all : List Entry) (N : ℕ) (x : Entry) (xs : List Entry) (p : Place) (c : Copied) (a : ℕ) (ss : List Step)
    → going_on k all N x xs p (copy_entry (first_of c a)) ss ≡ [] → ⊥
never_ends k all N x [] p None a ss e = let z : ◌≡◌ {A = ℕ} 0 1 = cc in omega arith
never_ends k all N x [] p (Some b) a ss e = let z : ◌≡◌ {A = ℕ} 0 1 = cc in omega arith
never_ends k all N x (y ∷ xs) p c a ss e = let z : ◌≡◌ {A = ℕ} 0 1 = cc in omega arith

module _ (image : Image) (x : Spot) (past : Cursor) (p : Place) (c : Copied) (whole : Whole image x)
    (good : Walkable (length image) p) where
  size_is : size (entry_of image x) ≡ size_of x.n x.d
  size_is = ap₂ size_of (name_length_is image x whole) (content_length_is image x whole)

  pub live_full : (w : Emitter) → fits p (size_of x.n x.d) ≡ false → LiveHanded image x past p c w w None
  live_full w f = (
    refl,
    λ k all l. walked_full k all p (entry_of image x) (rest image past).entries (copy_entry c) l
        (ap (fits p) size_is ∙ f),
  )

  module _ (f : fits p (size_of x.n x.d) ≡ true) (a : ℕ) (at : address p (size_of x.n x.d) ≡ a) (q : Place)
      (after : place_after p (size_of x.n x.d) ≡ q) where
    abbrev z : ℕ
    z = size_of x.n x.d

    pub copy_inside : a < length image
    copy_inside = omega (arith, placed_inside p z good.sound f, good.whole)

    pub copy_walkable : Walkable (length image) (come_round q)
    copy_walkable =
        subst (Walkable (length image)) (sym (copied_is p z) ∙ ap come_round after)
        (copied_walkable (length image) p z good (size_even x.n x.d))

    live_walked : (k : ℕ) (all : List Entry) → live all (entry_of image x) ≡ true
        → walked (suc k) all p (entry_of image x ∷ (rest image past).entries) (copy_entry c)
        ≡ going_on k all (length image) (entry_of image x) (rest image past).entries (come_round q) (copy_entry (first_of c a))
        (put_steps p (some (entry_of image x)) (name_of (entry_of image x)) (content_of (entry_of image x)))
    live_walked k all l =
        let v = entry_of image x in
        let ss = put_steps p (some v) (name_of v) (content_of v) in
        walked_live k all p v (rest image past).entries c a l (ap (fits p) size_is ∙ f) (ap (address p) size_is ∙ at)
        ∙ ap₂ (λ (N : ℕ) (r : Place). going_on k all N v (rest image past).entries r (copy_entry (first_of c a)) ss) good.whole
        (ap (copied_place p) size_is ∙ sym (copied_is p z) ∙ ap come_round after)

    pub live_over : (w b r : Emitter) (m : Moved)
        → Handed w (put_steps p (some (entry_of image x)) (name_of (entry_of image x)) (content_of (entry_of image x))) b
        → b.passed ≤ w.passed + 2 ^ 25
        → OverHanded image x past (come_round q) (first_of c a) b r m
        → LiveHanded image x past p c w r m
    live_over w b r None h few o =
        absurd (never_ends 0 [] (length image) (entry_of image x) (rest image past).entries (come_round q) c a [] (o.1 0 [] []))
    live_over w b r (Some v) h few o =
        record {
          steps = _;
          handed = handed_both h o.handed;
          moves = λ k all l. live_walked k all l ∙ o.moves k all _;
          known = o.known;
          few = omega (arith, o.few, good.sound.short, good.whole);
        }

-- ---- a whole move, by what stands at the cursor

module _ (image : Image) (all : List Entry) (v : Walk) (good : Known image v) where
  pub move_none : (w : Emitter) → (rest image v.cursor).entries ≡ [] → MoveHanded image all v w w None
  move_none w e = (
    refl,
    λ k. ap (λ (xs : List Entry). walked (suc k) all v.place xs (copy_entry v.copy)) e
        ∙ walked_end (suc k) all v.place (copy_entry v.copy),
  )

  module _ (x : Spot) (past : Cursor) (e : (rest image v.cursor).entries ≡ entry_of image x ∷ (rest image past).entries) where
    here : (k : ℕ) → moves_left image (suc k) all v
        ≡ walked (suc k) all v.place (entry_of image x ∷ (rest image past).entries) (copy_entry v.copy)
    here k = ap (λ (xs : List Entry). walked (suc k) all v.place xs (copy_entry v.copy)) e

    pub move_live : (w r : Emitter) (m : Moved) → live all (entry_of image x) ≡ true
        → LiveHanded image x past v.place v.copy w r m → MoveHanded image all v w r m
    move_live w r None l o = (o.0, λ k. here k ∙ o.1 k all l)
    move_live w r (Some u) l o =
        record { steps = o.steps; handed = o.handed; moves = λ k. here k ∙ o.moves k all l; known = o.known; few = o.few }

    dead_walked : (k : ℕ) → live all (entry_of image x) ≡ false
        → moves_left image (suc k) all v
        ≡ going_on k all (length image) (entry_of image x) (rest image past).entries v.place (copy_entry v.copy) []
    dead_walked k l =
        here k ∙ walked_dead k all v.place (entry_of image x) (rest image past).entries (copy_entry v.copy) l
        ∙ ap (λ (N : ℕ). going_on k all N (entry_of image x) (rest image past).entries v.place (copy_entry v.copy) [])
        good.place.whole

    pub move_dead : (w r : Emitter) (m : Moved) → live all (entry_of image x) ≡ false
        → OverHanded image x past v.place v.copy w r m → MoveHanded image all v w r m
    move_dead w r None l o = (o.0, λ k. dead_walked k l ∙ o.1 k all [])
    move_dead w r (Some u) l o =
        record {
          steps = o.steps;
          handed = o.handed;
          moves = λ k. dead_walked k l ∙ o.moves k all [];
          known = o.known;
          few = omega (arith, o.few, good.place.sound.short, good.place.whole);
        }
