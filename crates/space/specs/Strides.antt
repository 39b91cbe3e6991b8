-- A sweep that is only walked: one move, and what the next one goes by. The first copy is told by its address.
use Rattle.std.specs.Prelude.{ℕ, suc, ◌≡◌, refl, Bool, true, false, List, [], ◌∷◌, length, None, Some}
use Rattle.std.proofs.Common.{sym, ap, ◌∙◌}
use Rattle.std.proofs.Math.Option.{Option, none, some}
use Rattle.spec.specs.declared.Place.{Place}
use Rattle.spec.specs.Step.{Image}
use Rattle.spec.specs.Record.{Entry, size, size_of}
use Rattle.spec.specs.Files.{live}
use Rattle.spec.specs.Place.{fits, address, with_marker, place_after}
use Rattle.planning.specs.Planned.{come_round, copied_place, led_place, next_of}
use Rattle.planning.specs.Walls.{put_wall, led_wall}
use Rattle.planning.specs.Strides.{Stand, stand, next_at, first_at, led_on, strode, strode_live, strode_dead, strode_end, strode_none}
use Rattle.chain.specs.declared.Cursor.{Cursor}
use Rattle.chain.specs.declared.Spot.{Spot}
use Rattle.chain.specs.Rest.{entry_of, rest}
use Rattle.chain.specs.Fold.{Whole}
use Rattle.chain.specs.Sums.{size_is}
use Rattle.planner.specs.Answers.{Copied}
use Rattle.space.specs.declared.Course.{Course}
use Rattle.space.specs.Answers.{Strode}
use Rattle.planner.specs.Walk.{copy_entry, address_of, first_of}
use Rattle.space.specs.Space.{put_by}
use Rattle.planner.specs.Moves.{Walkable, Known, copied_is}

-- ---- addresses

abbrev pub at_of : Copied → Option ℕ
at_of None = none
at_of (Some a) = some a

-- the code's Y
next_is : (xs : List Entry) (c : Copied) → at_of (address_of (next_of xs (copy_entry c))) ≡ next_at xs (at_of c)
next_is [] None = refl
next_is [] (Some a) = refl
next_is (y ∷ xs) c = refl

first_is : (c : Copied) (a : ℕ) → at_of (first_of c a) ≡ first_at (at_of c) a
first_is None a = refl
first_is (Some b) a = refl

-- ---- what is left

-- where the sweep ends, at most k moves from u on
abbrev pub stand_left : Image → ℕ → List Entry → Course → Stand
stand_left image k all u = strode k all u.walk.place u.wall (rest image u.walk.cursor).entries (at_of u.walk.copy)

-- after a move, which goes on or stops at s
abbrev pub onward : Image → ℕ → List Entry → Stand → Strode → Stand
onward image k all s None = s
onward image k all s (Some u) = stand_left image k all u

abbrev pub KnownOn : Image → Strode → Type 0
KnownOn image None = Unit {0}
KnownOn image (Some u) = Known image u.walk

-- (b) to (f)
pub record OverStrode (image : Image) (past : Cursor) (p : Place) (c : Copied) (wall : ℕ) (r : Strode) : Type 0 where
  pub is : (k : ℕ) (all : List Entry) (s : Stand)
      → led_on s (next_at (rest image past).entries (at_of c))
      (λ y. strode k all (led_place p y) (led_wall (length image) y wall) (rest image past).entries (at_of c)) ≡ onward image k all s r
  pub known : KnownOn image r

-- a move of a live X
pub record LiveStrode (image : Image) (x : Spot) (past : Cursor) (p : Place) (c : Copied) (wall : ℕ) (r : Strode) : Type 0 where
  pub is : (k : ℕ) (all : List Entry) → live all (entry_of image x) ≡ true
      → strode (suc k) all p wall (entry_of image x ∷ (rest image past).entries) (at_of c) ≡ onward image k all (stand p wall) r
  pub known : KnownOn image r

-- any move
pub record StrodeOn (image : Image) (all : List Entry) (u : Course) (r : Strode) : Type 0 where
  pub is : (k : ℕ) → stand_left image (suc k) all u ≡ onward image k all (stand u.walk.place u.wall) r
  pub known : KnownOn image r

-- ---- (b) to (f)

module _ (image : Image) (past : Cursor) (p : Place) (c : Copied) (wall : ℕ) where
  abbrev xs : List Entry
  xs = (rest image past).entries

  pub over_stop : address_of (next_of xs (copy_entry c)) ≡ None → OverStrode image past p c wall None
  over_stop e =
      let none_is : next_at xs (at_of c) ≡ none = sym (next_is xs c) ∙ ap at_of e in
      record {
        is = λ k all s.
            ap (λ (o : Option ℕ). led_on s o (λ y. strode k all (led_place p y) (led_wall (length image) y wall) xs (at_of c))) none_is;
        known = tt;
      }

  pub over_on : (y : ℕ) → address_of (next_of xs (copy_entry c)) ≡ Some y
      → Known image (record { cursor = past; place = led_place p y; copy = c })
      → OverStrode image past p c wall
      (Some (record { walk = record { cursor = past; place = led_place p y; copy = c }; wall = led_wall (length image) y wall }))
  over_on y e w =
      let some_is : next_at xs (at_of c) ≡ some y = sym (next_is xs c) ∙ ap at_of e in
      record {
        is = λ k all s.
            ap (λ (o : Option ℕ). led_on s o (λ y. strode k all (led_place p y) (led_wall (length image) y wall) xs (at_of c))) some_is;
        known = w;
      }

-- ---- a live X

module _ (image : Image) (x : Spot) (past : Cursor) (p : Place) (c : Copied) (wall : ℕ) (whole : Whole image x)
    (good : Walkable (length image) p)
  where
    abbrev z : ℕ
    z = size_of x.n x.d

    abbrev e : Entry
    e = entry_of image x

    pub live_stop : fits p z ≡ false → LiveStrode image x past p c wall None
    live_stop f =
        record {
          is = λ k all l. strode_live k all p wall e (rest image past).entries (at_of c) false l (ap (fits p) (size_is whole) ∙ f);
          known = tt;
        }

    pub live_on : (a : ℕ) (m : Bool) (q : Place) (r : Strode) → fits p z ≡ true → address p z ≡ a → with_marker p z ≡ m → place_after p z
        ≡ q
        → OverStrode image past (come_round q) (first_of c a) (elim m as (λ b. ℕ) [ true ↦ p.tail | false ↦ wall ]) r
        → LiveStrode image x past p c wall r
    live_on a m q r f at mark after o =
        let xs : List Entry = (rest image past).entries in
        let sz = size_is whole in
        let place : copied_place p (size e) ≡ come_round q = ap (copied_place p) sz ∙ sym (copied_is p z) ∙ ap come_round after in
        let put : put_wall p (size e) wall ≡ elim m as (λ b. ℕ) [ true ↦ p.tail | false ↦ wall ] =
        ap (λ (i : ℕ). put_wall p i wall) sz ∙ put_by p z wall m mark in
        let first : first_at (at_of c) (address p (size e)) ≡ at_of (first_of c a) =
        ap (first_at (at_of c)) (ap (address p) sz ∙ at) ∙ sym (first_is c a) in
        record {
          is = λ k all l.
              strode_live k all p wall e xs (at_of c) true l (ap (fits p) sz ∙ f)
              ∙ (λ i. led_on (stand p wall) (next_at xs (first i))
              (λ y. strode k all (led_place (place i) y) (led_wall (good.whole i) y (put i)) xs (first i)))
              ∙ o.is k all (stand p wall);
          known = o.known;
        }

-- ---- any move

module _ (image : Image) (all : List Entry) (u : Course) where
  abbrev p : Place
  p = u.walk.place

  abbrev c : Option ℕ
  c = at_of u.walk.copy

  pub stride_none : (rest image u.walk.cursor).entries ≡ [] → StrodeOn image all u None
  stride_none e =
      record {
        is = λ k. ap (λ (xs : List Entry). strode (suc k) all p u.wall xs c) e
            ∙ strode_end (suc k) all p u.wall c;
        known = tt;
      }

  module _ (x : Spot) (past : Cursor) (e : (rest image u.walk.cursor).entries ≡ entry_of image x ∷ (rest image past).entries)
      (r : Strode) where
    pub stride_alive : live all (entry_of image x) ≡ true → LiveStrode image x past p u.walk.copy u.wall r → StrodeOn image all u r
    stride_alive l o =
        record { is = λ k. ap (λ (xs : List Entry). strode (suc k) all p u.wall xs c) e ∙ o.is k all l; known = o.known }

    pub stride_dead : live all (entry_of image x) ≡ false → Walkable (length image) p
        → OverStrode image past p u.walk.copy u.wall r → StrodeOn image all u r
    stride_dead l g o =
        record {
          is = λ k.
              ap (λ (xs : List Entry). strode (suc k) all p u.wall xs c) e
              ∙ strode_dead k all p u.wall (entry_of image x) (rest image past).entries c l
              ∙ ap (λ (N : ℕ). led_on (stand p u.wall) (next_at (rest image past).entries c)
              (λ y. strode k all (led_place p y) (led_wall N y u.wall) (rest image past).entries c)) g.whole
              ∙ o.is k all (stand p u.wall);
          known = o.known;
        }

-- ---- one after another

-- at most `left` moves from u on end where the sweep does
pub record Striding (image : Image) (all : List Entry) (goal : Stand) (left : ℕ) (u : Course) : Type 0 where
  pub same : stand_left image left all u ≡ goal
  pub known : Known image u.walk

module _ {image : Image} {all : List Entry} {goal : Stand} {left : ℕ} {u : Course} (w : Striding image all goal left u) where
  pub striding_end : left ≡ 0 → stand u.walk.place u.wall ≡ goal
  striding_end z =
      sym (strode_none all u.walk.place u.wall (rest image u.walk.cursor).entries (at_of u.walk.copy))
      ∙ ap (λ (k : ℕ). stand_left image k all u) (sym z) ∙ w.same

  pub striding_stop : (k : ℕ) → left ≡ suc k → StrodeOn image all u None → stand u.walk.place u.wall ≡ goal
  striding_stop k z o = sym (o.is k) ∙ ap (λ (i : ℕ). stand_left image i all u) (sym z) ∙ w.same

  pub striding_more : (k : ℕ) → left ≡ suc k → (v : Course) → StrodeOn image all u (Some v) → Striding image all goal k v
  striding_more k z v o = record { same = sym (o.is k) ∙ ap (λ (i : ℕ). stand_left image i all u) (sym z) ∙ w.same; known = o.known }
