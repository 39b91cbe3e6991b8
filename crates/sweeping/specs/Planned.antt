-- What a move will do with the head's record, and what the copy is given.
use Prim.Native.Nat.{ℕ, ◌+◌, ◌^◌}
use Rattle.std.proofs.Common.{arith, ◌∙◌}
use Rattle.std.specs.Prelude.{◌≡◌, refl, Bool, length, get_or}
use Rattle.std.proofs.Math.Path.{sym, ap, ap₂, subst}
use Rattle.std.proofs.Math.Bool.{true, false}
use mathlib.Core.List.{List, [], ◌∷◌}
use Rattle.std.specs.Option.{is_some}
use Rattle.spec.specs.declared.Place.{Place}
use Rattle.spec.specs.Step.{Image}
use Rattle.spec.specs.Record.{size_of, size, Entry, name_of, content_of}
use Rattle.spec.specs.Chain.{Reading, reading_from}
use Rattle.spec.specs.Files.{live}
use Rattle.spec.specs.Place.{fits}
use Rattle.spec.specs.Placed.{Placed, placed, PlaceSound}
use Rattle.spec.specs.Sweep.{no_room, stuck}
use Rattle.flash.specs.declared.Meter.{Meter}
use Rattle.flash.specs.Did.{Did}
use Rattle.flash.specs.Meters.{CanCount, AskedMost}
use Rattle.record.specs.Within.{NameLength}
use Rattle.chain.specs.declared.Cursor.{Cursor}
use Rattle.chain.specs.declared.Spot.{Spot}
use Rattle.chain.specs.declared.Item.{Item}
use Rattle.chain.specs.Cursor.{advance}
use Rattle.chain.specs.Rest.{Run, entry_of, rest}
use Rattle.chain.specs.Fold.{Whole, name_length_is, content_length_is, NotRecord, rest_done}
use Rattle.reading.specs.Read.{first_cursor}
use Rattle.writing.specs.Placing.{placed_fits}
use Rattle.writing.specs.Put.{Ready}
use Rattle.moving.specs.Copied.{entry_at}
use Rattle.moving.specs.Copy.{copy_of, HeadEnds, copy_few, copy_keeps_low}
use Rattle.sweeping.specs.declared.Plan.{Plan}
use Rattle.sweeping.specs.MoveSteps.{copying}
use Rattle.laws.specs.Sweep.{room_on, room_live, room_dead, copy_live, copy_dead}
use Rattle.sweeping.specs.Stuck.{stuck_empty, room_empty, stuck_live, stuck_last, stuck_not}
use Rattle.reading.specs.Standing.{Led, Taken, Standing, stands, listed, head_at, stands_past, none_listed, two_listed}

-- the place of the reading from its head on
pub record PlaceOf (s : Image) (p : Place) : Type 0 where
  pub led : Led s p.head
  pub same : p ≡ (reading_from s p.head).place

-- the head's record is live and fits: its copy
pub record Copies (s : Image) (p : Place) (n d : ℕ) : Type 0 where
  pub on : stuck (reading_from s p.head) ≡ false
  pub steps : copying s p.head ≡ copy_of p (entry_at s p.head n d)
  pub ends : HeadEnds p (size_of n d)
  pub taken : fits p (size_of n d) ≡ true
  pub named : NameLength n

-- there is no further move
pub record NoMove (s : Image) (h : ℕ) (full : Bool) : Type 0 where
  pub stop : stuck (reading_from s h) ≡ true
  pub room : no_room (reading_from s h) (reading_from s h).entries ≡ full

abbrev pub Planned : Image → Place → Plan → Type 0
Planned s p (Plan.Stop b) = NoMove s p.head b
Planned s p Plan.Leave = (stuck (reading_from s p.head) ≡ false) × (copying s p.head ≡ [])
Planned s p (Plan.Copy n d) = Copies s p n d

-- there is a move
abbrev pub Going : Image → Place → Plan → Type 0
Going s p (Plan.Stop b) = ⊥
Going s p Plan.Leave = (stuck (reading_from s p.head) ≡ false) × (copying s p.head ≡ [])
Going s p (Plan.Copy n d) = Copies s p n d

pub going_on : (s : Image) (p : Place) (x : Plan) → Going s p x → stuck (reading_from s p.head) ≡ false
going_on s p (Plan.Stop b) g = absurd g
going_on s p Plan.Leave g = g.0
going_on s p (Plan.Copy n d) g = g.on

-- whether the head's record has no room
abbrev pub full : Plan → Bool
full (Plan.Stop b) = b
full Plan.Leave = false
full (Plan.Copy n d) = false

pub full_is : (s : Image) (p : Place) (x : Plan) → Planned s p x
    → full x ≡ no_room (reading_from s p.head) (reading_from s p.head).entries
full_is s p (Plan.Stop b) w = sym w.room
full_is s p Plan.Leave w = sym (room_on (reading_from s p.head) w.0)
full_is s p (Plan.Copy n d) w = sym (room_on (reading_from s p.head) w.on)

-- ---- how the code comes to it

module _ {s : Image} {p : Place} (w : PlaceOf s p) where
  pub plan_none : {k : Cursor} (q : Item) → k ≡ first_cursor s p.head → q ≡ advance s k → NotRecord q → NoMove s p.head false
  plan_none {k} q f e z =
      let r : Reading = reading_from s p.head in
      let none : r.entries ≡ [] = none_listed s p.head w.led q f e z in
      record { stop = stuck_empty r r.entries refl none; room = ap (no_room r) none ∙ room_empty r }

  module _ {x : Spot} {c : Cursor} (t : Taken s (first_cursor s p.head) x c) where
    abbrev first : (reading_from s p.head).entries ≡ entry_of s x ∷ (rest s c).entries
    first = listed s p.head w.led t

    living : (b : Bool) → b ≡ live (rest s (first_cursor s p.head)).entries (entry_of s x)
        → live (entry_of s x ∷ (rest s c).entries) (entry_of s x) ≡ b
    living b e = sym (e ∙ ap (λ (r : Run). live r.entries (entry_of s x)) t.passes.split)

    size_is : size (entry_of s x) ≡ size_of x.n x.d
    size_is = ap₂ size_of (name_length_is s x t.passes.whole) (content_length_is s x t.passes.whole)

    fitting : (b : Bool) → fits p (size_of x.n x.d) ≡ b → fits (reading_from s p.head).place (size (entry_of s x)) ≡ b
    fitting b e = ap₂ fits (sym w.same) size_is ∙ e

    module _ {k : Cursor} {b : Bool} (q : k ≡ first_cursor s p.head) (f : b ≡ live (rest s k).entries (entry_of s x)) where
      e : b ≡ live (rest s (first_cursor s p.head)).entries (entry_of s x)
      e = f ∙ ap (λ (v : Cursor). live (rest s v).entries (entry_of s x)) q

      pub plan_full : {z : ℕ} {a : Placed} → b ≡ true → z ≡ size_of x.n x.d → a ≡ placed p z → is_some a ≡ false
          → NoMove s p.head true
      plan_full l g i j =
          let r : Reading = reading_from s p.head in
          let no : fits r.place (size (entry_of s x)) ≡ false = fitting false
          (sym (placed_fits p (size_of x.n x.d)) ∙ ap is_some (ap (placed p) (sym g) ∙ sym i) ∙ j) in
          record {
            stop = stuck_live r (entry_of s x) (rest s c).entries false first (living b e ∙ l) no;
            room = ap (no_room r) first ∙ room_live r (entry_of s x) (rest s c).entries false (living b e ∙ l) no;
          }

      pub plan_copy : {y : ℕ} {v : Placed} → b ≡ true → y ≡ size_of x.n x.d → v ≡ placed p y
          → is_some v ≡ true → Copies s p x.n x.d
      unfolding copying
      plan_copy {y} {v} l g j k =
          let r : Reading = reading_from s p.head in
          let z : ℕ = size_of x.n x.d in
          let at : x.at ≡ p.head = head_at s p.head w.led t in
          let stand : Standing (length s) p.head (p.head + z) p = subst (Standing (length s) p.head (p.head + z)) (sym w.same)
          (stands_past s p.head w.led t) in
          let taken : fits p z ≡ true = sym (placed_fits p z) ∙ ap is_some (ap (placed p) (sym g) ∙ sym j) ∙ k in
          record {
            on = stuck_live r (entry_of s x) (rest s c).entries true first (living b e ∙ l) (fitting true taken);
            steps =
                copy_live r (entry_of s x) (rest s c).entries first (living b e ∙ l)
                ∙ ap₂ (λ (v : Place) (i : ℕ). copy_of v (entry_at s i x.n x.d)) (sym w.same) at;
            ends = record { inside = omega (arith, t.passes.whole.fits, stand.whole); before = stand.up };
            taken = taken;
            named = omega (arith, t.passes.onward.name);
          }

      pub plan_last : b ≡ false → (r : Item) → r ≡ advance s c → NotRecord r → NoMove s p.head false
      plan_last l r g z =
          let v : Reading = reading_from s p.head in
          record {
            stop = stuck_last v (entry_of s x) (rest s c).entries first (ap (λ (i : Run). i.entries) (rest_done s c r g z))
                (living b e ∙ l);
            room = ap (no_room v) first ∙ room_dead v (entry_of s x) (rest s c).entries (living b e ∙ l);
          }

      pub plan_leave : {y : Spot} {d : Cursor} → b ≡ false → Taken s c y d
          → (stuck (reading_from s p.head) ≡ false) × (copying s p.head ≡ [])
      unfolding copying
      plan_leave {y} {d} l u =
          let r : Reading = reading_from s p.head in
          let behind : (rest s c).entries ≡ entry_of s y ∷ (rest s d).entries = ap (λ (v : Run). v.entries) u.passes.split in
          let two : r.entries ≡ entry_of s x ∷ (entry_of s y ∷ (rest s d).entries) = two_listed s p.head w.led t u in
          let dead : live (entry_of s x ∷ (entry_of s y ∷ (rest s d).entries)) (entry_of s x) ≡ false =
          sym (ap (λ (es : List Entry). live (entry_of s x ∷ es) (entry_of s x)) behind) ∙ living b e ∙ l in (
            stuck_not r (entry_of s x) (entry_of s y) (rest s d).entries two dead,
            copy_dead r (entry_of s x) (entry_of s y ∷ (rest s d).entries) two
                dead,
          )

-- ---- step (a)

-- its steps, how many they are at most, and the byte at the head, which stays
abbrev Copied : Image → Place → Meter → Image → Meter → Type 0
Copied s p m t r =
    Did s m (copying s p.head) t r × (AskedMost m r (length s + 15) × (get_or t p.head 0 ≡ get_or s p.head 0))

module _ {s : Image} {p : Place} (w : PlaceOf s p) where
  pub sound : PlaceSound p
  sound =
      let o : Standing (length s) p.head p.head p = subst (Standing (length s) p.head p.head) (sym w.same)
      (stands s p.head w.led) in
      record { inside = omega (arith, w.led.inside, o.whole); short = omega (arith, w.led.small, o.whole) }

  pub ready : {n d : ℕ} (m : Meter) → Copies s p n d → CanCount m (2 ^ 31) → Ready p (length s) n d m.asked
  ready m c l =
      let o : Standing (length s) p.head p.head p = subst (Standing (length s) p.head p.head) (sym w.same)
      (stands s p.head w.led) in
      record {
        sound = sound;
        whole = o.whole;
        taken = c.taken;
        named = c.named;
        gap = λ a b. omega (arith, o.even, o.whole, w.led.eights);
        few = omega (arith, c.ends.inside, c.named, o.whole, w.led.small);
      }

  module _ {t : Image} {m r : Meter} where
    pub copied : {n d : ℕ} → Copies s p n d → Did s m (copy_of p (entry_at s p.head n d)) t r → Copied s p m t r
    copied {n} {d} c f =
        let x : Spot = record { at = p.head; n = n; d = d } in
        let long : p.length ≡ length s = (subst (Standing (length s) p.head p.head) (sym w.same)
        (stands s p.head w.led)).whole in
        let v : Whole s x = record { fits = omega (arith, c.ends.inside) } in
        let nl : length (name_of (entry_of s x)) ≡ n = name_length_is s x v in
        let dl : length (content_of (entry_of s x)) ≡ d = content_length_is s x v in
        let z : size (entry_of s x) ≡ size_of n d = ap₂ size_of nl dl in (
          rw c.steps f,
          (
            omega (arith, f.count, copy_few p (entry_of s x), nl, dl, v.fits),
            copy_keeps_low p (entry_of s x) refl (rw z c.ends) (rw z c.taken) f,
          ),
        )
