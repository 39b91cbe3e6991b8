-- Request K3 for one who counts before the first step. The wrap marker is told by a number, the wall: it stands there, or the wall is N and
-- there is none. Live bytes, a place and a wall give all four numbers; dead is what the others leave of N, by the sum.
use Rattle.std.specs.Prelude.{ℕ, ◌+◌, ◌-◌, ◌≡◌, refl, Bool, true, false, not, List, [], ◌∷◌, length, eqb, ltb}
use Rattle.std.proofs.Common.{arith, sym, ap, ap₂, ◌∙◌}
use Rattle.std.proofs.Math.Option.{Option, none, some}
use Rattle.spec.specs.declared.Place.{Place}
use Rattle.spec.specs.declared.Space.{Space}
use Rattle.spec.specs.Step.{Image}
use Rattle.spec.specs.Basics.{give}
use Rattle.spec.specs.Geometry.{good_length}
use Rattle.spec.specs.Record.{Entry, name_ok, size_of}
use Rattle.spec.specs.Chain.{Reading}
use Rattle.spec.specs.Files.{file_named}
use Rattle.spec.specs.Reading.{marked, reading}
use Rattle.spec.specs.Place.{fits_at_tail, with_marker, room}
use Rattle.spec.specs.Door.{settled_reading}
use Rattle.spec.specs.Mount.{mended}
use Rattle.spec.specs.Space.{sizes, live_bytes, dead_bytes, free_bytes, lost_bytes, space_left, put_work}
use Rattle.laws.specs.Tests.{and_right}
use Rattle.laws.specs.Length.{good}
use Rattle.planning.specs.Planned.{copied_place, led_place, mended_reading}
use Rattle.planning.specs.Half.{behind_place}
use Rattle.planning.specs.Known.{accepted_known}
use Rattle.planning.specs.Told.{place_told}
use Rattle.planning.specs.Rested.{settled_rested}
use Rattle.planning.specs.First.{reads_head}
use Rattle.planning.specs.Places.{copied_head, led_length}
use Rattle.planning.specs.Puts.{put_left, room_fits}
use Rattle.planning.specs.Reads.{Reads}
use Rattle.planning.specs.Space.{total, upper, turned_upper, marker_at, marker_told}
use Rattle.planning.specs.Spaces.{space_read, mount_leaves, put_leaves}
use Rattle.planning.specs.MountCounts.{mount_live}
use Rattle.planning.specs.Markers.{put_marker, marker_end, told_turned, told_straight, put_marked}
use Rattle.planning.specs.LedMarkers.{led_marker}
use Rattle.planning.specs.CallMarkers.{mended_marker, mount_marked}
use Rattle.planning.specs.PutCounts.{replaced_bytes, put_live}

-- ---- the wall

-- of a place, with so many bytes in the records at its head or above it
unfoldable pub first_wall : Place → ℕ → ℕ
first_wall p upper = elim p.turned [ true ↦ p.head + upper | false ↦ p.length ]

-- after a record of size s
unfoldable pub put_wall : Place → ℕ → ℕ → ℕ
put_wall p s wall = elim (with_marker p s) [ true ↦ p.tail | false ↦ wall ]

-- when the head goes on to y, in an image of N bytes
unfoldable pub led_wall : ℕ → ℕ → ℕ → ℕ
led_wall N y wall = elim (eqb y 0) [ true ↦ N | false ↦ wall ]

-- where repair 2 passes the first record
unfoldable pub mended_wall : ℕ → List Entry → ℕ → ℕ
mended_wall N [] wall = wall
mended_wall N (x ∷ []) wall = wall
mended_wall N (x ∷ (y ∷ es)) wall = elim (marked y) [ true ↦ led_wall N y.at wall | false ↦ wall ]

-- of what was read first
abbrev pub wall_of : Reading → ℕ
wall_of r = first_wall r.place (sizes (upper r.place.head r.entries))

-- by the sizes of all records: those below the head end at the tail
pub wall_counted : {im : Image} {r : Reading} (all : ℕ) → Reads im r.place.head r → all ≡ sizes r.entries
    → first_wall r.place (all - r.place.tail) ≡ wall_of r
unfolding first_wall
wall_counted {im} {r} all w e = go r.place.turned refl where
  p : Place
  p = r.place

  u : ℕ
  u = sizes (upper p.head r.entries)

  go : (t : Bool) → p.turned ≡ t
      → ◌≡◌ {A = ℕ} (elim t [ true ↦ p.head + (all - p.tail) | false ↦ p.length ])
      (elim t [ true ↦ p.head + u | false ↦ p.length ])
  go true q = ap (λ (k : ℕ). p.head + k) (omega (arith, e, turned_upper w q))
  go false q = refl

-- ---- each tells its marker

pub first_told : (r : Reading) → marker_told r ≡ marker_at r.place.length (wall_of r)
unfolding first_wall
first_told r = go r.place.turned refl where
  p : Place
  p = r.place

  u : ℕ
  u = sizes (upper p.head r.entries)

  go : (t : Bool) → p.turned ≡ t
      → marker_told r ≡ marker_at p.length (elim t as (λ b. ℕ) [ true ↦ p.head + u | false ↦ p.length ])
  go true e = told_turned p r.entries r.ending e
  go false e = told_straight p r.entries r.ending e ∙ sym (marker_end p.length p.length (omega arith))

pub put_walled : (p : Place) (s wall : ℕ) → put_marker p s (marker_at p.length wall) ≡ marker_at p.length (put_wall p s wall)
unfolding put_marker put_wall with_marker marker_at
put_walled p s wall = go (with_marker p s) refl where
  stands : with_marker p s ≡ true → ltb p.tail p.length ≡ true
  stands e = and_right (not (fits_at_tail p s)) (ltb p.tail p.length) e

  go : (t : Bool) → with_marker p s ≡ t
      → elim t as (λ b. Option ℕ) [ true ↦ some p.tail | false ↦ marker_at p.length wall ]
      ≡ marker_at p.length (elim t as (λ b. ℕ) [ true ↦ p.tail | false ↦ wall ])
  go true e = sym (ap (λ (b : Bool). elim b as (λ c. Option ℕ) [ true ↦ some p.tail | false ↦ none ]) (stands e))
  go false e = refl

pub led_walled : (N y wall : ℕ) → led_marker y (marker_at N wall) ≡ marker_at N (led_wall N y wall)
unfolding led_marker led_wall
led_walled N y wall = go (eqb y 0) where
  go : (t : Bool) → elim t as (λ b. Option ℕ) [ true ↦ none | false ↦ marker_at N wall ]
      ≡ marker_at N (elim t as (λ b. ℕ) [ true ↦ N | false ↦ wall ])
  go true = sym (marker_end N N (omega arith))
  go false = refl

mended_walled : (N : ℕ) (es : List Entry) (wall : ℕ) → mended_marker es (marker_at N wall) ≡ marker_at N (mended_wall N es wall)
unfolding mended_marker mended_wall
mended_walled N [] wall = refl
mended_walled N (x ∷ []) wall = refl
mended_walled N (x ∷ (y ∷ es)) wall = go (marked y) where
  go : (t : Bool) → elim t as (λ b. Option ℕ) [ true ↦ led_marker y.at (marker_at N wall) | false ↦ marker_at N wall ]
      ≡ marker_at N (elim t as (λ b. ℕ) [ true ↦ led_wall N y.at wall | false ↦ wall ])
  go true = led_walled N y.at wall
  go false = refl

-- ---- the four numbers

unfoldable pub space_filled : ℕ → Place → ℕ → Space
space_filled live p wall =
    let f = free_bytes p in
    let l = lost_bytes p (marker_at p.length wall) in
    record { live = live; dead = p.length - (live + f + l); free = f; lost = l }

pub filled_is : (r : Reading) (live wall : ℕ) (p : Place) → total (space_read r) ≡ p.length → live_bytes r.entries ≡ live → r.place ≡ p
    → marker_told r ≡ marker_at p.length wall → space_read r ≡ space_filled live p wall
unfolding space_filled
filled_is r live wall p t l q m =
    let m' : Option ℕ = marker_at p.length wall in
    let free : free_bytes r.place ≡ free_bytes p = ap free_bytes q in
    let lost : lost_bytes r.place (marker_told r) ≡ lost_bytes p m' = ap₂ lost_bytes q m in
    let dead : dead_bytes r.entries (marker_told r)
    ≡ p.length - (live + free_bytes p + lost_bytes p m') = less _ _ _ _ _ t l free lost in
    λ i. record { live = l i; dead = dead i; free = free i; lost = lost i } where
      less : (a b c d n : ℕ) {a' c' d' : ℕ} → a + b + c + d ≡ n → a ≡ a' → c ≡ c' → d ≡ d' → b ≡ n - (a' + c' + d')
      less a b c d n e f g h = omega arith

-- ---- mount

behind_length : (p : Place) (es : List Entry) → (behind_place p es).length ≡ p.length
unfolding behind_place
behind_length p [] = refl
behind_length p (x ∷ []) = refl
behind_length p (x ∷ (y ∷ es)) = go (marked y) where
  go : (t : Bool) → (elim t as (λ b. Place) [ true ↦ led_place p y.at | false ↦ p ]).length ≡ p.length
  go true = led_length p y.at
  go false = refl

pub mount_filled : (im : Image) (r : Reading) → good_length (length im) ≡ true → reading im ≡ give r
    → space_left (mended im r)
    ≡ space_filled (live_bytes r.entries) (behind_place r.place r.entries) (mended_wall (length im) r.entries (wall_of r))
mount_filled im r n e =
    let N : r.place.length ≡ length im = (reads_head (accepted_known im r e).reads).1 in
    let N' : (behind_place r.place r.entries).length ≡ length im = behind_length r.place r.entries ∙ N in
    let w = mount_leaves im r n e in
    let p : Place = behind_place r.place r.entries in
    w.told
    ∙ filled_is (mended_reading r) (live_bytes r.entries) (mended_wall (length im) r.entries (wall_of r)) p
    (ap total (sym w.told) ∙ w.sum ∙ sym N') (mount_live r (accepted_known im r e).marks) (place_told r)
    (mount_marked im r n e ∙ ap (mended_marker r.entries) (first_told r ∙ ap (λ (k : ℕ). marker_at k (wall_of r)) N)
    ∙ mended_walled (length im) r.entries (wall_of r)
    ∙ ap (λ (k : ℕ). marker_at k (mended_wall (length im) r.entries (wall_of r))) (sym N'))

-- ---- put

pub put_filled : (im : Image) (r : Reading) (name content : List ℕ) → good_length (length im) ≡ true → settled_reading im ≡ give r
    → name_ok name ≡ true → room r.place name (size_of (length name) (length content)) r.entries ≡ true
    → space_left (put_work name content im r)
    ≡ space_filled ((live_bytes r.entries + size_of (length name) (length content)) - replaced_bytes (file_named name r.entries))
    (copied_place r.place (size_of (length name) (length content)))
    (put_wall r.place (size_of (length name) (length content)) (wall_of r))
put_filled im r name content n e k f =
    let s : ℕ = size_of (length name) (length content) in
    let N' : (copied_place r.place s).length ≡ r.place.length = (copied_head r.place s).1 in
    let v = settled_rested im r e in
    let w = put_leaves im r name content (good (length im) n) v k f in
    w.told
    ∙ filled_is (put_left name content r) ((live_bytes r.entries + s) - replaced_bytes (file_named name r.entries))
    (put_wall r.place s (wall_of r)) (copied_place r.place s)
    (ap total (sym w.told) ∙ w.sum ∙ sym (N' ∙ (reads_head v.reads).1)) (omega (arith, put_live im r name content e k)) refl
    (put_marked name content v (room_fits r.place name s r.entries f) ∙ ap (put_marker r.place s) (first_told r)
    ∙ put_walled r.place s (wall_of r) ∙ ap (λ (j : ℕ). marker_at j (put_wall r.place s (wall_of r))) (sym N'))
