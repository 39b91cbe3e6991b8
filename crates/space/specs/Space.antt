-- Request K3 in the code's steps: the four numbers from live bytes, a place and a wall.
use Rattle.std.specs.Prelude.{ℕ, ◌+◌, ◌-◌, ◌≤◌, ◌<◌, ◌^◌, ◌≡◌, refl, Bool, true, false, List, [], ◌∷◌, length, Ok}
use Rattle.std.proofs.Common.{arith, zero-add, sym, ap, subst, ◌∙◌}
use Rattle.std.proofs.Math.Path.{ap₂}
use borrow.Author.Tests.{eq-eqb, ne_eqb, lt-ltb, le-ltb}
use Rattle.spec.specs.declared.Place.{Place}
use Rattle.spec.specs.Step.{Image}
use Rattle.spec.specs.Basics.{Each, keep}
use Rattle.spec.specs.Geometry.{floor}
use Rattle.spec.specs.Record.{Entry}
use Rattle.spec.specs.Place.{with_marker, place_after}
use Rattle.spec.specs.Space.{sizes, live_bytes, free_bytes, lost_bytes}
use Rattle.laws.specs.Settled.{second_marked}
use Rattle.planning.specs.Planned.{come_round, copied_place}
use Rattle.planning.specs.Told.{behind_place}
use Rattle.planning.specs.Places.{round_keeps, led_head, led_length}
use Rattle.planning.specs.Reads.{Reads}
use Rattle.planning.specs.Space.{marker_at}
use Rattle.planning.specs.Walls.{first_wall, put_wall, led_wall, mended_wall, wall_of, wall_counted, space_filled}
use Rattle.reading.specs.declared.Survey.{Survey}
use Rattle.chain.specs.declared.Tally.{Tally}
use Rattle.chain.specs.Rest.{entry_of}
use Rattle.chain.specs.FileLaws.{is_file}
use Rattle.chain.specs.Sums.{sizes_most}
use Rattle.reading.specs.Read.{first_cursor, reading_of, Surveyed, Quiet}
use Rattle.chain.specs.Tally.{none_yet, tally, tally_sums}
use Rattle.chain.specs.Faithful.{Stands, faithful}
use Rattle.chain.specs.TallyLaws.{second_is, tally_file_sizes}
use Rattle.reading.specs.NamesLaw.{files_are}
use Rattle.planner.specs.Moves.{copied_is}
use Rattle.planner.specs.Mount.{place_led, place_stays}

after_head : (p : Place) (s : ℕ) → ((place_after p s).head ≡ p.head) × ((place_after p s).length ≡ p.length)
unfolding place_after
after_head p s = (refl, refl)

-- a place in an image of at most 16 MiB
abbrev pub Small : Place → Type 0
Small p = (p.head ≤ 2 ^ 24) × (p.length ≤ 2 ^ 24)

-- ---- free and lost

module _ (p : Place) where
  pub free_turned : p.turned ≡ true → floor p.head - p.tail ≡ free_bytes p
  unfolding free_bytes
  free_turned t = rw (free_bytes, t)

  pub free_straight : p.turned ≡ false → (p.length - p.tail) + floor p.head ≡ free_bytes p
  unfolding free_bytes
  free_straight t = rw (free_bytes, t)

  module _ (wall : ℕ) where
    pub lost_walled : wall < p.length → (p.head - floor p.head) + (p.length - (wall + 8)) ≡ lost_bytes p (marker_at p.length wall)
    unfolding marker_at
    lost_walled h = rw (marker_at, lt-ltb wall p.length h)

    pub lost_open : p.length ≤ wall → p.head - floor p.head ≡ lost_bytes p (marker_at p.length wall)
    unfolding marker_at
    lost_open h = rw (marker_at, le-ltb wall p.length h) (omega arith)

    pub filled_as : {live free lost dead : ℕ} → free ≡ free_bytes p → lost ≡ lost_bytes p (marker_at p.length wall)
        → dead ≡ p.length - (live + free + lost)
        → record { live = live; dead = dead; free = free; lost = lost } ≡ space_filled live p wall
    unfolding space_filled
    filled_as {live} {free} {lost} {dead} f l d =
        let d' : dead ≡ p.length - (live + free_bytes p + lost_bytes p (marker_at p.length wall)) =
        d ∙ ap₂ (λ (x y : ℕ). p.length - (live + x + y)) f l in
        λ i. record { live = live; dead = d' i; free = f i; lost = l i }

-- ---- the wall

module _ (p : Place) (upper : ℕ) where
  pub first_turned : p.turned ≡ true → p.head + upper ≡ first_wall p upper
  unfolding first_wall
  first_turned t = rw (first_wall, t)

  pub first_straight : p.turned ≡ false → p.length ≡ first_wall p upper
  unfolding first_wall
  first_straight t = rw (first_wall, t)

module _ (N y wall : ℕ) where
  pub led_low : y ≡ 0 → N ≡ led_wall N y wall
  unfolding led_wall
  led_low h = rw (led_wall, eq-eqb y 0 h)

  pub led_high : (y ≡ 0 → ⊥) → wall ≡ led_wall N y wall
  unfolding led_wall
  led_high h = rw (led_wall, ne_eqb y 0 h)

-- what is counted is a reading that is not broken
pub record Countable (image : Image) (s : Survey) : Type 0 where
  pub surveyed : Surveyed image s
  pub reads : Reads image s.place.head (reading_of image s)

-- what was counted in the first reading
pub record Counted (image : Image) (s : Survey) (live wall : ℕ) : Type 0 where
  pub live_is : live ≡ live_bytes (reading_of image s).entries
  pub wall_is : wall ≡ wall_of (reading_of image s)
  pub few : live ≤ 2 ^ 25

module _ {im : Image} {s : Survey} (w : Countable im s) where
  abbrev entries : List Entry
  entries = (reading_of im s).entries

  -- the tally has the sizes of all records
  pub all_sizes : s.tally.sums.files + s.tally.sums.others ≡ sizes entries
  all_sizes =
      ap (λ (t : Tally). t.sums.files + t.sums.others) w.surveyed.tallied.same ∙ tally_sums none_yet entries ∙ omega arith

  pub all_few : s.tally.sums.files + s.tally.sums.others ≤ 2 ^ 25
  all_few =
      let p = w.surveyed.place in
      omega (arith, all_sizes, sizes_most im (first_cursor im s.place.head) w.surveyed.tallied.sound, p.head, p.small)

  pub wall_is_counted : {u wall : ℕ} → u ≡ (s.tally.sums.files + s.tally.sums.others) - s.place.tail
      → wall ≡ first_wall s.place u
      → wall ≡ wall_of (reading_of im s)
  wall_is_counted e f = f ∙ ap (first_wall s.place) e ∙ wall_counted _ w.reads all_sizes

  -- where no file is superseded, those of the files are the live bytes
  pub live_is_counted : Quiet im (Ok s) → s.tally.sums.files ≡ live_bytes entries
  live_is_counted q =
      ap (λ (t : Tally). t.sums.files) w.surveyed.tallied.same ∙ tally_file_sizes none_yet entries
      ∙ zero-add (sizes (keep is_file entries)) ∙ ap sizes (sym (files_are entries q))

-- ---- mount

wall_led : (im : Image) (N wall : ℕ) (es : List Entry) (t : Tally) → t ≡ tally none_yet es → Each (Stands im) es → second_marked es ≡ true
    → led_wall N t.second.at wall ≡ mended_wall N es wall
unfolding mended_wall
wall_led im N wall [] t q f m = absurd (let z : ◌≡◌ {A = ℕ} 0 1 = cc in omega arith)
wall_led im N wall (x ∷ []) t q f m = absurd (let z : ◌≡◌ {A = ℕ} 0 1 = cc in omega arith)
wall_led im N wall (x ∷ (y ∷ es)) t q f m =
    let b : entry_of im t.second ≡ y = ap (λ (u : Tally). entry_of im u.second) q ∙ ap (entry_of im) (second_is x y es) ∙ f.1.0 in
    rw (mended_wall, m) (ap (λ (e : Entry). led_wall N e.at wall) b)

wall_stays : (N wall : ℕ) (es : List Entry) → second_marked es ≡ false → wall ≡ mended_wall N es wall
unfolding mended_wall
wall_stays N wall [] m = refl
wall_stays N wall (x ∷ []) m = refl
wall_stays N wall (x ∷ (y ∷ es)) m = rw (mended_wall, m)

module _ {im : Image} {v : Survey} (w : Surveyed im v) where
  abbrev es : List Entry
  es = (reading_of im v).entries

  pub mended_led : (wall : ℕ) → second_marked es ≡ true → led_wall (length im) v.tally.second.at wall ≡ mended_wall (length im) es wall
  mended_led wall m =
      wall_led im (length im) wall es v.tally w.tallied.same (faithful im (first_cursor im v.place.head) w.tallied.sound) m

  pub mended_stays : (wall : ℕ) → second_marked es ≡ false → wall ≡ mended_wall (length im) es wall
  mended_stays wall m = wall_stays (length im) wall es m

  pub first_small : Small v.place
  first_small = (omega (arith, w.place.head, w.place.small), omega (arith, w.place.whole, w.place.small))

  -- the place that a mount leaves
  pub behind_small : Small (behind_place v.place es)
  behind_small = go _ refl where
    go : (t : Bool) → second_marked es ≡ t → Small (behind_place v.place es)
    go true m =
        subst Small (place_led w m) (
          omega (arith, led_head v.place v.tally.second.at, w.tallied.spots.second.fits, w.place.small),
          omega (arith, led_length v.place v.tally.second.at, first_small.1),
        )
    go false m = subst Small (place_stays w m) first_small

-- ---- put

pub put_by : (p : Place) (s wall : ℕ) (t : Bool) → with_marker p s ≡ t → put_wall p s wall
    ≡ elim t as (λ b. ℕ) [ true ↦ p.tail | false ↦ wall ]
unfolding put_wall
put_by p s wall t e = ap (λ (u : Bool). elim u as (λ b. ℕ) [ true ↦ p.tail | false ↦ wall ]) e

module _ (p : Place) (z live old wall : ℕ) where
  pub put_filled_as : {l s o b w : ℕ} {q r : Place} {m : Bool} → l ≡ live → s ≡ z → o ≡ old → w ≡ wall → place_after p z ≡ q
      → with_marker p z ≡ m
      → r ≡ come_round q → b ≡ elim m as (λ t. ℕ) [ true ↦ p.tail | false ↦ w ]
      → space_filled ((l + s) - o) r b ≡ space_filled ((live + z) - old) (copied_place p z) (put_wall p z wall)
  put_filled_as {w = w} {m = m} e f g h after mark round is =
      let place = round ∙ ap come_round (sym after) ∙ copied_is p z in
      let at = is ∙ sym (put_by p z w m mark) ∙ ap (put_wall p z) h in
      λ i. space_filled ((e i + f i) - g i) (place i) (at i)

  pub round_small : {q r : Place} → place_after p z ≡ q → r ≡ come_round q → Small p → Small r
  round_small {q} {r} after round w =
      let head : r.head ≡ p.head = ap (λ (x : Place). x.head) round ∙ (round_keeps q).0 ∙ ap (λ (x : Place). x.head) (sym after)
      ∙ (after_head p z).0 in
      let len : r.length ≡ p.length = ap (λ (x : Place). x.length) round ∙ (round_keeps q).1 ∙ ap (λ (x : Place). x.length) (sym after)
      ∙ (after_head p z).1 in
      (omega (arith, head, w.0), omega (arith, len, w.1))
