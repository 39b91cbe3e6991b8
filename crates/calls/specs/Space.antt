-- K3's record: what is counted in the first reading is that of the image that the call leaves.
use Prim.Native.Nat.{ℕ, ◌+◌, ◌-◌, min}
use Rattle.std.specs.Prelude.{◌≡◌, true, length, Ok}
use Rattle.std.proofs.Math.Path.{sym, ap}
use Rattle.std.proofs.Common.{◌∙◌}
use Rattle.std.proofs.Math.Option.{none}
use mathlib.Core.List.{List}
use Rattle.spec.specs.declared.Space.{Space}
use Rattle.spec.specs.Step.{Image}
use Rattle.spec.specs.Basics.{give, keep, first_such}
use Rattle.spec.specs.Geometry.{good_length}
use Rattle.spec.specs.Record.{Entry, size_of}
use Rattle.spec.specs.Chain.{Reading}
use Rattle.spec.specs.Files.{has_name, file_named}
use Rattle.spec.specs.Reading.{reading}
use Rattle.spec.specs.Door.{settled_reading, accepted, admitted, admitted_named}
use Rattle.spec.specs.Mount.{mended}
use Rattle.spec.specs.Space.{live_bytes, space_left, put_work, sweep_work}
use Rattle.laws.specs.Door.{accepted_gives, admitted_gives, named_gives}
use Rattle.planning.specs.Known.{accepted_known}
use Rattle.planning.specs.Rested.{settled_rested}
use Rattle.planning.specs.Planned.{copied_place}
use Rattle.planning.specs.Told.{behind_place}
use Rattle.planning.specs.PutCounts.{replaced_bytes}
use Rattle.planning.specs.Walls.{put_wall, mended_wall, wall_of, space_filled, mount_filled, put_filled}
use Rattle.planning.specs.Strides.{Stand, strode, sweep_filled}
use Rattle.reading.specs.declared.Judged.{Judged}
use Rattle.reading.specs.Answers.{Judgement}
use Rattle.reading.specs.declared.Survey.{Survey}
use Rattle.chain.specs.FileLaws.{is_file}
use Rattle.reading.specs.NamesLaw.{files_are}
use Rattle.reading.specs.RuleLaws.{count_is}
use Rattle.room.specs.Room.{room_in}
use Rattle.reading.specs.Read.{reading_of, judged_as}
use Rattle.reading.specs.Accepted.{Accepted, Settled}
use Rattle.space.specs.Space.{Countable}

-- the survey is the reading of an image of a good length
pub record Legal (image : Image) (s : Survey) : Type 0 where
  pub sized : good_length (length image) ≡ true
  pub read : reading image ≡ give (reading_of image s)

pub legal_given : (image : Image) (j : Judged) {x : Judgement} → judged_as image x ≡ accepted image → x ≡ Ok j
    → Legal image j.survey
legal_given image j e q =
    let p = accepted_gives image (reading_of image j.survey) (sym (sym (ap (judged_as image) q) ∙ e)) in
    record { sized = p.0; read = p.1 }

-- what such a reading counts by
pub countable_legal : {image : Image} {s : Survey} → Accepted image s → Legal image s → Countable image s
countable_legal {image} {s} w l = record { surveyed = w.surveyed; reads = (accepted_known image (reading_of image s) l.read).reads }

countable_settled : {image : Image} {s : Survey} → Accepted image s → settled_reading image ≡ give (reading_of image s) → Countable image s
countable_settled {image} {s} w e = record { surveyed = w.surveyed; reads = (settled_rested image (reading_of image s) e).reads }

pub countable_named : {image : Image} {s : Survey} (name : List ℕ) → Accepted image s
    → give (reading_of image s) ≡ admitted_named name image → Countable image s
countable_named {image} {s} name w d = countable_settled w (named_gives image (reading_of image s) name (sym d)).2

pub countable_admitted : {image : Image} {s : Survey} → Accepted image s → give (reading_of image s) ≡ admitted image → Countable image s
countable_admitted {image} {s} w d = countable_settled w (admitted_gives image (reading_of image s) (sym d)).1

module _ (image : Image) (s : Survey) (x : Space) where
  abbrev r : Reading
  r = reading_of image s

  pub mount_told : Legal image s
      → x ≡ space_filled (live_bytes r.entries) (behind_place r.place r.entries)
      (mended_wall (length image) r.entries (wall_of r))
      → x ≡ space_left (mended image r)
  mount_told l e = e ∙ sym (mount_filled image r l.sized l.read)

  pub put_told : (name content : List ℕ) → Settled image s → give r ≡ admitted_named name image → room_in r name (length content) ≡ true
      → x ≡ space_filled ((live_bytes r.entries + size_of (length name) (length content))
      - replaced_bytes (first_such (has_name name) (keep is_file r.entries)))
      (copied_place r.place (size_of (length name) (length content)))
      (put_wall r.place (size_of (length name) (length content)) (wall_of r))
      → x ≡ space_left (put_work name content image r)
  unfolding file_named
  put_told name content w d f e =
      let z : ℕ = size_of (length name) (length content) in
      let g = named_gives image r name (sym d) in
      let old : first_such (has_name name) (keep is_file r.entries) ≡ file_named name r.entries =
      ap (λ (l : List Entry). first_such (has_name name) l) (sym (files_are r.entries w.quiet)) in
      e ∙ ap (λ o. space_filled ((live_bytes r.entries + z) - replaced_bytes o) (copied_place r.place z)
      (put_wall r.place z (wall_of r))) old
      ∙ sym (put_filled image r name content g.0 g.2 g.1 f)

  pub sweep_told : {k : ℕ} → Accepted image s → give r ≡ admitted image → k ≡ min 5 s.tally.records
      → x ≡ space_filled (live_bytes r.entries) (strode k r.entries r.place (wall_of r) r.entries none).place
      (strode k r.entries r.place (wall_of r) r.entries none).wall
      → x ≡ space_left (sweep_work image r)
  sweep_told {k} w d m e =
      let g = admitted_gives image r (sym d) in
      let most = m ∙ ap (min 5) (count_is w.surveyed.tallied) in
      let to : ℕ → Stand = λ i. strode i r.entries r.place (wall_of r) r.entries none in
      e ∙ ap (λ (i : ℕ). space_filled (live_bytes r.entries) (to i).place (to i).wall) most ∙ sym (sweep_filled image r g.0 g.1)
