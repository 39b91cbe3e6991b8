-- Put: from what the code found to the definitions' room, steps and outcome.
use Rattle.std.specs.Prelude.{ℕ, ◌≤◌, ◌≡◌, refl, Bool, true, false, List, length}
use Rattle.std.proofs.Common.{arith, sym, ◌∙◌}
use Rattle.std.proofs.Math.Path.{ap}
use Rattle.spec.specs.declared.Place.{Place}
use Rattle.spec.specs.Step.{Image}
use Rattle.spec.specs.Basics.{Answer, give, checked, keep, first_such, numbered}
use Rattle.spec.specs.Record.{Entry, size_of}
use Rattle.spec.specs.Files.{has_name, file_named}
use Rattle.spec.specs.Chain.{Reading}
use Rattle.spec.specs.Place.{fits, fits_all, room}
use Rattle.spec.specs.Write.{put_steps}
use Rattle.spec.specs.Answers.{Plan, carry_out, putting, put_into}
use Rattle.record.specs.Within.{NameLength}
use Rattle.reading.specs.declared.Survey.{Survey}
use Rattle.chain.specs.FileLaws.{is_file}
use Rattle.reading.specs.NamesLaw.{files_are}
use Rattle.room.specs.Room.{room_in}
use Rattle.reading.specs.Read.{reading_of}
use Rattle.reading.specs.Accepted.{Settled, place_sound, marker_room}
use Rattle.writing.specs.Answers.{Old}
use Rattle.writing.specs.Old.{old_of, old_entry as entry-of-old, put_old}
use Rattle.writing.specs.Placing.{placed_inside}
use Rattle.writing.specs.Put.{Ready}

-- ---- the room

-- what has room fits
pub room_fits : (r : Reading) (name : List ℕ) (d : ℕ) → room_in r name d ≡ true → fits r.place (size_of (length name) d) ≡ true
unfolding room fits_all
room_fits r name d h = go (fits r.place (size_of (length name) d)) refl h where
  go : (t : Bool) → fits r.place (size_of (length name) d) ≡ t → room_in r name d ≡ true → t ≡ true
  go true e w = refl
  go false e w = rw (e, fits_all) at w

-- ---- the old file

pub old_named : (image : Image) (s : Survey) (p : Place) (old : Old) (name content : List ℕ) → Settled image s
    → old ≡ old_of (first_such (has_name name) (keep is_file (reading_of image s).entries))
    → put_steps p (entry-of-old old) name content ≡ put_steps p (file_named name (reading_of image s).entries) name content
unfolding file_named
old_named image s p old name content w e =
    let es = (reading_of image s).entries in
    ap (λ (o : Old). put_steps p (entry-of-old o) name content)
    (e ∙ ap (λ (l : List Entry). old_of (first_such (has_name name) l)) (sym (files_are es w.quiet)))
    ∙ put_old p (file_named name es) name content

-- ---- the steps

pub ready : (image : Image) (s : Survey) (n d asked : ℕ) → Settled image s → NameLength n → fits s.place (size_of n d) ≡ true
    → asked ≡ 0
    → Ready s.place (length image) n d asked
ready image s n d asked w l f z =
    record {
      sound = place_sound image s w.accepted;
      whole = w.accepted.surveyed.place.whole;
      taken = f;
      named = l;
      gap = marker_room image s w.accepted;
      few =
          let p = place_sound image s w.accepted in
          omega (arith, placed_inside s.place (size_of n d) p f, p.short);
    }

-- the same by the place alone
pub ready_place : (image : Image) (s : Survey) (n d asked : ℕ) → Settled image s → n ≤ 63 → fits s.place (size_of n d) ≡ true → asked ≡ 0
    → Ready s.place s.place.length n d asked
ready_place image s n d asked w l f z =
    let r = ready image s n d asked w l f z in
    record { sound = r.sound; whole = refl; taken = r.taken; named = r.named; gap = r.gap; few = r.few }

-- ---- the outcome

module _ (name content : List ℕ) where
  -- the steps, if there is room (t)
  abbrev put_if : Image → Reading → Bool → Answer Plan
  put_if image r t = checked t (numbered 28) (give (putting name content image r))

  pub room_plan : (image : Image) (r : Reading) (t : Bool) → t ≡ room_in r name (length content)
      → put_if image r t ≡ put_into name content image r
  unfolding put_into
  room_plan image r t e = ap (put_if image r) e

  pub put_room : (image : Image) (k : ℕ) (r : Reading) (t : Bool) → t ≡ room_in r name (length content)
      → carry_out image k (put_if image r t) ≡ carry_out image k (put_into name content image r)
  put_room image k r t e = ap (carry_out image k) (room_plan image r t e)
