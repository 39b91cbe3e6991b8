-- What a call knows of an image that was read: the survey is the reading from its head on, and where head and tail stand.
use Rattle.std.specs.Prelude.{◌+◌, ◌≤◌, ◌<◌, ◌≡◌, true, false, length}
use Rattle.std.proofs.Common.{arith, ◌∙◌}
use Rattle.std.proofs.Math.Path.{sym, ap}
use Rattle.spec.specs.Step.{Image}
use Rattle.spec.specs.Basics.{give, numbered, any}
use Rattle.spec.specs.Geometry.{good_length}
use Rattle.spec.specs.Head.{head}
use Rattle.spec.specs.Chain.{Reading, reading_from}
use Rattle.spec.specs.Files.{superseded}
use Rattle.spec.specs.Reading.{legal, judged, read_at, reading}
use Rattle.spec.specs.Placed.{PlaceSound}
use Rattle.laws.specs.Answer.{gave, passed}
use Rattle.laws.specs.Length.{good}
use Rattle.laws.specs.Head.{head_begins}
use Rattle.reading.specs.declared.Survey.{Survey}
use Rattle.reading.specs.Read.{reading_of, Surveyed}
use Rattle.reading.specs.Standing.{Led, stands}

-- THE facts that a call goes by, whatever it does
pub record Accepted (image : Image) (s : Survey) : Type 0 where
  pub surveyed : Surveyed image s
  pub led : Led image s.place.head
  pub same : reading_of image s ≡ reading_from image s.place.head
  pub two : 8192 ≤ length image

-- and on a settled image one more: no F8 record has an FC record of its name
pub record Settled (image : Image) (s : Survey) : Type 0 where
  pub accepted : Accepted image s
  pub quiet : any (superseded (reading_of image s).entries) (reading_of image s).entries ≡ false

-- ---- from the reading

module _ (image : Image) (s : Survey) (n : good_length (length image) ≡ true) (v : Surveyed image s) where
  pub accepted_of : reading image ≡ give (reading_of image s) → Accepted image s
  unfolding reading judged
  accepted_of e =
      let r : Reading = reading_of image s in
      let size = good (length image) n in
      let g = gave (head image) (read_at image) r e in
      let h = g.value in
      let b = head_begins image h g.from in
      let p = passed (legal image (reading_from image h)) (numbered 5) (reading_from image h) r g.on in
      let led : Led image h = record {
        even = b.even;
        inside = b.inside;
        low = b.low;
        eights = omega (arith, size.sectors);
        long = omega (arith, size.two);
        small = size.most;
      } in
      let same : r.place.head ≡ h = ap (λ (x : Reading). x.place.head) (sym p.1) ∙ (stands image h led).head in
      record { surveyed = v; led = rw same led; same = sym p.1 ∙ ap (reading_from image) (sym same); two = size.two }

-- ---- the place

module _ (image : Image) (s : Survey) (w : Accepted image s) where
  pub place_sound : PlaceSound s.place
  place_sound =
      record {
        inside = omega (arith, w.led.inside, w.surveyed.place.whole);
        short = omega (arith, w.led.small, w.surveyed.place.whole);
      }

  -- before the turn a wrap marker has its eight bytes at the tail
  pub marker_room : s.place.turned ≡ false → s.place.tail < s.place.length → s.place.tail + 8 ≤ s.place.length
  marker_room t l =
      let e = (stands image s.place.head w.led).even in
      let q : s.place.tail ≡ (reading_from image s.place.head).place.tail = ap (λ (x : Reading). x.place.tail) w.same in
      omega (arith, w.surveyed.place.whole, w.led.eights)
