-- What is known of an image that was read: it is read from its own head, which stands inside at an 8-byte boundary.
use Rattle.std.specs.Prelude.{◌≡◌, true, length}
use Rattle.std.proofs.Common.{arith, sym, ap, ◌∙◌}
use Rattle.spec.specs.Step.{Image}
use Rattle.spec.specs.Basics.{give, numbered}
use Rattle.spec.specs.Geometry.{good_length}
use Rattle.spec.specs.Head.{head}
use Rattle.spec.specs.Chain.{Reading, reading_from}
use Rattle.spec.specs.Reading.{legal, judged, read_at, reading}
use Rattle.laws.specs.Answer.{gave, passed}
use Rattle.laws.specs.Length.{good}
use Rattle.laws.specs.Head.{head_begins}
use Rattle.reading.specs.Standing.{Led, stands}

pub record Own (image : Image) (r : Reading) : Type 0 where
  pub led : Led image r.place.head
  pub same : r ≡ reading_from image r.place.head
  pub lawful : legal image r ≡ true

pub own_head : (image : Image) (r : Reading) → good_length (length image) ≡ true → reading image ≡ give r → Own image r
unfolding reading judged
own_head image r n e =
    let size = good (length image) n in
    let g = gave (head image) (read_at image) r e in
    let h = g.value in
    let b = head_begins image h g.from in
    let p = passed (legal image (reading_from image h)) (numbered 5) (reading_from image h) r g.on in
    let led : Led image h = record {
      even = b.even;
      inside = b.inside;
      low = b.low;
      eights = omega (arith, size.sectors);
      long = omega (arith, size.two);
      small = size.most;
    } in
    let same : r.place.head ≡ h = ap (λ (x : Reading). x.place.head) (sym p.1) ∙ (stands image h led).head in
    record {
      led = rw same led;
      same = sym p.1 ∙ ap (reading_from image) (sym same);
      lawful = sym (ap (legal image) p.1) ∙ p.0;
    }
