-- Where a sweep may begin its walk, done or planned.
use Rattle.std.specs.Prelude.{ℕ, ◌%◌, ◌≡◌, length}
use Rattle.std.proofs.Common.{ap, ◌∙◌}
use Rattle.spec.specs.Step.{Image}
use Rattle.spec.specs.Chain.{Reading, reading_from}
use Rattle.reading.specs.declared.Survey.{Survey}
use Rattle.reading.specs.Standing.{stands}
use Rattle.reading.specs.Accepted.{Accepted, place_sound}
use Rattle.planner.specs.Moves.{Walkable}

module _ (image : Image) (s : Survey) (w : Accepted image s) where
  pub walkable : Walkable (length image) s.place
  walkable =
      let even = (stands image s.place.head w.led).even in
      let q : s.place.tail ≡ (reading_from image s.place.head).place.tail = ap (λ (x : Reading). x.place.tail) w.same in
      record {
        whole = w.surveyed.place.whole;
        sound = place_sound image s w;
        even = ap (λ (i : ℕ). i % 8) q ∙ even;
        eights = w.led.eights;
      }
