-- The door, from both sides: what a call that is let in knows, and what is read where the tests pass or fail.
use Rattle.std.specs.Prelude.{◌≡◌, true, false, List, ℕ, length}
use Rattle.std.proofs.Math.Path.{sym, ap}
use Rattle.std.proofs.Common.{◌∙◌}
use Rattle.spec.specs.Step.{Image}
use Rattle.spec.specs.Basics.{refuse, give, numbered, checked}
use Rattle.spec.specs.Geometry.{good_length}
use Rattle.spec.specs.Record.{name_ok}
use Rattle.spec.specs.Chain.{Reading}
use Rattle.spec.specs.Reading.{reading}
use Rattle.spec.specs.Mount.{settled}
use Rattle.spec.specs.Door.{if_settled, settled_reading, accepted, admitted, misnamed, admitted_named}
use Rattle.laws.specs.Answer.{gave, checked_on, passed}

-- ---- what was let in

module _ (image : Image) (r : Reading) where
  pub settled_gives : settled_reading image ≡ give r → (reading image ≡ give r) × (settled image r ≡ true)
  unfolding settled_reading if_settled
  settled_gives e =
      let g = gave (reading image) (if_settled image) r e in
      let p = passed (settled image g.value) (numbered 16) g.value r g.on in
      (g.from ∙ ap give p.1, sym (ap (settled image) p.1) ∙ p.0)

  pub accepted_gives : accepted image ≡ give r → (good_length (length image) ≡ true) × (reading image ≡ give r)
  unfolding accepted
  accepted_gives e = checked_on (good_length (length image)) (numbered 22) (reading image) r e

  pub admitted_gives : admitted image ≡ give r → (good_length (length image) ≡ true) × (settled_reading image ≡ give r)
  unfolding admitted
  admitted_gives e = checked_on (good_length (length image)) (numbered 22) (settled_reading image) r e

  pub named_gives : (name : List ℕ) → admitted_named name image ≡ give r
      → (good_length (length image) ≡ true) × (name_ok name ≡ true) × (settled_reading image ≡ give r)
  unfolding admitted_named
  named_gives name e =
      let p = checked_on (good_length (length image)) (numbered 22) (checked (name_ok name) (misnamed name) (settled_reading image)) r e in
      let q = checked_on (name_ok name) (misnamed name) (settled_reading image) r p.1 in
      (p.0, q.0, q.1)

-- ---- the tests

module _ (image : Image) (good : good_length (length image) ≡ true) where
  pub accepted_good : accepted image ≡ reading image
  unfolding accepted
  accepted_good = rw (accepted, good)

  pub admitted_good : admitted image ≡ settled_reading image
  unfolding admitted
  admitted_good = rw (admitted, good)

  pub named_good : (name : List ℕ) → name_ok name ≡ true → admitted_named name image ≡ settled_reading image
  unfolding admitted_named
  named_good name n = rw (admitted_named, good, n)

  pub named_bad : (name : List ℕ) → name_ok name ≡ false → admitted_named name image ≡ refuse (misnamed name)
  unfolding admitted_named
  named_bad name n = rw (admitted_named, good, n)

module _ (image : Image) (bad : good_length (length image) ≡ false) where
  pub accepted_bad : accepted image ≡ refuse (numbered 22)
  unfolding accepted
  accepted_bad = rw (accepted, bad)

  pub admitted_bad : admitted image ≡ refuse (numbered 22)
  unfolding admitted
  admitted_bad = rw (admitted, bad)

  pub named_short : (name : List ℕ) → admitted_named name image ≡ refuse (numbered 22)
  unfolding admitted_named
  named_short name = rw (admitted_named, bad)
