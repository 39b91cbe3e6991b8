-- What the door's answers say: a reading comes with THE facts, a refusal with one of document 01's numbers.
use Rattle.std.specs.Prelude.{ℕ, ⊤, ◌≡◌, refl, true, false, List, length, eqb, Err, Ok}
use Rattle.std.proofs.Common.{arith, sym, ap, ◌∙◌}
use Rattle.spec.specs.Refusals.{FaultNumbers, fault_numbers, name_told, refusal_numbers}
use Rattle.spec.specs.declared.NameFault.{NameFault}
use Rattle.spec.specs.Step.{Image}
use Rattle.spec.specs.Geometry.{good_length}
use Rattle.spec.specs.Record.{name_fault, name_ok}
use Rattle.spec.specs.Mount.{settled}
use Rattle.spec.specs.Numbers.{is_refusal}
use Rattle.spec.specs.Door.{accepted, admitted, admitted_named}
use Rattle.laws.specs.Length.{good, Workable}
use Rattle.laws.specs.Names.{good_name}
use Rattle.laws.specs.Door.{settled_gives, accepted_gives, admitted_gives, named_gives}
use Rattle.laws.specs.Refusing.{accepted_refusing, admitted_refusing, named_refusing}
use Rattle.record.specs.Within.{NameLength}
use Rattle.reading.specs.Answers.{Read, Judgement}
use Rattle.reading.specs.Read.{answered, reading_of, Told, Quiet, judged_as, JudgedWell}
use Rattle.reading.specs.Accepted.{Accepted, Settled, accepted_of}

abbrev pub Accepts : Image → Judgement → Type 0
Accepts image (Ok j) = Accepted image j.survey × (j.settled ≡ settled image (reading_of image j.survey))
Accepts image (Err x) = is_refusal (refusal_numbers x).number ≡ true

abbrev pub Admits : Image → Read → Type 0
Admits image (Ok s) = Settled image s
Admits image (Err x) = is_refusal (refusal_numbers x).number ≡ true

abbrev pub AdmitsNamed : Image → List ℕ → Read → Type 0
AdmitsNamed image name (Ok s) = Settled image s × NameLength (length name)
AdmitsNamed image name (Err x) = is_refusal (refusal_numbers x).number ≡ true

-- an image of a good length can be read
pub workable : (image : Image) → good_length (length image) ≡ true → Workable image
workable image e = let g = good (length image) e in (omega (arith, g.two), g.most)

-- what the name check answers says whether the name is good
module _ (n : List ℕ) where
  pub good_told : {u : ⊤} → name_told (Ok u) ≡ name_fault n → name_ok n ≡ true
  unfolding name_ok
  good_told e = ap (λ (x : FaultNumbers). eqb x.reason 0) (sym e)

  pub bad_told : (f : NameFault) → name_told (Err f) ≡ name_fault n → name_ok n ≡ false
  unfolding name_ok
  bad_told f e = ap (λ (x : FaultNumbers). eqb x.reason 0) (sym e) ∙ some_reason f where
    some_reason : (f : NameFault) → eqb (fault_numbers f).reason 0 ≡ false
    some_reason NameFault.Empty = refl
    some_reason NameFault.TooLong = refl
    some_reason (NameFault.BadByte place) = refl
    some_reason NameFault.FinalSlash = refl

-- ---- from the equation with the definition, and what the reading told

module _ (image : Image) where
  pub accepts : (r : Judgement) → judged_as image r ≡ accepted image → JudgedWell image r → Accepts image r
  accepts (Ok j) e w =
      let p = accepted_gives image (reading_of image j.survey) (sym e) in
      (accepted_of image j.survey p.0 w.0 p.1, w.1)
  accepts (Err x) e w = rw (← e) at (accepted_refusing image)

  pub admits : (r : Read) → answered image r ≡ admitted image → Told image r → Quiet image r → Admits image r
  admits (Ok s) e t q =
      let p = admitted_gives image (reading_of image s) (sym e) in
      record { accepted = accepted_of image s p.0 t (settled_gives image (reading_of image s) p.1).0; quiet = q }
  admits (Err x) e t q = rw (← e) at (admitted_refusing image)

  pub admits_named : (name : List ℕ) (r : Read) → answered image r ≡ admitted_named name image → Told image r → Quiet image r
      → AdmitsNamed image name r
  admits_named name (Ok s) e t q =
      let p = named_gives image (reading_of image s) name (sym e) in (
        record { accepted = accepted_of image s p.0 t (settled_gives image (reading_of image s) p.2).0; quiet = q },
        (good_name name p.1).short,
      )
  admits_named name (Err x) e t q = rw (← e) at (named_refusing image name)
