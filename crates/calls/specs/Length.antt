-- What a file's length answers, in the definition's words (request K8).
use Rattle.std.specs.Prelude.{ℕ, ◌≡◌, refl, List, length, Result, Err, Ok}
use Rattle.std.proofs.Common.{ap, ◌∙◌}
use Rattle.std.proofs.Math.Bool.{true, false}
use Rattle.spec.specs.declared.Refusal.{Refusal}
use Rattle.spec.specs.Refusals.{numbered}
use Rattle.spec.specs.Step.{Image}
use Rattle.spec.specs.Basics.{Answer, refuse}
use Rattle.spec.specs.Geometry.{good_length}
use Rattle.spec.specs.Record.{name_ok}
use Rattle.spec.specs.Numbers.{Numbers, Outcome, outcome_of}
use Rattle.spec.specs.Answers.{carry_out, numbers_of}
use Rattle.spec.specs.Door.{misnamed}
use Rattle.spec.specs.Length.{length_from, length_asked, of_length, measured, file_length}
use Rattle.headers.specs.Answers.{Measured}
use Rattle.headers.specs.Sizes.{answered}
use Rattle.calls.specs.Numbers.{refused, with_fault}

abbrev pub sized : Result ℕ Refusal → Numbers
sized (Ok d) = of_length 0 d
sized (Err x) = refused x

told_is : (image : Image) (x : Measured) → outcome_of (sized x) image ≡ carry_out image 0 (measured (answered x))
unfolding carry_out numbers_of
told_is image (Ok d) = refl
told_is image (Err x) = refl

pub length_told : (image : Image) (h : ℕ) (name : List ℕ) (x : Measured) → answered x ≡ length_asked name h image
    → outcome_of (sized x) image ≡ file_length image h name
unfolding file_length
length_told image h name x e = told_is image x ∙ ap (λ (a : Answer ℕ). carry_out image 0 (measured a)) e

-- the part that C gets
pub length_given : (w : Measured) (n : Numbers) {t : Image} {o : Outcome} → n ≡ sized w → outcome_of (sized w) t ≡ o
    → outcome_of (with_fault n.name (of_length n.answer n.size)) t ≡ o
length_given w n {t} e q = ap (λ (m : Numbers). outcome_of (with_fault m.name (of_length m.answer m.size)) t) e ∙ whole w ∙ q where
  whole : (w : Measured) → outcome_of (with_fault (sized w).name (of_length (sized w).answer (sized w).size)) t ≡ outcome_of (sized w) t
  whole (Ok d) = refl
  whole (Err x) = refl

-- ---- 22 before the walk

module _ (image : Image) (h : ℕ) (name : List ℕ) where
  pub bad_size : good_length (length image) ≡ false → refuse (numbered 22) ≡ length_asked name h image
  unfolding length_asked
  bad_size g = rw (length_asked, g)

  pub bad_name : good_length (length image) ≡ true → name_ok name ≡ false → refuse (misnamed name) ≡ length_asked name h image
  unfolding length_asked
  bad_name g n = rw (length_asked, g, n)

  pub good_asked : good_length (length image) ≡ true → name_ok name ≡ true → length_from name h image ≡ length_asked name h image
  unfolding length_asked
  good_asked g n = rw (length_asked, g, n)
