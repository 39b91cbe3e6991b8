-- What every refusal has: one of document 01's numbers, 2, 5, 6, 16, 22 or 28, never 0 or 4, which say that a call was let in; and, unless
-- a name is refused, nothing that speaks of one (K5).
use Rattle.std.specs.Prelude.{ℕ, suc, ◌≡◌, Bool, List, length, drop}
use Rattle.std.proofs.Math.Path.{refl}
use Rattle.std.proofs.Math.Bool.{true, false}
use Rattle.spec.specs.Refusals.{RefusalNumbers}
use Rattle.spec.specs.Step.{Image}
use Rattle.spec.specs.Basics.{Answer, refuse, give, no_fault, numbered, checked, onward}
use Rattle.spec.specs.Geometry.{good_length}
use Rattle.spec.specs.Record.{name_ok, start_here, clean_here, wrap_here}
use Rattle.spec.specs.Head.{sought, walk, chosen, head}
use Rattle.spec.specs.Chain.{reading_from}
use Rattle.spec.specs.Reading.{legal, judged, read_at, reading}
use Rattle.spec.specs.Mount.{settled}
use Rattle.spec.specs.Door.{if_settled, settled_reading, accepted, admitted, misnamed, admitted_named}
use Rattle.spec.specs.Numbers.{is_refusal}

-- if the answer is a refusal, it has the property P
abbrev pub IfRefused : (RefusalNumbers → Type 0) → {A : Type 0} → Answer A → Type 0
IfRefused P (refuse x) = P x
IfRefused P (give a) = Unit {0}

-- ---- answers put together

module _ (P : RefusalNumbers → Type 0) where
  pub checked_refusing : {A : Type 0} (t : Bool) (x : RefusalNumbers) (a : Answer A) → P x → IfRefused P a → IfRefused P (checked t x a)
  checked_refusing true x a e r = r
  checked_refusing false x a e r = e

  pub onward_refusing : {A B : Type 0} (a : Answer A) (f : A → Answer B) → IfRefused P a → ((v : A) → IfRefused P (f v))
      → IfRefused P (onward a f)
  onward_refusing (refuse x) f r g = r
  onward_refusing (give v) f r g = g v

-- ---- the door, for a property of all refusals that give back no more than their number

module _ (P : RefusalNumbers → Type 0) (by : (n : ℕ) → is_refusal n ≡ true → P (numbered n)) (image : Image) where
  chosen_refusing : (a : ℕ) → IfRefused P (chosen image a)
  unfolding chosen is_refusal
  chosen_refusing a = go (start_here (drop a image)) (clean_here (drop a image)) (clean_here image) refl refl refl where
    go : (t u v : Bool) → start_here (drop a image) ≡ t → clean_here (drop a image) ≡ u → clean_here image ≡ v
        → IfRefused P (chosen image a)
    go true u v p q r = rw (chosen, p) tt
    go false true true p q r = rw (chosen, p, q, r) (by 5 refl)
    go false true false p q r = rw (chosen, p, q, r) tt
    go false false true p q r = rw (chosen, p, q, r) tt
    go false false false p q r = rw (chosen, p, q, r) (by 6 refl)

  head_refusing : IfRefused P (head image)
  unfolding head is_refusal
  head_refusing = go (start_here image) (wrap_here image) refl refl where
    go : (t u : Bool) → start_here image ≡ t → wrap_here image ≡ u → IfRefused P (head image)
    go true u p q = rw (head, p) tt
    go false true p q = rw (head, p, q) (by 5 refl)
    go false false p q = rw (head, p, q) (chosen_refusing (sought image (walk (suc (length image)) 0 image)))

  reading_refusing : IfRefused P (reading image)
  unfolding reading judged is_refusal
  reading_refusing =
      onward_refusing P (head image) (read_at image) head_refusing
      (λ h. checked_refusing P (legal image (reading_from image h)) _ (give (reading_from image h)) (by 5 refl) tt)

  settled_refusing : IfRefused P (settled_reading image)
  unfolding settled_reading if_settled is_refusal
  settled_refusing =
      onward_refusing P (reading image) (if_settled image) reading_refusing
      (λ r. checked_refusing P (settled image r) _ (give r) (by 16 refl) tt)

  accepted_so : IfRefused P (accepted image)
  unfolding accepted is_refusal
  accepted_so = checked_refusing P (good_length (length image)) _ (reading image) (by 22 refl) reading_refusing

  admitted_so : IfRefused P (admitted image)
  unfolding admitted is_refusal
  admitted_so = checked_refusing P (good_length (length image)) _ (settled_reading image) (by 22 refl) settled_refusing

  named_so : (name : List ℕ) → P (misnamed name) → IfRefused P (admitted_named name image)
  unfolding admitted_named is_refusal
  named_so name e =
      checked_refusing P (good_length (length image)) _ (checked (name_ok name) (misnamed name) (settled_reading image)) (by 22 refl)
      (checked_refusing P (name_ok name) (misnamed name) (settled_reading image) e settled_refusing)

-- ---- one of document 01's numbers

abbrev pub Numbered : RefusalNumbers → Type 0
Numbered x = is_refusal x.number ≡ true

module _ (image : Image) where
  pub accepted_refusing : IfRefused Numbered (accepted image)
  accepted_refusing = accepted_so Numbered (λ n e. e) image

  pub admitted_refusing : IfRefused Numbered (admitted image)
  admitted_refusing = admitted_so Numbered (λ n e. e) image

  pub named_refusing : (name : List ℕ) → IfRefused Numbered (admitted_named name image)
  unfolding is_refusal
  named_refusing name = named_so Numbered (λ n e. e) image name refl

-- ---- nothing that speaks of a name

abbrev pub Nameless : RefusalNumbers → Type 0
Nameless x = x.name ≡ no_fault

module _ (image : Image) where
  pub accepted_nameless : IfRefused Nameless (accepted image)
  accepted_nameless = accepted_so Nameless (λ n e. refl) image

  pub admitted_nameless : IfRefused Nameless (admitted image)
  admitted_nameless = admitted_so Nameless (λ n e. refl) image
