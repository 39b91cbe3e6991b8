-- The first byte of the free run that is not FF, as the code looks for it.
use Prim.Native.Nat.{ℕ, suc, ◌+◌, ◌-◌, ◌≤◌, ◌<◌, min}
use Rattle.std.proofs.Common.{arith, not-suc-le-zero, ap, ◌∙◌, length-take, length-drop, drop_of_length-le, length-take-le}
use Rattle.std.specs.Prelude.{Option, None, ◌≡◌, refl, Bool, true, false, List, [], ◌∷◌, length, take, drop, eqb}
use Rattle.std.proofs.Math.Path.{sym}
use Rattle.spec.specs.declared.Place.{Place}
use Rattle.spec.specs.declared.Rule.{Rule}
use Rattle.spec.specs.declared.Fault.{Fault}
use Rattle.spec.specs.Step.{Image}
use Rattle.spec.specs.Geometry.{floor}
use Rattle.spec.specs.Chain.{Reading}
use Rattle.spec.specs.Reading.{limit, head_clean}
use Rattle.spec.specs.Fault.{broken, dirt, dirt_part, run_fault, free_fault}
use Rattle.laws.specs.Parts.{part_window}
use Rattle.flash.specs.Blank.{blank_run}
use Rattle.chain.specs.FreeLaws.{InImage, limit_inside}

-- ---- from the run of FF

pub dirt_here : (a : ℕ) (s : List ℕ) → blank_run s < length s → broken Rule.Free (a + blank_run s) ≡ dirt a s
unfolding dirt blank_run
dirt_here a [] h = absurd (not-suc-le-zero h)
dirt_here a (x ∷ s) h = go (eqb x 0xFF) refl (λ l. dirt_here (a + 1) s l) h where
  go : (t : Bool) → eqb x 0xFF ≡ t → (blank_run s < length s → broken Rule.Free (a + 1 + blank_run s) ≡ dirt (a + 1) s)
      → blank_run (x ∷ s) < length (x ∷ s) → broken Rule.Free (a + blank_run (x ∷ s)) ≡ dirt a (x ∷ s)
  go true e ih l =
      let m : suc (blank_run s) < suc (length s) = rw (blank_run, e) at l in
      let q : a + suc (blank_run s) ≡ a + 1 + blank_run s = omega arith in
      rw (dirt, blank_run, e, q) (ih (omega arith))
  go false e ih l = let q : a + 0 ≡ a = omega arith in rw (dirt, blank_run, e, q)

pub dirt_none : (a : ℕ) (s : List ℕ) → length s ≤ blank_run s → None ≡ dirt a s
unfolding dirt blank_run
dirt_none a [] h = refl
dirt_none a (x ∷ s) h = go (eqb x 0xFF) refl (λ l. dirt_none (a + 1) s l) h where
  go : (t : Bool) → eqb x 0xFF ≡ t → (length s ≤ blank_run s → None ≡ dirt (a + 1) s)
      → length (x ∷ s) ≤ blank_run (x ∷ s) → None ≡ dirt a (x ∷ s)
  go true e ih l =
      let m : suc (length s) ≤ suc (blank_run s) = rw (blank_run, e) at l in
      rw (dirt, e) (ih (omega arith))
  go false e ih l = let m : suc (length s) ≤ 0 = rw (blank_run, e) at l in absurd (omega arith)

-- ---- a part of the image that the code lends

module _ (image : Image) (a b : ℕ) (h : b ≤ length image) where
  lent_long : a < b → length (take (b - a) (drop a image)) ≡ b - a
  lent_long l = length-take-le (b - a) (drop a image) (rw length-drop (omega arith))

  module _ (l : a < b) (k : ℕ) (e : k ≡ blank_run (take (b - a) (drop a image))) where
    pub part_dirt : k < b - a → broken Rule.Free (a + k) ≡ dirt_part a b image
    part_dirt m =
        rw e (dirt_here a (take (b - a) (drop a image)) (rw (lent_long l, ← e) m)) ∙ ap (dirt a) (part_window a b image (omega arith))

    pub part_clean : b - a ≤ k → None ≡ dirt_part a b image
    part_clean m = dirt_none a (take (b - a) (drop a image)) (rw (lent_long l, ← e) m) ∙ ap (dirt a) (part_window a b image (omega arith))

pub part_none : (image : Image) (a b : ℕ) → b ≤ a → None ≡ dirt_part a b image
unfolding dirt
part_none image a b h = sym (ap (dirt a) (drop_of_length-le (take b image) {i = a} (rw length-take (omega arith))))

-- ---- the stretches

abbrev pub below_fault : Image → Place → Option Fault
below_fault image p = elim p.turned [ true ↦ None | false ↦ dirt_part 0 (floor p.head) image ]

-- the tail's own sector
unfoldable pub sector_fault : Image → Place → Option Fault
sector_fault image p = dirt_part p.tail (min (floor p.tail + 4096) (limit p)) image

-- the end of the stretch lies in the image
pub within : (image : Image) (p : Place) (l : ℕ) → l ≡ limit p → InImage image p → l ≤ length image
within image p l e w = rw e (limit_inside image p p.turned w refl)

-- the search that the head asks for
unfoldable pub free_fault_by : Bool → Image → Place → Option Fault
free_fault_by true image p = sector_fault image p
free_fault_by false image p = run_fault image p

pub free_fault_is : (image : Image) (r : Reading) (t : Bool) → t ≡ head_clean r.entries
    → free_fault_by t image r.place ≡ free_fault image r
unfolding free_fault free_fault_by sector_fault
free_fault_is image r true e = rw (free_fault_by, free_fault, ← e)
free_fault_is image r false e = rw (free_fault_by, free_fault, ← e)
