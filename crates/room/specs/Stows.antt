-- Sizes placed one after another, as a loop places them: what fits so is what fits by the definition.
use Rattle.std.specs.Prelude.{ℕ, ◌+◌, ◌<◌, ◌≡◌, refl, Bool, true, false, not, Some, None, List, [], ◌∷◌, ◌++◌, leb}
use Rattle.std.proofs.Common.{arith, sym, ap, ◌∙◌}
use Rattle.std.proofs.Math.Bool.{and-false}
use Rattle.std.proofs.lemmas.Bool.{lt-leb}
use Rattle.std.specs.Option.{is_some}
use Rattle.spec.specs.declared.Place.{Place}
use Rattle.spec.specs.declared.Placement.{Placement}
use Rattle.spec.specs.Step.{Image}
use Rattle.spec.specs.Geometry.{floor}
use Rattle.spec.specs.Reading.{limit}
use Rattle.spec.specs.Place.{fits_at_tail, fits, address, with_marker, place_after, fits_all}
use Rattle.spec.specs.Placed.{Placed, placed, placed_at}
use Rattle.chain.specs.FreeLaws.{InImage, limit_inside}

-- a further size, behind what was placed
unfoldable pub stow : Placed → ℕ → Placed
stow (Some x) s = placed x.place s
stow None s = None

unfoldable pub stow_all : Placed → List ℕ → Placed
stow_all x [] = x
stow_all x (s ∷ ss) = stow_all (stow x s) ss

abbrev pub has_place : Placed → Bool
has_place x = is_some x

-- ---- the two cases of a size

module _ (x : Placed) (s : ℕ) where
  pub stow_behind : (y : Placement) → x ≡ Some y → placed y.place s ≡ stow x s
  unfolding stow
  stow_behind y e = rw (e, stow)

  pub stow_nowhere : x ≡ None → None ≡ stow x s
  unfolding stow
  stow_nowhere e = rw (e, stow)

address_of : (t : Bool) (x y : Placement) → ◌≡◌ {A = Placed} (elim t [ true ↦ Some x | false ↦ None ]) (Some y) → y ≡ x
address_of true x y e = cc
address_of false x y e = cc

-- where a size that was placed stands
pub placed_address : (p : Place) (s : ℕ) (x : Placement) → placed p s ≡ Some x → x.at ≡ address p s
unfolding placed
placed_address p s x e =
    ap (λ (y : Placement). y.at)
    (address_of (fits p s) (record { at = address p s; marker = with_marker p s; place = place_after p s }) x e)

-- ---- sizes one after another

-- what has no place stays so
stow_full : (ss : List ℕ) → stow_all None ss ≡ None
unfolding stow_all stow
stow_full [] = refl
stow_full (s ∷ ss) = stow_full ss

pub stow_append : (x : Placed) (ss ts : List ℕ) → stow_all x (ss ++ ts) ≡ stow_all (stow_all x ss) ts
unfolding stow_all
stow_append x [] ts = refl
stow_append x (s ∷ ss) ts = stow_append (stow x s) ss ts

-- they fit one after the other exactly if the last has a place
stow_fits : (a : ℕ) (m : Bool) (p : Place) (ss : List ℕ) → fits_all p ss ≡ has_place (stow_all (placed_at a m p) ss)
unfolding fits_all stow_all stow placed
stow_fits a m p [] = refl
stow_fits a m p (s ∷ ss) = go (fits p s) (stow_fits (address p s) (with_marker p s) (place_after p s) ss) where
  first : Placed
  first = placed_at (address p s) (with_marker p s) (place_after p s)

  go : (b : Bool) → fits_all (place_after p s) ss ≡ has_place (stow_all first ss)
      → ◌≡◌ {A = Bool} (elim b as (λ x. Bool) [ true ↦ fits_all (place_after p s) ss | false ↦ false ])
      (has_place (stow_all (elim b as (λ x. Placed) [ true ↦ first | false ↦ None ]) ss))
  go true h = h
  go false h = sym (ap has_place (stow_full ss))

pub fits_stowed : (p : Place) (s : ℕ) (ss : List ℕ) → fits_all p (s ∷ ss) ≡ has_place (stow_all (placed p s) ss)
unfolding stow_all stow
fits_stowed p s ss = stow_fits 0 false p (s ∷ ss)

-- where the first has no place
pub none_fit : (p : Place) (s : ℕ) (ss : List ℕ) → placed p s ≡ None → fits_all p (s ∷ ss) ≡ false
none_fit p s ss e = fits_stowed p s ss ∙ ap (λ (x : Placed). has_place (stow_all x ss)) e ∙ ap has_place (stow_full ss)

-- what is longer than the image fits nowhere
pub too_long : (image : Image) (p : Place) (s : ℕ) (ss : List ℕ) → InImage image p → p.length < s → fits_all p (s ∷ ss) ≡ false
unfolding fits_all fits fits_at_tail
too_long image p s ss i l =
    let at_tail : leb (p.tail + s) (limit p) ≡ false =
    lt-leb (p.tail + s) (limit p) (omega (arith, limit_inside image p _ i refl, i.whole)) in
    let at_zero : leb s (floor p.head) ≡ false = lt-leb s (floor p.head) (omega (arith, i.head, i.whole)) in
    let no : fits p s ≡ false = rw (at_tail, at_zero, fits, fits_at_tail) (and-false (not p.turned)) in
    rw (no, fits_all)
