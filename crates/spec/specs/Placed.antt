-- What the place value's method gives back: "Size s fits", or nothing.
use Rattle.std.specs.Prelude.{ℕ, ◌≤◌, ◌<◌, Bool, true, false, Option, Some, None}
use Rattle.spec.specs.declared.Place.{Place}
use Rattle.spec.specs.declared.Placement.{Placement}
use Rattle.spec.specs.Place.{fits, address, with_marker, place_after}

-- where a size goes, or nowhere
abbrev pub Placed : Type 0
Placed = Option Placement

-- it goes there
abbrev pub placed_at : ℕ → Bool → Place → Placed
placed_at a marker q = Some (record { at = a; marker = marker; place = q })

-- a size that fits: its address, whether "a wrap marker at T" goes before it, and the place after it
unfoldable pub placed : Place → ℕ → Placed
placed p s = elim (fits p s) [ true ↦ placed_at (address p s) (with_marker p s) (place_after p s) | false ↦ None ]

-- what every reading gives: the head lies inside an image of a good length
pub record PlaceSound (p : Place) : Type 0 where
  pub inside : p.head < p.length
  pub short : p.length ≤ 16777216

-- p with another tail
abbrev pub with_tail : Place → ℕ → Bool → Place
with_tail p t turned = record { head = p.head; tail = t; turned = turned; length = p.length }
