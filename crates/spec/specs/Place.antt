-- "Placing": whether and where a size fits, the place after it, and the room that put asks for.
use Rattle.std.specs.Prelude.{ℕ, ◌+◌, max, Bool, true, false, ◌&&◌, ◌||◌, not, List, [], ◌∷◌, ◌++◌, map, leb, ltb, eqb}
use Rattle.spec.specs.declared.Place.{Place}
use Rattle.spec.specs.Basics.{keep}
use Rattle.spec.specs.Geometry.{floor}
use Rattle.spec.specs.Record.{Entry, size}
use Rattle.spec.specs.Files.{files, has_name}
use Rattle.spec.specs.Reading.{limit}

-- "before the turn at T if T+s ≤ N", "after the turn at T if T+s ≤ floor(h)"
unfoldable pub fits_at_tail : Place → ℕ → Bool
fits_at_tail p s = leb (p.tail + s) (limit p)

-- "else at 0 if s ≤ floor(h)", before the turn
unfoldable pub fits : Place → ℕ → Bool
fits p s = fits_at_tail p s || (not p.turned && leb s (floor p.head))

-- the address of a record of size s that fits
unfoldable pub address : Place → ℕ → ℕ
address p s = elim (fits_at_tail p s) [ true ↦ p.tail | false ↦ 0 ]

-- at 0 "with a wrap marker at T if T < N"
unfoldable pub with_marker : Place → ℕ → Bool
with_marker p s = not (fits_at_tail p s) && ltb p.tail p.length

-- the place after a record of size s that fits
unfoldable pub place_after : Place → ℕ → Place
place_after p s = record { head = p.head; tail = address p s + s; turned = p.turned || not (fits_at_tail p s); length = p.length }

-- sizes that "fit one after the other"
unfoldable pub fits_all : Place → List ℕ → Bool
fits_all p [] = true
fits_all p (s ∷ ss) = elim (fits p s) [ true ↦ fits_all (place_after p s) ss | false ↦ false ]

-- the largest of s and the sizes of these records
abbrev pub largest : ℕ → List Entry → ℕ
largest s [] = s
largest s (e ∷ es) = largest (max s (size e)) es

-- "the replaced one out": not of this name
abbrev pub other_name : List ℕ → Entry → Bool
other_name n e = not (has_name n e)

-- "the largest size among the live files (the new one in, the replaced one out)"; the new one has size s
unfoldable pub largest_with : List ℕ → ℕ → List Entry → ℕ
largest_with name s es = largest s (keep (other_name name) (files es))

-- "begin in the head's sector": the address a lies there
unfoldable pub in_head_sector : Place → ℕ → Bool
in_head_sector p a = eqb (floor a) (floor p.head)

abbrev pub begins_there : Place → Entry → Bool
begins_there p e = in_head_sector p e.at

-- "all live records that begin in the head's sector (the replaced one out ..)": their sizes "in chain order"
unfoldable pub standing : Place → List ℕ → List Entry → List ℕ
standing p name es = map size (keep (begins_there p) (keep (other_name name) (files es)))

-- "the new one in if it begins there"; in chain order it is the last
unfoldable pub joining : Place → ℕ → List ℕ
joining p s = elim (in_head_sector p (address p s)) [ true ↦ s ∷ [] | false ↦ [] ]

-- "New rule for put: the new record fits; then all live records that begin in the head's sector .. fit one after another in chain order;
-- then two of the largest"
unfoldable pub room : Place → List ℕ → ℕ → List Entry → Bool
room p name s es =
    let l = largest_with name s es in
    fits_all p (s ∷ (standing p name es ++ (joining p s ++ (l ∷ l ∷ []))))
