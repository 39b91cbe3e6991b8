-- "Free run", "Refusal 5", and the reading of a whole image.
use Rattle.std.specs.Prelude.{ℕ, ◌+◌, min, Bool, true, false, ◌&&◌, ◌||◌, not, List, [], ◌∷◌, eqb}
use Rattle.spec.specs.declared.Ending.{Ending}
use Rattle.spec.specs.declared.Place.{Place}
use Rattle.spec.specs.Step.{Image}
use Rattle.spec.specs.Basics.{Answer, give, numbered, checked, onward, part, blank, any, all}
use Rattle.spec.specs.Geometry.{floor}
use Rattle.spec.specs.Bytes.{is_start, is_clean}
use Rattle.spec.specs.Record.{name_ok, Entry, name_of}
use Rattle.spec.specs.Head.{head}
use Rattle.spec.specs.Chain.{Reading, reading_from}
use Rattle.spec.specs.Files.{live, doubled}

-- ---- "Free run: before the turn [T, N) and [0, floor(h)), after it [T, floor(h))"

-- where the stretch of it that begins at T ends: N before the turn, floor(h) after it
abbrev pub limit : Place → ℕ
limit p = elim p.turned [ true ↦ floor p.head | false ↦ p.length ]

-- the bytes from a up to b are FF
abbrev pub blank_part : ℕ → ℕ → Image → Bool
blank_part a b image = blank (part a b image)

-- "It must be FF"
unfoldable pub free_blank : Image → Place → Bool
free_blank image p =
    elim p.turned [
      | true ↦ blank_part p.tail (floor p.head) image
      | false ↦ blank_part 0 (floor p.head) image && blank_part p.tail p.length image
    ]

-- "only T's own sector (from T) must", as far as it lies in the free run
unfoldable pub tail_blank : Image → Place → Bool
tail_blank image p = blank_part p.tail (min (floor p.tail + 4096) (limit p)) image

-- the first record is CLEAN
abbrev pub head_clean : List Entry → Bool
head_clean [] = false
head_clean (x ∷ es) = is_clean x.it.low

-- "It must be FF, but if the head is CLEAN, only T's own sector (from T) must"
unfoldable pub free_ok : Image → Reading → Bool
free_ok image r = elim (head_clean r.entries) [ true ↦ tail_blank image r.place | false ↦ free_blank image r.place ]

-- ---- "Refusal 5 is any chain that breaks these rules"

-- the chain itself breaks none
abbrev pub whole : Ending → Bool
whole Ending.Tail = true
whole (Ending.TornWrap a) = true
whole Ending.Broken = false

-- a START or a CLEAN
abbrev pub marked : Entry → Bool
marked e = is_start e.it.low || is_clean e.it.low

-- of the first record x and the second y: no "second record START in another sector", no "second CLEAN or START while the first record is live"
unfoldable pub second_ok : List Entry → Entry → Entry → Bool
second_ok es x y =
    elim (marked y) [
      | true ↦ not (live es x) && (is_clean y.it.low || eqb (floor y.at) (floor x.at))
      | false ↦ true
    ]

-- nor "CLEAN or START further on"
unfoldable pub marks_ok : List Entry → Bool
marks_ok [] = true
marks_ok (x ∷ []) = true
marks_ok (x ∷ (y ∷ es)) = second_ok (x ∷ (y ∷ es)) x y && not (any marked es)

-- no "live name that breaks the name rule", of e among the records es
unfoldable pub name_legal : List Entry → Entry → Bool
name_legal es e = elim (live es e) [ true ↦ name_ok (name_of e) | false ↦ true ]

unfoldable pub names_ok : List Entry → Bool
names_ok es = all (name_legal es) es

-- no "two FC or two F8 of one name"
unfoldable pub single : List Entry → Bool
single es = not (doubled 0xFC es) && not (doubled 0xF8 es)

-- none of the rules is broken; the other rules, on magic, status, reserved byte, name's end, record's end, markers and last things, are the chain's own
unfoldable pub legal : Image → Reading → Bool
legal image r = whole r.ending && names_ok r.entries && single r.entries && marks_ok r.entries && free_ok image r

unfoldable pub judged : Image → Reading → Answer Reading
judged image r = checked (legal image r) (numbered 5) (give r)

-- from this head on
abbrev pub read_at : Image → ℕ → Answer Reading
read_at image h = judged image (reading_from image h)

-- "Reading an image": a refusal with its number, or what is read
unfoldable pub reading : Image → Answer Reading
reading image = onward (head image) (read_at image)
