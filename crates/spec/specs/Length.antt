-- Request K8, "Length without reading the data": a file's length by the headers and names of the chain from a head on.
use Rattle.std.specs.Prelude.{ℕ, zero, suc, ◌+◌, ◌%◌, Bool, true, false, ◌&&◌, ◌||◌, not, List, [], ◌∷◌, ◌++◌, length, take, drop, ltb, eqb}
use Rattle.spec.specs.Prelude.{Option, none, some}
use Rattle.spec.specs.declared.Kind.{Kind}
use Rattle.spec.specs.declared.Next.{Next}
use Rattle.spec.specs.declared.Ending.{Ending}
use Rattle.spec.specs.declared.Extent.{Extent}
use Rattle.spec.specs.Step.{Image}
use Rattle.spec.specs.Basics.{Answer, refuse, give, numbered, checked, long, all, first_such}
use Rattle.spec.specs.Geometry.{good_length, floor}
use Rattle.spec.specs.Bytes.{is_record, is_start, is_unfinished}
use Rattle.spec.specs.Record.{low_of, high_of, status_of, spare_of, size_of, rec_of, name_length, name_ok, Entry, name_of, content_of}
use Rattle.spec.specs.Next.{kind, next}
use Rattle.spec.specs.Chain.{Reading, from_head, reading_from}
use Rattle.spec.specs.Files.{named, has_name}
use Rattle.spec.specs.Door.{misnamed}
use Rattle.spec.specs.Numbers.{Numbers, Outcome, of_list, no_extent}
use Rattle.spec.specs.Answers.{Plan, looking, carry_out}

-- ---- what can "stand at that place in a settled chain .., each record taken by itself"

-- "at the head all but START" is met wrongly; behind it (first is false) a START or CLEAN is
abbrev pub right_mark : Bool → ℕ → Bool
right_mark first low = elim first [ true ↦ is_start low | false ↦ is_record low ]

-- an FC or F8 record that has a name has a good one
unfoldable pub own_name_ok : Entry → Bool
own_name_ok e = elim (named 0xFC e || named 0xF8 e) [ true ↦ name_ok (name_of e) | false ↦ true ]

-- a record that can stand there: its magic, finished, its name; first: at the head
unfoldable pub stands : Bool → Entry → Bool
stands first e = right_mark first e.it.low && not (is_unfinished e.it.status) && own_name_ok e

-- all of them; the first stands at the head h itself, with no turn before it
unfoldable pub all_stand : ℕ → List Entry → Bool
all_stand h [] = false
all_stand h (x ∷ es) = eqb x.at h && stands true x && all (stands false) es

-- "ending at the first eight FF bytes, at a turn's limit or, with floor(h) = 0, at N"; a torn wrap marker is unfinished
abbrev pub at_tail : Ending → Bool
at_tail Ending.Tail = true
at_tail (Ending.TornWrap a) = false
at_tail Ending.Broken = false

-- ---- the answer

-- a record of this status, FC or F8, and of this name
unfoldable pub of_name : ℕ → List ℕ → Entry → Bool
of_name st name e = named st e && has_name name e

-- "else the first FC record of the name, else the first F8, else 2"
abbrev pub or_else : Option Entry → Option Entry → Answer ℕ
or_else (some e) o = give (length (content_of e))
or_else none (some e) = give (length (content_of e))
or_else none none = refuse (numbered 2)

abbrev pub length_in : List ℕ → List Entry → Answer ℕ
length_in name es = or_else (first_such (of_name 0xFC name) es) (first_such (of_name 0xF8 name) es)

-- "5 .. if the walk, to its end, meets what can't stand"
unfoldable pub walked : List ℕ → ℕ → Reading → Answer ℕ
walked name h r = checked (at_tail r.ending && all_stand h r.entries) (numbered 5) (length_in name r.entries)

-- "5 if the head isn't an 8-byte boundary below N"
unfoldable pub head_fits : ℕ → ℕ → Bool
head_fits N h = eqb (h % 8) 0 && ltb h N

unfoldable pub length_from : List ℕ → ℕ → Image → Answer ℕ
length_from name h image = checked (head_fits (length image) h) (numbered 5) (walked name h (reading_from image h))

-- "Get's 22 comes first"
unfoldable pub length_asked : List ℕ → ℕ → Image → Answer ℕ
length_asked name h image =
    checked (good_length (length image)) (numbered 22) (checked (name_ok name) (misnamed name) (length_from name h image))

-- the answer and the length, or what a refusal gives back
abbrev pub of_length : ℕ → ℕ → Numbers
of_length answer d = of_list answer no_extent d

abbrev pub measured : Answer ℕ → Answer Plan
measured (refuse x) = refuse x
measured (give d) = give (looking (of_length 0 d))

unfoldable pub file_length : Image → ℕ → List ℕ → Outcome
file_length image h name = carry_out image 0 (measured (length_asked name h image))

-- ---- "all headers and names on that walk, and .. the end that stops it": the stretches that it looks at

-- by its first four bytes it is a record that is neither torn nor reserved
abbrev pub is_plain : Kind → Bool
is_plain Kind.Record = true
is_plain Kind.Reserved = false
is_plain Kind.Torn = false
is_plain Kind.Marker = false
is_plain Kind.TornMarker = false
is_plain Kind.Clear = false
is_plain Kind.Bad = false

-- a record whose name is looked at
unfoldable pub header_stands : Bool → List ℕ → Bool
header_stands first s = is_plain (kind (low_of s) (high_of s) (status_of s) (spare_of s)) && right_mark first (low_of s)

abbrev pub stretch : ℕ → ℕ → Extent
stretch from size = record { offset = from; length = size }

-- the name's bytes with their 00, or 64 bytes that hold none, as far as s goes
abbrev pub name_read : List ℕ → List ℕ
name_read s = take (suc (name_length 63 false (drop 8 s))) (drop 8 s)

abbrev pub name_stretch : ℕ → List ℕ → Extent
name_stretch at s = stretch (at + 8) (length (name_read s))

-- the size of the record at the front of s, if it can stand there; else 0
unfoldable pub standing_size : Bool → ℕ → List ℕ → ℕ
standing_size first at s =
    elim (next s) [
      | Next.Record n d ↦ elim (stands first (record { at = at; it = rec_of s n d })) [ true ↦ size_of n d | false ↦ 0 ]
      | Next.Wrap ↦ 0
      | Next.TornWrap ↦ 0
      | Next.Clear ↦ 0
      | Next.Over ↦ 0
      | Next.Bad ↦ 0
    ]

-- from address at, where s stands, up to the end of s or to what stops the walk; k bounds the number of records
unfoldable pub seen : ℕ → Bool → ℕ → List ℕ → List Extent
seen zero first at s = []
seen (suc k) first at s =
    elim (long 1 s) [
      | false ↦ []
      | true ↦
          stretch at 8
          ∷ elim (header_stands first s) [
            | false ↦ []
            | true ↦
                name_stretch at s
                ∷ (let size = standing_size first at s in
                elim (eqb size 0) [ true ↦ [] | false ↦ seen k false (at + size) (drop size s) ])
          ]
    ]

-- the walk goes on at 0 behind a wrap marker, or at N
abbrev pub goes_round : Next → Bool
goes_round (Next.Record n d) = false
goes_round Next.Wrap = true
goes_round Next.TornWrap = false
goes_round Next.Clear = false
goes_round Next.Over = true
goes_round Next.Bad = false

-- all that the walk from h on looks at
unfoldable pub seen_from : Image → ℕ → List Extent
seen_from image h =
    let k = suc (length image) in
    let c = from_head image h in
    seen k true h (drop h image)
    ++ elim (not (eqb (floor h) 0) && all_stand h c.entries && goes_round c.last) [
      | true ↦ seen k false 0 (take (floor h) image)
      | false ↦ []
    ]
