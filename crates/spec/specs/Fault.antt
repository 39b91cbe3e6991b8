-- K13: "the first broken rule in reading order with its address (the later of two)". Reading order is the chain's, then the free run's as
-- 01 writes it, [T, N) before [0, floor(h)). "The rules, at one address in this order: head (address 0), unfinished .., header .., name ..,
-- end, mark .., free".
use Rattle.std.specs.Prelude.{ℕ, Option, Some, None, ◌+◌, min, Bool, true, false, ◌&&◌, ◌||◌, not, List, [], ◌∷◌, ◌++◌, take, drop, ltb, eqb}
use Rattle.spec.specs.declared.Kind.{Kind}
use Rattle.spec.specs.declared.Ending.{Ending}
use Rattle.spec.specs.declared.Place.{Place}
use Rattle.spec.specs.declared.Rule.{Rule}
use Rattle.spec.specs.declared.Fault.{Fault}
use Rattle.spec.specs.Step.{Image}
use Rattle.spec.specs.Basics.{long, blank, part}
use Rattle.spec.specs.Geometry.{floor}
use Rattle.spec.specs.Bytes.{is_unfinished, is_spare}
use Rattle.spec.specs.Record.{low_of, high_of, status_of, spare_of, data_len_of, size_of, name_length, rec_of, Entry}
use Rattle.spec.specs.Next.{kind}
use Rattle.spec.specs.Chain.{Reading}
use Rattle.spec.specs.Files.{named, has_named}
use Rattle.spec.specs.Reading.{limit, head_clean, whole, marked, second_ok, name_legal}

-- this rule is broken at this address
abbrev pub broken : Rule → ℕ → Option Fault
broken rule a = Some (record { rule = rule; at = a })

-- ---- a record e that was read, behind those of `before`; all are the records that were read

-- "unfinished": e is torn or reserved, and the chain breaks off behind it, for something stands there
unfoldable pub unfinished_wrong : Ending → Entry → Bool
unfinished_wrong x e = is_unfinished e.it.status && not (whole x)

-- "a repeated one too": one before e has its status, FC or F8, and its name; e is "the later of two"
unfoldable pub repeated : List Entry → Entry → Bool
repeated before e = (named 0xFC e && has_named 0xFC before e) || (named 0xF8 e && has_named 0xF8 before e)

-- "name"
unfoldable pub name_wrong : List Entry → List Entry → Entry → Bool
name_wrong all before e = repeated before e || not (name_legal all e)

-- "mark (CLEAN, START .. out of place)", of a record
unfoldable pub mark_wrong : List Entry → List Entry → Entry → Bool
mark_wrong all [] e = false
mark_wrong all (x ∷ []) e = not (second_ok all x e)
mark_wrong all (x ∷ (y ∷ es)) e = marked e

-- its header is good and it ends where it may, or it was not read
unfoldable pub record_fault : Ending → List Entry → List Entry → Entry → Option Fault
record_fault x all before e =
    elim (unfinished_wrong x e) [
      | true ↦ broken Rule.Unfinished e.at
      | false ↦
          elim (name_wrong all before e) [
            | true ↦ broken Rule.Name e.at
            | false ↦ elim (mark_wrong all before e) [ true ↦ broken Rule.Mark e.at | false ↦ None ]
          ]
    ]

-- the first of the records es, one after another
unfoldable pub chain_fault : Ending → List Entry → List Entry → List Entry → Option Fault
chain_fault x all before [] = None
chain_fault x all before (e ∷ es) =
    elim (record_fault x all before e) [
      | None ↦ chain_fault x all (before ++ e ∷ []) es
      | Some f ↦ Some f
    ]

-- ---- the place at which the chain breaks off

-- something stands at the front of s
unfoldable pub stands : List ℕ → Bool
stands s = not (blank (take 8 s))

-- something stands size bytes behind the tail: at the end of the stretch "the chain goes on at 0, if floor(h) > 0", and not after the turn
unfoldable pub stands_behind : Image → Place → ℕ → Bool
stands_behind image p size =
    elim (long 1 (drop size (part p.tail (limit p) image))) [
      | true ↦ stands (drop size (part p.tail (limit p) image))
      | false ↦ elim (p.turned || eqb (floor p.head) 0) [ true ↦ false | false ↦ stands image ]
    ]

-- an unfinished record of this size whose reserved byte is not FF: "unfinished" if it is not the last thing, else "header"; one that does
-- not end where it may has nothing behind it
unfoldable pub spare_fault : Image → Place → ℕ → Rule
spare_fault image p size =
    elim (long size (part p.tail (limit p) image) && stands_behind image p size) [ true ↦ Rule.Unfinished | false ↦ Rule.Header ]

-- a torn record, spare: its reserved byte is FF
unfoldable pub torn_fault : Image → Place → Bool → Rule
torn_fault image p spare = elim spare [ true ↦ Rule.End | false ↦ spare_fault image p 16 ]

-- a reserved record, whose name has n bytes; "neither FF nor 00" in 64 bytes is of the paragraph on the last thing
unfoldable pub reserved_fault : Image → Place → Bool → ℕ → Rule
reserved_fault image p spare n =
    elim (ltb n 64) [
      | false ↦ Rule.Unfinished
      | true ↦ elim spare [ true ↦ Rule.End | false ↦ spare_fault image p (size_of n (data_len_of (drop p.tail image))) ]
    ]

-- any other record
unfoldable pub finished_fault : Bool → ℕ → Rule
finished_fault spare n = elim spare [ true ↦ elim (ltb n 64) [ true ↦ Rule.End | false ↦ Rule.Name ] | false ↦ Rule.Header ]

-- what stands at the front of w, if the reserved byte is left aside
abbrev pub shape : List ℕ → Kind
shape w = kind (low_of w) (high_of w) (status_of w) 0xFF

-- the name in w, up to N: "in the 64 bytes from its byte 8 (cut off at N)"
abbrev pub name_here : Bool → List ℕ → ℕ
name_here reserved w = name_length 64 reserved (drop 8 w)

-- of the shape k, where w stands from the tail up to N; a torn wrap that is out of place, or not FF behind, is "unfinished", a marker that
-- is out of place is a "mark"
unfoldable pub shape_fault : Image → Place → List ℕ → Kind → Rule
shape_fault image p w Kind.Record = finished_fault (is_spare (spare_of w)) (name_here false w)
shape_fault image p w Kind.Reserved = reserved_fault image p (is_spare (spare_of w)) (name_here true w)
shape_fault image p w Kind.Torn = torn_fault image p (is_spare (spare_of w))
shape_fault image p w Kind.Marker = elim (is_spare (spare_of w)) [ true ↦ Rule.Mark | false ↦ Rule.Header ]
shape_fault image p w Kind.TornMarker = Rule.Unfinished
shape_fault image p w Kind.Clear = Rule.Header
shape_fault image p w Kind.Bad = Rule.Header

-- the last record is unfinished
abbrev pub last_pending : Entry → List Entry → Bool
last_pending e [] = is_unfinished e.it.status
last_pending e (f ∷ es) = last_pending f es

abbrev pub last_open : List Entry → Bool
last_open [] = false
last_open (e ∷ es) = last_pending e es

-- a record whose header and name are good, but not its end, stands at w: it is read as far as its name
unfoldable pub is_cut_off : List ℕ → Bool
is_cut_off w =
    elim (shape w) [
      | Kind.Record ↦ is_spare (spare_of w) && ltb (name_here false w) 64
      | Kind.Reserved ↦ false
      | Kind.Torn ↦ false
      | Kind.Marker ↦ false
      | Kind.TornMarker ↦ false
      | Kind.Clear ↦ false
      | Kind.Bad ↦ false
    ]

abbrev pub cut_off_at : ℕ → List ℕ → Entry
cut_off_at a w = record { at = a; it = rec_of w (name_here false w) (data_len_of w) }

-- that record, if the chain breaks off there; behind an unfinished record nothing more is read
unfoldable pub cut_off : Image → Reading → List Entry
cut_off image r =
    let w = drop r.place.tail image in
    elim (not (whole r.ending) && not (last_open r.entries) && is_cut_off w) [
      | true ↦ cut_off_at r.place.tail w ∷ []
      | false ↦ []
    ]

-- the rule that is broken there: of a record read as far as its name first the name, then the end
unfoldable pub stop_rule : Image → Reading → List Entry → Rule
stop_rule image r [] = let w = drop r.place.tail image in shape_fault image r.place w (shape w)
stop_rule image r (e ∷ es) = elim (name_wrong (r.entries ++ e ∷ es) r.entries e) [ true ↦ Rule.Name | false ↦ Rule.End ]

-- ---- the free run

-- "free (first byte not FF)", of the bytes s from address a on
unfoldable pub dirt : ℕ → List ℕ → Option Fault
dirt a [] = None
dirt a (b ∷ s) = elim (eqb b 0xFF) [ true ↦ dirt (a + 1) s | false ↦ broken Rule.Free a ]

-- of the bytes from a up to b
abbrev pub dirt_part : ℕ → ℕ → Image → Option Fault
dirt_part a b image = dirt a (part a b image)

-- "[T, N) and [0, floor(h)), after it [T, floor(h))"
unfoldable pub run_fault : Image → Place → Option Fault
run_fault image p =
    elim (dirt_part p.tail (limit p) image) [
      | None ↦ elim p.turned [ true ↦ None | false ↦ dirt_part 0 (floor p.head) image ]
      | Some f ↦ Some f
    ]

-- "but if the head is CLEAN, only T's own sector (from T) must" be FF
unfoldable pub free_fault : Image → Reading → Option Fault
free_fault image r =
    elim (head_clean r.entries) [
      | true ↦ dirt_part r.place.tail (min (floor r.place.tail + 4096) (limit r.place)) image
      | false ↦ run_fault image r.place
    ]

-- ---- all of it

-- behind the records: where the chain breaks off, or in the free run
unfoldable pub end_fault : Image → Reading → Option Fault
end_fault image r =
    elim (whole r.ending) [
      | true ↦ free_fault image r
      | false ↦ broken (stop_rule image r (cut_off image r)) r.place.tail
    ]

-- the first broken rule of what is read from a head on
unfoldable pub first_fault : Image → Reading → Option Fault
first_fault image r =
    elim (chain_fault r.ending (r.entries ++ cut_off image r) [] r.entries) [
      | None ↦ end_fault image r
      | Some f ↦ Some f
    ]
