-- The steps of a sweep and of a mount from the first reading and the unchanged image alone: no step is carried out, nothing is read again.
use Rattle.std.specs.Prelude.{ℕ, zero, suc, min, Bool, true, false, ◌&&◌, not, List, [], ◌∷◌, ◌++◌, length, eqb, ltb}
use Rattle.spec.specs.Prelude.{Option, none, some}
use Rattle.spec.specs.declared.Place.{Place}
use Rattle.spec.specs.declared.Ending.{Ending}
use Rattle.spec.specs.Step.{Image, Step, program}
use Rattle.spec.specs.Geometry.{floor}
use Rattle.spec.specs.Bytes.{is_start, is_clean, is_erased, is_unfinished}
use Rattle.spec.specs.Record.{Entry, name_of, content_of, size}
use Rattle.spec.specs.Chain.{Reading}
use Rattle.spec.specs.Files.{live, superseded}
use Rattle.spec.specs.Place.{fits, address, place_after}
use Rattle.spec.specs.Placed.{with_tail}
use Rattle.spec.specs.Write.{put_steps}
use Rattle.spec.specs.Move.{copy_steps, close_steps}
use Rattle.spec.specs.Mount.{drop_steps}
use Rattle.spec.specs.Sweep.{stuck}
use Rattle.planning.specs.Repairs.{steps_1, steps_2, steps_3}

-- ---- places

-- "at N, the chain goes on at 0, if floor(h) > 0": a place with its tail at N before the turn, as it is read
unfoldable pub come_round : Place → Place
come_round p = elim (not p.turned && eqb p.tail p.length && ltb 0 (floor p.head)) [ true ↦ with_tail p 0 true | false ↦ p ]

-- the place that is read after a copy of size s
unfoldable pub copied_place : Place → ℕ → Place
copied_place p s = come_round (place_after p s)

-- the place that is read from Y on, at address y: with Y at 0 the turn lies behind it; where floor(h) leaves 0 a tail at N goes to 0
unfoldable pub led_place : Place → ℕ → Place
led_place p y = come_round (record { head = y; tail = p.tail; turned = p.turned && not (eqb y 0); length = p.length })

-- ---- one record

abbrev pub with_status : ℕ → Entry → Entry
with_status b e = record { at = e.at; it = record { low = e.it.low; status = b; name = name_of e; content = content_of e } }

abbrev pub with_low : ℕ → Entry → Entry
with_low b e = record { at = e.at; it = record { low = b; status = e.it.status; name = name_of e; content = content_of e } }

-- X's copy, where it goes
abbrev pub copy_of : Place → Entry → Entry
copy_of p x =
    record { at = address p (size x); it = record { low = 0xA5; status = 0xFC; name = name_of x; content = content_of x } }

-- ---- one move, as a function of the reading before it

-- the records after (a): a live X is deleted, and its copy is the last
unfoldable pub copied : Place → List Entry → List Entry
copied p [] = []
copied p (x ∷ es) = elim (live (x ∷ es) x) [ true ↦ with_status 0x00 x ∷ (es ++ (copy_of p x ∷ [])) | false ↦ x ∷ es ]

-- the place after (a)
unfoldable pub after_copy : Place → List Entry → Place
after_copy p [] = p
after_copy p (x ∷ es) = elim (live (x ∷ es) x) [ true ↦ copied_place p (size x) | false ↦ p ]

-- (b) to (f), of the records after (a)
unfoldable pub hand_steps : ℕ → List Entry → List Step
hand_steps N [] = []
hand_steps N (x ∷ []) = []
hand_steps N (x ∷ (y ∷ es)) = program y.at 0xA0 ∷ close_steps N x y 0xA0

-- what is read then: X is gone, and Y is the head, a START
unfoldable pub handed : Place → List Entry → Reading
handed p [] = record { place = p; entries = []; ending = Ending.Tail }
handed p (x ∷ []) = record { place = p; entries = x ∷ []; ending = Ending.Tail }
handed p (x ∷ (y ∷ es)) = record { place = led_place p y.at; entries = with_low 0x00 y ∷ es; ending = Ending.Tail }

abbrev pub move_steps : Reading → List Step
move_steps r = copy_steps r r.entries ++ hand_steps r.place.length (copied r.place r.entries)

abbrev pub moved_reading : Reading → Reading
moved_reading r = handed (after_copy r.place r.entries) (copied r.place r.entries)

-- at most k moves
unfoldable pub planned : ℕ → Reading → List (List Step)
planned zero r = []
planned (suc k) r = elim (stuck r) [ true ↦ [] | false ↦ move_steps r ∷ planned k (moved_reading r) ]

-- the moves of a sweep
abbrev pub planned_moves : Reading → List (List Step)
planned_moves r = planned (min 5 (length r.entries)) r

-- ---- the same by the entry chain, as K1's engine walks it

-- Y: the next record of the entry chain, or the first copy
abbrev pub next_of : List Entry → Option Entry → Option Entry
next_of [] c = c
next_of (y ∷ xs) c = some y

-- the first of the copies: c, or e if it is the first
abbrev pub first_copy : Option Entry → Entry → Option Entry
first_copy none e = some e
first_copy (some c) e = some c

-- (b) to (f) of X, and the moves behind them
abbrev pub handing : ℕ → Entry → Option Entry → (Entry → List (List Step)) → List Step → List (List Step)
handing N x none more ss = []
handing N x (some y) more ss = (ss ++ (program y.at 0xA0 ∷ close_steps N x y 0xA0)) ∷ more y

-- at most k moves; all is the entry chain, x ∷ xs what is left of it, p the place read at x, c the first copy if there is one yet
unfoldable pub walked : ℕ → List Entry → Place → List Entry → Option Entry → List (List Step)
walked zero all p xs c = []
walked (suc k) all p [] c = []
walked (suc k) all p (x ∷ xs) c =
    elim (live all x) [
      | true ↦
          elim (fits p (size x)) [
            | true ↦
                let f = first_copy c (copy_of p x) in
                handing p.length x (next_of xs f) (λ y. walked k all (led_place (copied_place p (size x)) y.at) xs f)
                (put_steps p (some x) (name_of x) (content_of x))
            | false ↦ []
          ]
      | false ↦ handing p.length x (next_of xs c) (λ y. walked k all (led_place p y.at) xs c) []
    ]

abbrev pub walked_moves : Reading → List (List Step)
walked_moves r = walked (min 5 (length r.entries)) r.entries r.place r.entries none

-- ---- mount

-- START, or as it was
abbrev pub start_if : Bool → Entry → Entry
start_if true e = with_low 0x00 e
start_if false e = e

-- the records after repair 1: the head is START
abbrev pub started : List Entry → List Entry
started [] = []
started (x ∷ es) = start_if (is_clean x.it.low) x ∷ es

-- the reading after repair 2: with Y CLEAN or START X is gone and Y is the head, a START
unfoldable pub paired : Place → Ending → Entry → Entry → List Entry → Reading
paired p e x y es =
    elim (is_clean y.it.low) [
      | true ↦ record { place = led_place p y.at; entries = with_low 0x00 y ∷ es; ending = e }
      | false ↦
          elim (is_start y.it.low) [
            | true ↦ record { place = led_place p y.at; entries = y ∷ es; ending = e }
            | false ↦ record { place = p; entries = x ∷ (y ∷ es); ending = e }
          ]
    ]

unfoldable pub first_mended : Place → Ending → List Entry → Reading
first_mended p e [] = record { place = p; entries = []; ending = e }
first_mended p e (x ∷ []) = record { place = p; entries = x ∷ []; ending = e }
first_mended p e (x ∷ (y ∷ es)) = paired p e x y es

-- dead, or as it was
abbrev pub dead_if : Bool → Entry → Entry
dead_if true e = with_status 0x00 e
dead_if false e = e

-- a torn record is a dead one of its own, a reserved one is dead
abbrev pub void_by : Bool → Bool → Entry → Entry
void_by true u e = with_low 0xA5 (with_status 0x00 e)
void_by false u e = dead_if u e

-- after repair 3: the last record is dead if it is unfinished; a torn wrap is a marker
abbrev pub voided : List Entry → List Entry
voided [] = []
voided (e ∷ []) = void_by (is_erased e.it.status) (is_unfinished e.it.status) e ∷ []
voided (e ∷ (f ∷ es)) = e ∷ voided (f ∷ es)

-- after repair 4: what is superseded among all is dead
abbrev pub dropped : List Entry → List Entry → List Entry
dropped all [] = []
dropped all (e ∷ es) = dead_if (superseded all e) e ∷ dropped all es

-- after repairs 1 and 2
abbrev pub half_mended : Reading → Reading
half_mended r = first_mended r.place r.ending (started r.entries)

-- "What mount repairs, in this order": the steps
unfoldable pub planned_mend : Image → Reading → List Step
planned_mend image r =
    let s = half_mended r in
    ((steps_1 image r ++ steps_2 r.place.length r.entries) ++ steps_3 image s) ++ drop_steps s.entries

-- and what is read then
unfoldable pub mended_reading : Reading → Reading
mended_reading r =
    let s = half_mended r in
    let es = voided s.entries in
    record { place = s.place; entries = dropped es es; ending = Ending.Tail }
