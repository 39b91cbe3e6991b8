-- "What mount repairs, in this order".
use Rattle.std.specs.Prelude.{ℕ, ◌+◌, ◌-◌, Bool, true, false, not, List, [], ◌∷◌, ◌++◌, map, length, get_or, eqb}
use Rattle.spec.specs.declared.Ending.{Ending}
use Rattle.spec.specs.declared.Place.{Place}
use Rattle.spec.specs.Step.{Image, Step, program, erase, shifted}
use Rattle.spec.specs.Basics.{empty, keep}
use Rattle.spec.specs.Geometry.{floor, ceiling, sectors}
use Rattle.spec.specs.Bytes.{is_start, is_clean, is_erased, is_reserved}
use Rattle.spec.specs.Record.{Entry, name_of}
use Rattle.spec.specs.Chain.{Reading}
use Rattle.spec.specs.Files.{superseded}
use Rattle.spec.specs.Reading.{blank_part, head_clean}
use Rattle.spec.specs.Write.{status_step, marker_steps, name_end_steps}
use Rattle.spec.specs.Move.{Work, begin, after, start_steps, close_steps}

-- ---- 1. "Head CLEAN: erase each sector wholly in the free run that isn't all FF, ascending; then head's low byte to 00", by way of 80

unfoldable pub free_sectors : Place → List ℕ
free_sectors p =
    elim p.turned [
      | true ↦ sectors (ceiling p.tail) (floor p.head)
      | false ↦ sectors 0 (floor p.head) ++ sectors (ceiling p.tail) p.length
    ]

abbrev pub dirty : Image → ℕ → Bool
dirty image a = not (blank_part a (a + 4096) image)

unfoldable pub erase_steps : Image → Place → List Step
erase_steps image p = map erase (keep (dirty image) (free_sectors p))

abbrev pub head_low : List Entry → ℕ
head_low [] = 0
head_low (x ∷ es) = x.it.low

unfoldable pub repair_1 : Work → Work
repair_1 w =
    let h = w.reading.place.head in
    elim (head_clean w.reading.entries) [
      | true ↦ after w (erase_steps w.image w.reading.place ++ start_steps h (head_low w.reading.entries)) h
      | false ↦ w
    ]

-- ---- 2. "Head START, next record CLEAN: steps (c) to (f) of a move. Next START: head's second byte to 00"; after 1 the head is START

unfoldable pub repair_2 : Work → List Entry → Work
repair_2 w [] = w
repair_2 w (x ∷ []) = w
repair_2 w (x ∷ (y ∷ es)) =
    elim (is_clean y.it.low) [
      | true ↦ after w (close_steps w.reading.place.length x y y.it.low) y.at
      | false ↦ elim (is_start y.it.low) [ true ↦ after w (program (x.at + 1) 0x00 ∷ []) y.at | false ↦ w ]
    ]

-- ---- 3. The last thing.

-- "A reserve or torn record is voided by clearing the status's top bit alone first": 7F or 7E, which no rule takes for live, then 00.
-- Of the status FF or FE that stands at address a.
abbrev pub status_void_steps : ℕ → ℕ → List Step
status_void_steps a status = program a (status - 0x80) ∷ program a 0x00 ∷ []

-- "Torn: second byte 5A, four length bytes 00, byte 8 to 00, status 00", always all, from its start;
-- "its repair programs that byte" (the first) "first, always": 9 steps
abbrev pub torn_steps : List Step
torn_steps =
    program 0 0xA5 ∷ program 1 0x5A ∷ program 4 0x00 ∷ program 5 0x00 ∷ program 6 0x00 ∷ program 7 0x00 ∷ program 8 0x00
    ∷ status_void_steps 2 0xFF

-- "the missing 00 if any": at the end a of the name, where a byte of 80 or more counted as it
abbrev pub missing_steps : Image → ℕ → List Step
missing_steps image a = elim (eqb (get_or image a 0) 0x00) [ true ↦ [] | false ↦ name_end_steps a ]

-- "Reserved: the missing 00 if any, status 00"
abbrev pub reserved_steps : Image → Entry → List Step
reserved_steps image e = missing_steps image (e.at + (8 + length (name_of e))) ++ status_void_steps (e.at + 2) 0xFE

-- of a record that is torn, reserved or finished
unfoldable pub void_steps : Image → Entry → List Step
void_steps image e =
    elim (is_erased e.it.status) [
      | true ↦ shifted e.at torn_steps
      | false ↦ elim (is_reserved e.it.status) [ true ↦ reserved_steps image e | false ↦ [] ]
    ]

-- of the last record
unfoldable pub last_steps : Image → List Entry → List Step
last_steps image [] = []
last_steps image (e ∷ []) = void_steps image e
last_steps image (e ∷ (f ∷ es)) = last_steps image (f ∷ es)

-- "Torn wrap: 5A, F0", "its repair programs that byte" (the first) "first, always": the marker's own 3 steps
abbrev pub torn_wrap_steps : Ending → List Step
torn_wrap_steps Ending.Tail = []
torn_wrap_steps (Ending.TornWrap a) = shifted a marker_steps
torn_wrap_steps Ending.Broken = []

unfoldable pub repair_3 : Work → Work
repair_3 w = after w (last_steps w.image w.reading.entries ++ torn_wrap_steps w.reading.ending) w.reading.place.head

-- ---- 4. "Each F8 record with an FC record of its name: status 00, in chain order"

abbrev pub delete_step : Entry → Step
delete_step e = status_step e 0x00

unfoldable pub drop_steps : List Entry → List Step
drop_steps es = map delete_step (keep (superseded es) es)

unfoldable pub repair_4 : Work → Work
repair_4 w = after w (drop_steps w.reading.entries) w.reading.place.head

-- ---- all four, on an image with a legal reading

abbrev pub repair_2_on : Work → Work
repair_2_on w = repair_2 w w.reading.entries

unfoldable pub mended : Image → Reading → Work
mended image r = repair_4 (repair_3 (repair_2_on (repair_1 (begin image r))))

-- "An image is settled if mount accepts it and has no step to do"
unfoldable pub settled : Image → Reading → Bool
settled image r = empty (mended image r).steps
