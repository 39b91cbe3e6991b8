-- "Move of head X, next record Y".
use Rattle.std.specs.Prelude.{ℕ, zero, suc, ◌+◌, Bool, true, false, ◌&&◌, ◌||◌, List, [], ◌∷◌, ◌++◌, map, length, drop, eqb}
use Rattle.spec.specs.Prelude.{some}
use Rattle.spec.specs.Step.{Image, Step, program, erase, run}
use Rattle.spec.specs.Geometry.{floor, sectors}
use Rattle.spec.specs.Bytes.{is_record, is_start, is_clean, is_high}
use Rattle.spec.specs.Record.{low_of, high_of, Entry, name_of, content_of, data_at}
use Rattle.spec.specs.Chain.{Reading, reading_from}
use Rattle.spec.specs.Files.{live}
use Rattle.spec.specs.Write.{put_steps}

-- ---- steps that are done one phase after another

-- an image under repair: as it is now, what is read of it, and the steps done so far
pub record Work : Type 0 where
  pub image : Image
  pub reading : Reading
  pub steps : List Step

abbrev pub begin : Image → Reading → Work
begin image r = record { image = image; reading = r; steps = [] }

-- with the image that these steps leave, read from the head h on
abbrev pub reread : Work → List Step → Image → ℕ → Work
reread w ss left h = record { image = left; reading = reading_from left h; steps = w.steps ++ ss }

-- after a phase with these steps: "reads the image that those before it left, on from the head they left, with no new search"; with no step nothing changes
unfoldable pub after : Work → List Step → ℕ → Work
after w [] h = w
after w (s ∷ ss) h = reread w (s ∷ ss) (run w.image (s ∷ ss)) h

-- ---- the move

-- (a) "a live X is copied as in put, from F8 to its own status 00"
unfoldable pub copy_steps : Reading → List Entry → List Step
copy_steps r [] = []
copy_steps r (x ∷ es) = elim (live (x ∷ es) x) [ true ↦ put_steps r.place (some x) (name_of x) (content_of x) | false ↦ [] ]

-- (b) "Y's low byte A0"
abbrev pub to_clean_step : Entry → Step
to_clean_step y = program y.at 0xA0

-- "00 5A, A0 5A or A5 5A" at the front of s: a mark; 80, A4 and A1, "all three are cleaned from old data as those are"
abbrev pub mark_here : List ℕ → Bool
mark_here s = (is_start (low_of s) || is_clean (low_of s) || is_record (low_of s)) && is_high (high_of s)

-- "the second byte to 00", of such a pair at address a
abbrev pub mark_steps : ℕ → List ℕ → List Step
mark_steps a s = elim (mark_here s) [ true ↦ program (a + 1) 0x00 ∷ [] | false ↦ [] ]

-- (c) "in X's data, at each 8-byte boundary .., ascending": from address a on, where the rest s of the data stands; both bytes of a pair lie in the data
unfoldable pub clean_steps : ℕ → ℕ → List ℕ → List Step
clean_steps zero a s = []
clean_steps (suc k) a s = mark_steps a s ++ clean_steps k (a + 8) (drop 8 s)

-- (d) ends with "the one before Y's (to N if Y is at 0 after a turn)"; only after a turn is Y at 0
unfoldable pub vacated_end : ℕ → Entry → ℕ
vacated_end N y = elim (eqb y.at 0) [ true ↦ N | false ↦ floor y.at ]

-- (d) "the sectors from X's to .."
abbrev pub vacated : ℕ → Entry → Entry → List ℕ
vacated N x y = sectors (floor x.at) (vacated_end N y)

-- (d) "erase, ascending", these sectors
abbrev pub vacated_steps : List ℕ → List Step
vacated_steps starts = map erase starts

-- (e) "Y's low byte 00": "a low magic byte of A0 goes to 80 and then to 00 (from 80 only the last), in a move and in every repair".
-- Of a CLEAN at address a with this low byte; each step clears one bit, so that nothing else stands in between.
abbrev pub start_steps : ℕ → ℕ → List Step
start_steps a low = elim (eqb low 0xA0) [ true ↦ program a 0x80 ∷ program a 0x00 ∷ [] | false ↦ program a 0x00 ∷ [] ]

-- (f) "X's second byte 00 if X wasn't erased", with the sectors erased
abbrev pub forget_steps : Entry → List ℕ → List Step
forget_steps x [] = program (x.at + 1) 0x00 ∷ []
forget_steps x (a ∷ rest) = []

-- (d) to (f), with the sectors to erase, of a Y with this low byte
abbrev pub vacate_steps : Entry → Entry → ℕ → List ℕ → List Step
vacate_steps x y low starts = vacated_steps starts ++ (start_steps y.at low ++ forget_steps x starts)

-- (c) to (f), of a Y with this low byte
unfoldable pub close_steps : ℕ → Entry → Entry → ℕ → List Step
close_steps N x y low = clean_steps (length (content_of x)) (data_at x) (content_of x) ++ vacate_steps x y low (vacated N x y)

-- (b) to (f); the head is then Y
unfoldable pub hand_over : Work → List Entry → Work
hand_over w [] = w
hand_over w (x ∷ []) = w
hand_over w (x ∷ (y ∷ es)) = after w (to_clean_step y ∷ close_steps w.reading.place.length x y 0xA0) y.at

-- the whole move after its copy
abbrev pub moved_on : Work → Work
moved_on w = hand_over w w.reading.entries

-- the whole move; (a) comes first, so that Y may be X's own copy
unfoldable pub move : Work → Work
move w = moved_on (after w (copy_steps w.reading w.reading.entries) w.reading.place.head)
