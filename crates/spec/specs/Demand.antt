-- "What demand 3 says of every history".
use Rattle.std.specs.Prelude.{ℕ, ◌+◌, ◌%◌, ◌≤◌, ◌<◌, ◌≡◌, Bool, true, false, List, [], ◌∷◌, length, get_or}
use Rattle.spec.specs.Prelude.{some}
use Rattle.std.specs.Int.Bits.{bit_and}
use Rattle.spec.specs.Step.{Image, Step, program, erase, apply, run}
use Rattle.spec.specs.Basics.{first_such, Each}
use Rattle.spec.specs.Record.{name_ok}
use Rattle.spec.specs.Answers.{format, mount, get, list, mount_plan}
use Rattle.spec.specs.Numbers.{part_of}
use Rattle.spec.specs.History.{Request, Call, outcome, replay, steps_of, steps_done, steps_left, partly, File, Ledger, is_named, has, ledger}

-- ---- bytes only lose bits

-- "the byte listed for it has no bit set that is clear in the byte it finds"
abbrev pub Clears : ℕ → ℕ → Type 0
Clears found listed = bit_and listed found ≡ listed

-- what may be asked of the step of a list: the byte that a program step finds is there, and loses bits only; an erase takes a sector of
-- the image
abbrev pub StepSound : Image → Step → Type 0
StepSound image (program a b) = (a < length image) × Clears (get_or image a 0) b
StepSound image (erase a) = (a % 4096 ≡ 0) × (a + 4096 ≤ length image)

-- so of each step of a list
abbrev pub StepsSound : Image → List Step → Type 0
StepsSound image [] = Unit {0}
StepsSound image (s ∷ ss) = StepSound image s × StepsSound (apply image s) ss

-- ---- what a call does

-- get and list only look
abbrev pub only_looks : Request → Bool
only_looks (Request.put name content) = false
only_looks (Request.remove name) = false
only_looks Request.sweep = false
only_looks Request.mount = false
only_looks (Request.get name) = true
only_looks (Request.list index) = true

-- a call, on the image that it gets. "each program step in it .. stands in one of the step lists above" by definition: the steps done are
-- the first of its plan's. These and no others: it leaves the "image as after those steps", where a cut inside the next one may have
-- programmed its byte in part, and reports as many "steps used"
pub record CallDone (image : Image) (c : Call) : Type 0 where
  pub sound : StepsSound image (steps_done image c)
  pub leaves : (outcome image c).image ≡ partly c.cut_byte (steps_left image c) (run image (steps_done image c))
  pub reports : (outcome image c).numbers.steps ≡ length (steps_done image c)
  pub unchanged : only_looks c.request ≡ true → (outcome image c).image ≡ image

-- so of each call of a history
abbrev pub CallsDone : Image → List Call → Type 0
CallsDone image [] = Unit {0}
CallsDone image (c ∷ cs) = CallDone image c × CallsDone (outcome image c).image cs

-- ---- the names of the ledger

-- no name stands twice, so a ledger's length is "the number of names in the ledger"
abbrev pub Distinct : Ledger → Type 0
Distinct [] = Unit {0}
Distinct (f ∷ l) = (has f.name l ≡ false) × Distinct l

-- "The ledger maps file names to contents": it maps this file's name to this file's content
abbrev pub Maps : Ledger → File → Type 0
Maps l f = first_such (is_named f.name) l ≡ some f

-- ---- what mount shows

-- list gives this name at this index
abbrev pub Lists : Image → ℕ → List ℕ → Type 0
Lists image i name = ((list image i).numbers.answer ≡ 0) × (part_of image (list image i).numbers ≡ name)

-- "list gives each of these names once, with its content's length, at the indexes below that count"
pub record Listed (image : Image) (count : ℕ) (f : File) : Type 0 where
  pub index : ℕ
  pub below : index < count
  pub there : Lists image index f.name
  pub size : (list image index).numbers.size ≡ length f.content
  pub once : (i : ℕ) → i < count → Lists image i f.name → i ≡ index

-- and no other name "at the indexes below that count": what list gives at this one is a file of the ledger
pub record Indexed (image : Image) (l : Ledger) (i : ℕ) : Type 0 where
  pub file : File
  pub mapped : Maps l file
  pub there : Lists image i file.name
  pub size : (list image i).numbers.size ≡ length file.content

-- "get gives each its content"
pub record Got (image : Image) (f : File) : Type 0 where
  pub answer : (get image f.name).numbers.answer ≡ 0
  pub content : part_of image (get image f.name).numbers ≡ f.content

-- an image that has exactly the ledger's files, on which mount counted so many; "list: index ≥ files" is 2, and
-- "get of any other name that passes the name check is 2"
pub record Shows (image : Image) (count : ℕ) (l : Ledger) : Type 0 where
  pub counted : count ≡ length l
  pub listed : Each (Listed image count) l
  pub only : (i : ℕ) → i < count → Indexed image l i
  pub beyond : (i : ℕ) → count ≤ i → (list image i).numbers.answer ≡ 2
  pub got : Each (Got image) l
  pub others : (name : List ℕ) → name_ok name ≡ true → has name l ≡ false → (get image name).numbers.answer ≡ 2

-- "That mount, with an allowance of at least its need, answers 0. Its count of live files is the number of names in the ledger. On the
-- image that it leaves, ..": the image after all its steps
pub record Mounted (image : Image) (k : ℕ) (l : Ledger) : Type 0 where
  pub answer : (mount image k).numbers.answer ≡ 0
  pub leaves : (mount image k).image ≡ run image (steps_of (mount_plan image))
  pub shows : Shows (mount image k).image (mount image k).numbers.report.files l

-- all of it, for a history, cut inside bytes too (`cut_byte` in Call), that begins at `start`, leaves `image` and has the ledger `l`;
-- a mount with a smaller allowance does the first of the same steps
pub record Kept (start : Image) (calls : List Call) (image : Image) (l : Ledger) : Type 0 where
  pub done : CallsDone start calls
  pub sound_after : StepsSound image (steps_of (mount_plan image))
  pub distinct : Distinct l
  pub mounted : (k : ℕ) → length (steps_of (mount_plan image)) ≤ k → Mounted image k l

-- ---- the demand

-- a call's content is bytes
abbrev pub BytesPut : Request → Type 0
BytesPut (Request.put name content) = Each (λ b. b < 256) content
BytesPut (Request.remove name) = Unit {0}
BytesPut Request.sweep = Unit {0}
BytesPut Request.mount = Unit {0}
BytesPut (Request.get name) = Unit {0}
BytesPut (Request.list index) = Unit {0}

-- Demand 3, "a single claim about the whole history": "it starts from the image that a format with answer 0 left"; the ledger
-- "starts empty"
abbrev pub Demand3 : Type 0
Demand3 =
    (raw : Image) (k : ℕ) (calls : List Call) → (format raw k).numbers.answer ≡ 0 → Each (λ c. BytesPut c.request) calls →
    let start = (format raw k).image in
    Kept start calls (replay start calls) (ledger start calls [])
