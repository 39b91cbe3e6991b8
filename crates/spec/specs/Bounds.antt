-- "How long can boot recovery take": the most flash steps of each call that writes, as a watchdog needs them. Crate history proves these.
use Rattle.std.specs.Prelude.{ℕ, suc, ◌+◌, ◌*◌, ◌/◌, ◌≤◌, ◌≡◌, true, false, List, [], ◌∷◌, length, take}
use Rattle.spec.specs.Prelude.{Option, none, some}
use Rattle.spec.specs.Step.{Image, Step, program, erase}
use Rattle.spec.specs.Basics.{give, Each}
use Rattle.spec.specs.Bytes.{is_committed}
use Rattle.spec.specs.Record.{size_of, Entry, content_of}
use Rattle.spec.specs.Chain.{Reading}
use Rattle.spec.specs.Reading.{reading}
use Rattle.spec.specs.Files.{file_named}
use Rattle.spec.specs.Place.{with_marker}
use Rattle.spec.specs.Answers.{Plan, format, mount, put, remove, sweep, format_plan, mount_plan, put_plan, remove_plan, sweep_plan}
use Rattle.spec.specs.Door.{settled_reading}
use Rattle.spec.specs.History.{Call, replay, steps_of, three_if}
use Rattle.spec.specs.Demand.{BytesPut}

-- ---- the two kinds of step, which take different times

abbrev pub programs : List Step → ℕ
programs [] = 0
programs (program a b ∷ ss) = suc (programs ss)
programs (erase a ∷ ss) = programs ss

abbrev pub erases : List Step → ℕ
erases [] = 0
erases (program a b ∷ ss) = erases ss
erases (erase a ∷ ss) = suc (erases ss)

-- at most p bytes are programmed and e sectors erased
pub record AtMost (p e : ℕ) (ss : List Step) : Type 0 where
  pub programs_few : programs ss ≤ p
  pub erases_few : erases ss ≤ e

-- ---- mount, on "any store that a history of demand 3 can give"; cut anywhere, inside a byte too, with any allowance

-- "at most N/8 + N/4,096 + 8 steps"
abbrev pub mount_most : ℕ → ℕ
mount_most N = N / 8 + N / 4096 + 8

abbrev pub MountBound : Type 0
MountBound =
    (raw : Image) (k : ℕ) (calls : List Call) → (format raw k).numbers.answer ≡ 0 → Each (λ c. BytesPut c.request) calls →
    let image = replay (format raw k).image calls in
    (m : ℕ) → (mount image m).numbers.steps ≤ mount_most (length image)

-- the two kinds apart, in a mount that is cut after m steps or not
abbrev pub MountKinds : Type 0
MountKinds =
    (raw : Image) (k : ℕ) (calls : List Call) → (format raw k).numbers.answer ≡ 0 → Each (λ c. BytesPut c.request) calls →
    let image = replay (format raw k).image calls in
    (m : ℕ) → AtMost (length image / 8 + 8) (length image / 4096) (take m (steps_of (mount_plan image)))

-- A sharper number, by the d data bytes of the head's record: only these are ever cleaned of marks, a byte for 8 of them.
abbrev pub head_most : ℕ → ℕ
head_most d = (d + 7) / 8 + 9

abbrev pub head_data : List Entry → ℕ
head_data [] = 0
head_data (x ∷ es) = length (content_of x)

-- the image is read, and mount programs at most so many bytes, by the head that is read
pub record MountsByHead (image : Image) : Type 0 where
  pub read : Reading
  pub reads : reading image ≡ give read
  pub few : (m : ℕ) → AtMost (head_most (head_data read.entries)) (length image / 4096) (take m (steps_of (mount_plan image)))

abbrev pub MountByHead : Type 0
MountByHead =
    (raw : Image) (k : ℕ) (calls : List Call) → (format raw k).numbers.answer ≡ 0 → Each (λ c. BytesPut c.request) calls →
    MountsByHead (replay (format raw k).image calls)

-- ---- put, on every image

-- "old file FC to F8 if it is FC", "old file's status 00"
abbrev pub old_count : Option Entry → ℕ
old_count none = 0
old_count (some e) = elim (is_committed e.it.status) [ true ↦ 2 | false ↦ 1 ]

-- "exact by case": n + d + 10, and 1 for an old file that is F8 or 2 for one that is FC, and 3 with a marker
unfoldable pub put_count : List ℕ → List ℕ → Reading → ℕ
put_count name content r =
    let s = size_of (length name) (length content) in
    length name + length content + 10 + old_count (file_named name r.entries) + three_if (with_marker r.place s)

-- a put that is not refused has exactly so many steps, as the image is read
pub record PutSteps (name content : List ℕ) (image : Image) (p : Plan) : Type 0 where
  pub read : Reading
  pub settled : settled_reading image ≡ give read
  pub exact : length p.steps ≡ put_count name content read

abbrev pub PutExact : Type 0
PutExact = (name content : List ℕ) (image : Image) (p : Plan) → put_plan name content image ≡ give p → PutSteps name content image p

-- "at most n + d + 14": 15, since a name's 00 takes two steps ("Counts in 01 and K9 follow"); refused, cut or not
abbrev pub PutBound : Type 0
PutBound = (name content : List ℕ) (image : Image) (k : ℕ) → (put image name content k).numbers.steps ≤ length name + length content + 15

-- it programs bytes only
abbrev pub PutKinds : Type 0
PutKinds =
    (name content : List ℕ) (image : Image) (m : ℕ) →
    AtMost (length name + length content + 15) 0 (take m (steps_of (put_plan name content image)))

-- ---- remove and format, on every image

-- "Remove: status 00, one step"
abbrev pub RemoveExact : Type 0
RemoveExact = (name : List ℕ) (image : Image) (p : Plan) → remove_plan name image ≡ give p → length p.steps ≡ 1

abbrev pub RemoveBound : Type 0
RemoveBound = (name : List ℕ) (image : Image) (k : ℕ) → (remove image name k).numbers.steps ≤ 1

abbrev pub RemoveKinds : Type 0
RemoveKinds = (name : List ℕ) (image : Image) (m : ℕ) → AtMost 1 0 (take m (steps_of (remove_plan name image)))

-- "erase all sectors ascending", then the 8 bytes of the first record
abbrev pub format_count : ℕ → ℕ
format_count N = N / 4096 + 8

abbrev pub FormatExact : Type 0
FormatExact = (image : Image) (p : Plan) → format_plan image ≡ give p → length p.steps ≡ format_count (length image)

abbrev pub FormatBound : Type 0
FormatBound = (image : Image) (k : ℕ) → (format image k).numbers.steps ≤ format_count (length image)

abbrev pub FormatKinds : Type 0
FormatKinds = (image : Image) (m : ℕ) → AtMost 8 (length image / 4096) (take m (steps_of (format_plan image)))

-- ---- sweep, on every image

-- a move programs at most so many bytes: X's copy, its data cleaned (a byte for 8), and what surrounds these; it erases X's sectors
abbrev pub move_most : ℕ → ℕ
move_most N = N + N / 8 + 8

-- "Sweep makes min(5, records at entry) moves"
abbrev pub SweepBound : Type 0
SweepBound = (image : Image) (k : ℕ) → (sweep image k).numbers.steps ≤ 5 * (move_most (length image) + length image / 4096)

abbrev pub SweepKinds : Type 0
SweepKinds =
    (image : Image) (m : ℕ) → AtMost (5 * move_most (length image)) (5 * (length image / 4096)) (take m (steps_of (sweep_plan image)))
