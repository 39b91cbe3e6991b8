-- What the answers of a reading say in document 01's words.
use Rattle.std.specs.Prelude.{ℕ, ◌≡◌, Bool, true, false, List, length, Err, Ok}
use Rattle.spec.specs.Refusals.{refusal_numbers}
use Rattle.spec.specs.declared.Refusal.{Refusal}
use Rattle.spec.specs.Basics.{Answer, refuse, give, any, keep, first_such}
use Rattle.spec.specs.Geometry.{floor}
use Rattle.spec.specs.Chain.{Reading}
use Rattle.spec.specs.Files.{has_name, superseded}
use Rattle.spec.specs.Mount.{settled}
use Rattle.chain.specs.declared.Cursor.{Cursor}
use Rattle.chain.specs.declared.Tally.{Tally}
use Rattle.reading.specs.declared.Survey.{Survey}
use Rattle.chain.specs.declared.Repeats.{Repeats}
use Rattle.reading.specs.Answers.{Read, Judgement, NamedRead}
use Rattle.reading.specs.declared.Judged.{Judged}
use Rattle.chain.specs.Answers.{Found}
use Rattle.chain.specs.Cursor.{CursorSound, start}
use Rattle.chain.specs.Rest.{rest}
use Rattle.chain.specs.Tally.{none_yet, tally, Spots}
use Rattle.chain.specs.FreeLaws.{InImage}
use Rattle.chain.specs.Repeats.{repeats_of}
use Rattle.chain.specs.FileLaws.{is_file}
use Rattle.chain.specs.Seek.{found_in, FoundWhole}
use Rattle.reading.specs.Sought.{Sought}

-- the cursor at the head h
abbrev pub first_cursor : List ℕ → ℕ → Cursor
first_cursor image h = start h (floor h) (length image)

-- the reading that a survey stands for
abbrev pub reading_of : List ℕ → Survey → Reading
reading_of image s = record { place = s.place; entries = (rest image (first_cursor image s.place.head)).entries; ending = s.ending }

abbrev pub answered : List ℕ → Read → Answer Reading
answered image (Ok s) = give (reading_of image s)
answered image (Err x) = refuse (refusal_numbers x)

-- ---- what holds of a survey besides

-- t is the tally of the chain from start on
pub record Tallied (image : List ℕ) (start : Cursor) (t : Tally) : Type 0 where
  pub sound : CursorSound image start
  pub same : t ≡ tally none_yet (rest image start).entries
  pub spots : Spots image t

pub record Surveyed (image : List ℕ) (s : Survey) : Type 0 where
  pub tallied : Tallied image (first_cursor image s.place.head) s.tally
  pub place : InImage image s.place

abbrev pub Told : List ℕ → Read → Type 0
Told image (Ok s) = Surveyed image s
Told image (Err x) = Unit {0}

-- no F8 record has an FC record of its name
abbrev pub Quiet : List ℕ → Read → Type 0
Quiet image (Ok s) = any (superseded (reading_of image s).entries) (reading_of image s).entries ≡ false
Quiet image (Err x) = Unit {0}

-- ---- the judgement of an image: its reading, and whether that is settled

-- what it goes by: the survey s, the cursor at its head, and n, which tells of the names
pub record Known (image : List ℕ) (start : Cursor) (s : Survey) (n : Repeats) : Type 0 where
  pub surveyed : Surveyed image s
  pub at_head : start ≡ first_cursor image s.place.head
  pub names : n ≡ repeats_of (rest image start).entries

abbrev pub judged_as : List ℕ → Judgement → Answer Reading
judged_as image (Ok j) = give (reading_of image j.survey)
judged_as image (Err x) = refuse (refusal_numbers x)

abbrev pub JudgedWell : List ℕ → Judgement → Type 0
JudgedWell image (Ok j) = Surveyed image j.survey × (j.settled ≡ settled image (reading_of image j.survey))
JudgedWell image (Err x) = Unit {0}

-- 16: "not settled"
abbrev pub settled_read : Survey → Bool → Read
settled_read s true = Ok s
settled_read s false = Err Refusal.Unsettled

abbrev pub read_settled : Judged → Read
read_settled j = settled_read j.survey j.settled

pub settled_is : (s : Survey) (t : Bool) (x : Survey) → Ok x ≡ settled_read s t → x ≡ s
settled_is s true x e = cc
settled_is s false x e = cc

-- ---- the file of a name

-- what the judgement found of the hash that was wanted
abbrev pub JudgedFor : List ℕ → ℕ → Judgement → Type 0
JudgedFor image wanted (Ok j) = Sought image wanted (reading_of image j.survey).entries j.found
JudgedFor image wanted (Err x) = Unit {0}

-- f is the first file of this name
pub record FileTold (image : List ℕ) (name : List ℕ) (s : Survey) (f : Found) : Type 0 where
  pub first : found_in image f ≡ first_such (has_name name) (keep is_file (reading_of image s).entries)
  pub whole : FoundWhole image f

-- the reading alone
abbrev pub read_of : NamedRead → Read
read_of (Ok x) = Ok x.survey
read_of (Err x) = Err x

abbrev pub NamedFile : List ℕ → List ℕ → NamedRead → Type 0
NamedFile image name (Ok x) = FileTold image name x.survey x.file
NamedFile image name (Err x) = Unit {0}
