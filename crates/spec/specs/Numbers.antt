-- "Numbers given back": what each call answers, in numbers with names. What a call does not speak of is zero.
use Rattle.std.specs.Prelude.{ℕ, Bool, ◌||◌, List, take, drop, eqb}
use Rattle.spec.specs.Refusals.{FaultNumbers, RefusalNumbers}
use Rattle.spec.specs.declared.Report.{Report}
use Rattle.spec.specs.declared.Extent.{Extent}
use Rattle.spec.specs.declared.Space.{Space}
use Rattle.spec.specs.Step.{Image}
use Rattle.spec.specs.Basics.{no_fault}
use Rattle.spec.specs.Space.{no_space}

pub record Numbers : Type 0 where
  pub answer : ℕ
  -- put, get and remove, beside 22: K5's reason and place
  pub name : FaultNumbers
  -- mount: "h, T, the count of live files (of the image it leaves)"
  pub report : Report
  -- sweep: "finished moves"
  pub moves : ℕ
  -- get: the file's "offset and length"; list: the "name part"
  pub extent : Extent
  -- list: the file's "length"
  pub size : ℕ
  -- mount, put and sweep: "live bytes .., dead bytes .., free bytes .. and lost bytes", of the image they leave
  pub space : Space
  -- "Writing calls .. report steps used"
  pub steps : ℕ

-- what a call answers, and the image that it leaves
pub record Outcome : Type 0 where
  pub numbers : Numbers
  pub image : Image

abbrev pub outcome_of : Numbers → Image → Outcome
outcome_of n image = record { numbers = n; image = image }

-- ---- the numbers of each call

abbrev pub no_report : Report
no_report = record { head = 0; tail = 0; files = 0 }

abbrev pub no_extent : Extent
no_extent = record { offset = 0; length = 0 }

-- format and remove: answer and steps
abbrev pub of_write : ℕ → ℕ → Numbers
of_write answer steps =
    record {
      answer = answer;
      name = no_fault;
      report = no_report;
      moves = 0;
      extent = no_extent;
      size = 0;
      space = no_space;
      steps =
          steps;
    }

-- put: "the same record on success, for the image they leave"
abbrev pub of_put : ℕ → Space → ℕ → Numbers
of_put answer space steps =
    record { answer = answer; name = no_fault; report = no_report; moves = 0; extent = no_extent; size = 0; space = space; steps = steps }

-- "Mount's success gives h, T, the count of live files (of the image it leaves), steps", and that record
abbrev pub of_mount : ℕ → Report → Space → ℕ → Numbers
of_mount answer report space steps =
    record { answer = answer; name = no_fault; report = report; moves = 0; extent = no_extent; size = 0; space = space; steps = steps }

-- "Sweep's success gives finished moves and steps", and that record; answer, moves, record and steps
abbrev pub of_sweep : ℕ → ℕ → Space → ℕ → Numbers
of_sweep answer moves space steps =
    record {
      answer = answer;
      name = no_fault;
      report = no_report;
      moves = moves;
      extent = no_extent;
      size = 0;
      space = space;
      steps =
          steps;
    }

-- "there get gives offset and length"
abbrev pub of_get : ℕ → Extent → Numbers
of_get answer extent =
    record { answer = answer; name = no_fault; report = no_report; moves = 0; extent = extent; size = 0; space = no_space; steps = 0 }

-- "List by index (chain order) gives name part and length"
abbrev pub of_list : ℕ → Extent → ℕ → Numbers
of_list answer extent size =
    record { answer = answer; name = no_fault; report = no_report; moves = 0; extent = extent; size = size; space = no_space; steps = 0 }

-- a refusal: "zeros, image same"; of a name that is refused its fault "in place of zeros"
abbrev pub refusal : RefusalNumbers → Numbers
refusal x =
    record {
      answer = x.number;
      name = x.name;
      report = no_report;
      moves = 0;
      extent = no_extent;
      size = 0;
      space = no_space;
      steps = 0;
    }

-- the numbers that a refusal may have
unfoldable pub is_refusal : ℕ → Bool
is_refusal n = eqb n 2 || eqb n 5 || eqb n 6 || eqb n 16 || eqb n 22 || eqb n 28

-- ---- parts of the image

-- the bytes of a stretch
abbrev pub bytes_of : Image → Extent → List ℕ
bytes_of image x = take x.length (drop x.offset image)

-- get's part and list's name part: "a part of the image itself"; "a refusal gives an empty part"
abbrev pub part_of : Image → Numbers → List ℕ
part_of image n = bytes_of image n.extent
