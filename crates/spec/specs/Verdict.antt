-- K13: "Check an image against 01's reading and report the first broken rule .., or settled, or needing recovery with 01's number of the
-- repair that comes first."
use Rattle.std.specs.Prelude.{ℕ, Some, None, zero, suc, Bool, true, false, ◌||◌, List, [], ◌∷◌, length}
use Rattle.spec.specs.declared.Ending.{Ending}
use Rattle.spec.specs.declared.Rule.{Rule}
use Rattle.spec.specs.declared.Verdict.{Verdict}
use Rattle.spec.specs.Step.{Image}
use Rattle.spec.specs.Basics.{Answer, refuse, give, numbered, checked, any}
use Rattle.spec.specs.Geometry.{good_length}
use Rattle.spec.specs.Record.{Entry}
use Rattle.spec.specs.Head.{head}
use Rattle.spec.specs.Chain.{Reading, reading_from}
use Rattle.spec.specs.Files.{superseded}
use Rattle.spec.specs.Reading.{head_clean, marked}
use Rattle.spec.specs.Fault.{last_open, first_fault}

-- ---- "01's number of the repair that comes first"

-- the second record is START or CLEAN
abbrev pub second_marked : List Entry → Bool
second_marked [] = false
second_marked (x ∷ []) = false
second_marked (x ∷ (y ∷ es)) = marked y

-- the chain ends with a torn wrap
abbrev pub wrap_torn : Ending → Bool
wrap_torn Ending.Tail = false
wrap_torn (Ending.TornWrap a) = true
wrap_torn Ending.Broken = false

-- 1 "Head CLEAN", 2 "next record CLEAN", "Next START", 3 "Torn", "Torn wrap", "Reserved", 4 "Each F8 record with an FC record of its name";
-- 0: none
unfoldable pub first_repair : Reading → ℕ
first_repair r =
    elim (head_clean r.entries) [
      | true ↦ 1
      | false ↦
          elim (second_marked r.entries) [
            | true ↦ 2
            | false ↦
                elim (last_open r.entries || wrap_torn r.ending) [
                  | true ↦ 3
                  | false ↦ elim (any (superseded r.entries) r.entries) [ true ↦ 4 | false ↦ 0 ]
                ]
          ]
    ]

-- ---- the verdict

abbrev pub repair_verdict : ℕ → Verdict
repair_verdict zero = Verdict.Settled
repair_verdict (suc k) = Verdict.Recovery (suc k)

-- of what is read from a head on
unfoldable pub verdict_of : Image → Reading → Verdict
verdict_of image r =
    elim (first_fault image r) [
      | None ↦ repair_verdict (first_repair r)
      | Some f ↦ Verdict.Broken f.rule f.at
    ]

-- "head (address 0)"
unfoldable pub verdict_from : Image → Answer ℕ → Verdict
verdict_from image (refuse x) = Verdict.Broken Rule.Head 0
verdict_from image (give h) = verdict_of image (reading_from image h)

unfoldable pub verdict : Image → Verdict
verdict image = verdict_from image (head image)

-- "a bad N is 22"
unfoldable pub check : Image → Answer Verdict
check image = checked (good_length (length image)) (numbered 22) (give (verdict image))

-- ---- as numbers

-- the rules in their order
abbrev pub rule_number : Rule → ℕ
rule_number Rule.Head = 1
rule_number Rule.Unfinished = 2
rule_number Rule.Header = 3
rule_number Rule.Name = 4
rule_number Rule.End = 5
rule_number Rule.Mark = 6
rule_number Rule.Free = 7

-- The answer, 0 or 22; the verdict: 0 settled, 1 recovery, 2 broken; the number of the repair or of the rule; the address.
pub record VerdictNumbers : Type 0 where
  pub answer : ℕ
  pub verdict : ℕ
  pub number : ℕ
  pub address : ℕ

abbrev pub verdict_told : Verdict → VerdictNumbers
verdict_told Verdict.Settled = record { answer = 0; verdict = 0; number = 0; address = 0 }
verdict_told (Verdict.Recovery k) = record { answer = 0; verdict = 1; number = k; address = 0 }
verdict_told (Verdict.Broken rule a) = record { answer = 0; verdict = 2; number = rule_number rule; address = a }

-- 22: "zeros"
unfoldable pub verdict_numbers : Answer Verdict → VerdictNumbers
verdict_numbers (refuse x) = record { answer = x.number; verdict = 0; number = 0; address = 0 }
verdict_numbers (give v) = verdict_told v
