-- The steps of remove and of format, on every image on which they are not refused.
use Rattle.std.specs.Prelude.{ℕ, ◌/◌, ◌≤◌, ◌≡◌, refl, Bool, true, false, List, map, length, take}
use Rattle.std.proofs.Common.{arith, ap, subst, length-append}
use Rattle.std.proofs.Math.Option.{Option, none, some}
use Rattle.spec.specs.Step.{Image, erase}
use Rattle.spec.specs.Basics.{Answer, give, checked, numbered}
use Rattle.spec.specs.Geometry.{good_length, sectors}
use Rattle.spec.specs.Record.{Entry}
use Rattle.spec.specs.Files.{file_named}
use Rattle.spec.specs.Write.{first_steps, format_steps}
use Rattle.spec.specs.Answers.{Plan, doing, carry_out, found, file_of, removing, file_plan, remove_plan, format_plan}
use Rattle.spec.specs.Door.{admitted_named}
use Rattle.spec.specs.History.{steps_of}
use Rattle.spec.specs.Bounds.{AtMost, RemoveExact, RemoveBound, RemoveKinds, format_count, FormatExact, FormatBound, FormatKinds}
use Rattle.history.specs.Erase.{erases, sectors_are, length_erases}
use Rattle.history.specs.StepCounts.{most_append, most_more, most_programs, most_erases}
use Rattle.history.specs.RepairCounts.{sectors_few}
use Rattle.history.specs.Used.{used_bound, used_kinds}
use Rattle.laws.specs.Answer.{gave}
use Rattle.laws.specs.Length.{good}

-- a plan whose own count is the length of its list: n steps, of which at most p program a byte and e erase a sector
record Counts (n p e : ℕ) (q : Plan) : Type 0 where
  pub own : q.done.steps ≡ length q.steps
  pub exact : length q.steps ≡ n
  pub kinds : AtMost p e q.steps

module _ (n p e : ℕ) (a : Answer Plan) (h : (q : Plan) → a ≡ give q → Counts n p e q) where
  bound : (im : Image) (k : ℕ) → (carry_out im k a).numbers.steps ≤ n
  bound im k = used_bound im k n a (λ q i. ((h q i).own, omega (arith, (h q i).exact)))

  kinds : (m : ℕ) → AtMost p e (take m (steps_of a))
  kinds m = used_kinds m a (λ q i. (h q i).kinds)

-- ---- remove

found_counts : (q : Plan) (o : Option Entry) → found removing o ≡ give q → Counts 1 1 0 q
found_counts q none e = absurd (let z : ◌≡◌ {A = ℕ} 0 1 = cc in omega arith)
found_counts q (some x) e =
    let i : removing x ≡ q = cc in
    subst (Counts 1 1 0) i (record { own = refl; exact = refl; kinds = most_programs (removing x).steps tt (omega arith) })

remove_counts : (n : List ℕ) (im : Image) (q : Plan) → remove_plan n im ≡ give q → Counts 1 1 0 q
unfolding remove_plan file_plan
remove_counts n im q e =
    let g = gave (admitted_named n im) (file_of n removing) q e in
    found_counts q (file_named n g.value.entries) g.on

pub remove_exact : RemoveExact
remove_exact n im q e = (remove_counts n im q e).exact

pub remove_bound : RemoveBound
remove_bound n im k = bound 1 1 0 (remove_plan n im) (remove_counts n im) im k

pub remove_kinds : RemoveKinds
remove_kinds n im m = kinds 1 1 0 (remove_plan n im) (remove_counts n im) m

-- ---- format

format_length : (N : ℕ) → good_length N ≡ true → length (format_steps N) ≡ format_count N
unfolding format_steps
format_length N g =
    let e : map erase (sectors 0 N) ≡ erases 0 (N / 4096) = sectors_are (N / 4096) 0 N (omega (arith, (good N g).sectors)) in
    omega (arith, length-append (map erase (sectors 0 N)) first_steps, ap length e, length_erases 0 (N / 4096))

format_most : (N : ℕ) → AtMost 8 (N / 4096) (format_steps N)
unfolding format_steps
format_most N =
    most_more
    (most_append (map erase (sectors 0 N)) first_steps (most_erases (sectors 0 N) (sectors_few 0 N))
    (let f : AtMost 8 0 first_steps = most_programs first_steps tt (omega arith) in f))
    (omega arith) (omega arith)

format_by : (im : Image) (q : Plan) (b : Bool) → good_length (length im) ≡ b
    → checked b (numbered 22) (give (doing (format_steps (length im)))) ≡ give q → Counts (format_count (length im)) 8 (length im / 4096) q
format_by im q false g e = absurd (let z : ◌≡◌ {A = ℕ} 0 1 = cc in omega arith)
format_by im q true g e =
    let i : doing (format_steps (length im)) ≡ q = cc in
    subst (Counts (format_count (length im)) 8 (length im / 4096)) i
    (record { own = refl; exact = format_length (length im) g; kinds = format_most (length im) })

format_counts : (im : Image) (q : Plan) → format_plan im ≡ give q → Counts (format_count (length im)) 8 (length im / 4096) q
unfolding format_plan
format_counts im q e = format_by im q (good_length (length im)) refl e

pub format_exact : FormatExact
format_exact im q e = (format_counts im q e).exact

pub format_bound : FormatBound
format_bound im k = bound (format_count (length im)) 8 (length im / 4096) (format_plan im) (format_counts im) im k

pub format_kinds : FormatKinds
format_kinds im m = kinds (format_count (length im)) 8 (length im / 4096) (format_plan im) (format_counts im) m
