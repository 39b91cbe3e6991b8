-- Document 02, K1: the steps of put, remove, sweep and mount, handed out before the first of them is done.
use Rattle.std.specs.Prelude.{ℕ, zero, suc, ◌+◌, ◌≤◌, min, ◌≡◌, true, false, List, [], ◌∷◌, ◌++◌, map, length, take, drop, eqb}
use Rattle.spec.specs.Step.{Image, Step, program, erase, run}
use Rattle.spec.specs.Basics.{Answer, refuse, give}
use Rattle.spec.specs.Numbers.{Numbers, Outcome, refusal}
use Rattle.spec.specs.Answers.{Plan, carry_out, put_plan, remove_plan, sweep_plan, mount_plan}
use Rattle.spec.specs.History.{steps_of}

-- ---- "For put, remove, sweep and mount"

pub data Writing : Type 0 where
  put : List ℕ → List ℕ → Writing
  remove : List ℕ → Writing
  sweep : Writing
  mount : Writing

-- the plan of each: that of the direct call
abbrev pub plan_of : Writing → Image → Answer Plan
plan_of (put name content) image = put_plan name content image
plan_of (remove name) image = remove_plan name image
plan_of sweep image = sweep_plan image
plan_of mount image = mount_plan image

-- "the direct call", at the allowance k
abbrev pub direct : Writing → Image → ℕ → Outcome
direct c image k = carry_out image k (plan_of c image)

-- all its steps, on the image as it is "before the first step"
abbrev pub planned_steps : Writing → Image → List Step
planned_steps c image = steps_of (plan_of c image)

-- ---- a step as numbers

-- "kind, 1 program or 2 erase"
abbrev pub kind_of : Step → ℕ
kind_of (program a b) = 1
kind_of (erase a) = 2

-- "address"
abbrev pub address_of : Step → ℕ
address_of (program a b) = a
address_of (erase a) = a

-- "byte, FF for an erase"
abbrev pub byte_of : Step → ℕ
byte_of (program a b) = b
byte_of (erase a) = 0xFF

-- ---- "into lent slices of numbers"

pub record Slices : Type 0 where
  pub kinds : List ℕ
  pub addresses : List ℕ
  pub bytes : List ℕ

-- "as many as fit the shortest"
abbrev pub shortest : Slices → ℕ
shortest s = min (length s.kinds) (min (length s.addresses) (length s.bytes))

-- at most m of these steps, "from a given step number (0 the first) on"
abbrev pub window : ℕ → ℕ → List Step → List Step
window first m ss = take m (drop first ss)

-- a slice that got this column: "slots of a lent slice that get nothing stay as they were"
abbrev pub filled : List ℕ → List ℕ → List ℕ
filled column old = column ++ drop (length column) old

-- the slices that got these steps
abbrev pub filled_with : List Step → Slices → Slices
filled_with ss s =
    record {
      kinds = filled (map kind_of ss) s.kinds;
      addresses = filled (map address_of ss) s.addresses;
      bytes = filled (map byte_of ss) s.bytes;
    }

-- ---- the engine

-- what it gives back: the direct call's numbers, and "how many steps it handed out"; and the slices then.
-- It "changes nothing" of the image
pub record Handing : Type 0 where
  pub numbers : Numbers
  pub handed : ℕ
  pub slices : Slices

-- "It answers as the direct call with enough allowance does"
abbrev pub done_numbers : Answer Plan → Numbers
done_numbers (refuse x) = refusal x
done_numbers (give p) = p.done

-- a plan's steps handed out from the step `first` on
unfoldable pub hand_out : Answer Plan → ℕ → Slices → Handing
hand_out a first s =
    let ss = window first (shortest s) (steps_of a) in
    record { numbers = done_numbers a; handed = length ss; slices = filled_with ss s }

abbrev pub planned : Writing → Image → ℕ → Slices → Handing
planned c image first s = hand_out (plan_of c image) first s

-- ---- what is read from the slices

-- the step in a slot
abbrev pub step_of : ℕ → ℕ → ℕ → Step
step_of k a b = elim (eqb k 2) [ true ↦ erase a | false ↦ program a b ]

-- the steps in the first n slots
abbrev pub steps_in : ℕ → List ℕ → List ℕ → List ℕ → List Step
steps_in zero ks xs bs = []
steps_in (suc n) [] xs bs = []
steps_in (suc n) (k ∷ ks) [] bs = []
steps_in (suc n) (k ∷ ks) (a ∷ xs) [] = []
steps_in (suc n) (k ∷ ks) (a ∷ xs) (b ∷ bs) = step_of k a b ∷ steps_in n ks xs bs

-- the steps that were handed out
abbrev pub handed_steps : Handing → List Step
handed_steps h = steps_in h.handed h.slices.kinds h.slices.addresses h.slices.bytes

-- window after window, each into slices of its own and from the step on with which the one before it ended; all planned from one image
unfoldable pub in_turn : Writing → Image → ℕ → List Slices → List Step
in_turn c image first [] = []
in_turn c image first (s ∷ rest) =
    let h = planned c image first s in
    handed_steps h ++ in_turn c image (first + h.handed) rest

-- the slots of all these windows
abbrev pub slots : List Slices → ℕ
slots [] = 0
slots (s ∷ rest) = shortest s + slots rest

-- "Carrying out the first k planned steps gives the direct call's image at allowance k, on every image, shown once over all four calls"
pub record PlannedAsDone (c : Writing) (image : Image) : Type 0 where
  -- windows put together, of any lengths, are the first steps of the list, as many as there are slots; so with enough of them it is the whole
  pub together : (windows : List Slices) → in_turn c image 0 windows ≡ take (slots windows) (planned_steps c image)
  pub images : (windows : List Slices) (k : ℕ) → k ≤ length (in_turn c image 0 windows)
      → run image (take k (in_turn c image 0 windows)) ≡ (direct c image k).image
  -- an allowance is enough if the call uses no more: then every window has its answer and numbers
  pub answers : (first k : ℕ) (s : Slices) → length (planned_steps c image) ≤ k → (planned c image first s).numbers ≡ (direct c image k).numbers
