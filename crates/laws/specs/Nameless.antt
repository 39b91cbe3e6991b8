-- K5: "Put, get and remove pass both on": of every other call reason and place of a name are 0, whatever it answers.
use Rattle.std.specs.Prelude.{ℕ, ◌≡◌, Bool, not, length}
use Rattle.std.proofs.Math.Path.{refl}
use Rattle.std.proofs.Math.Bool.{true, false}
use Rattle.std.proofs.Math.Option.{Option, none, some}
use Rattle.std.proofs.Math.Dec.{leb}
use Rattle.spec.specs.Step.{Image}
use Rattle.spec.specs.Basics.{Answer, refuse, give, no_fault, numbered, checked, onward}
use Rattle.spec.specs.Geometry.{good_length}
use Rattle.spec.specs.Record.{Entry}
use Rattle.spec.specs.Chain.{Reading}
use Rattle.spec.specs.Files.{file_indexed}
use Rattle.spec.specs.Write.{format_steps}
use Rattle.spec.specs.Sweep.{no_room}
use Rattle.spec.specs.Door.{accepted, admitted}
use Rattle.spec.specs.Answers.{Plan, numbers_of, carry_out, doing, format_plan, format, mount_of, mount_plan, mount}
use Rattle.spec.specs.Answers.{found, listing, list_of, list_plan, list, sweeping, sweep_of, sweep_plan, sweep}
use Rattle.spec.specs.Planner.{Slices, Writing, done_numbers, hand_out, planned}
use Rattle.laws.specs.Refusing.{IfRefused, Nameless, accepted_nameless, admitted_nameless}

-- a plan, refused or not, whose numbers say nothing of a name
abbrev Quiet : Answer Plan → Type 0
Quiet a = (done_numbers a).name ≡ no_fault

checked_quiet : (t : Bool) (n : ℕ) (a : Answer Plan) → Quiet a → Quiet (checked t (numbered n) a)
checked_quiet true n a q = q
checked_quiet false n a q = refl

onward_quiet : (a : Answer Reading) (f : Reading → Answer Plan) → IfRefused Nameless a → ((r : Reading) → Quiet (f r)) → Quiet (onward a f)
onward_quiet (refuse x) f e q = e
onward_quiet (give r) f e q = q r

-- ---- the four calls

module _ (image : Image) where
  format_quiet : Quiet (format_plan image)
  unfolding format_plan
  format_quiet = checked_quiet (good_length (length image)) 22 (give (doing (format_steps (length image)))) refl

  mount_quiet : Quiet (mount_plan image)
  unfolding mount_plan
  mount_quiet = onward_quiet (accepted image) (mount_of image) (accepted_nameless image) (λ r. refl)

  sweep_quiet : Quiet (sweep_plan image)
  unfolding sweep_plan sweep_of
  sweep_quiet =
      onward_quiet (admitted image) (sweep_of image) (admitted_nameless image)
      (λ r. checked_quiet (not (no_room r r.entries)) 28 (give (sweeping image r)) refl)

  list_quiet : (index : ℕ) → Quiet (list_plan index image)
  unfolding list_plan
  list_quiet index = onward_quiet (admitted image) (list_of index) (admitted_nameless image)
      (λ r. go (file_indexed index r.entries)) where
        go : (o : Option Entry) → Quiet (found listing o)
        go none = refl
        go (some e) = refl

-- ---- at any allowance, and handed out

module _ (image : Image) (a : Answer Plan) (q : Quiet a) where
  carried_nameless : (k : ℕ) → (carry_out image k a).numbers.name ≡ no_fault
  unfolding carry_out numbers_of
  carried_nameless k = go a q where
    by : (p : Plan) (t : Bool) → leb (length p.steps) k ≡ t → p.done.name ≡ no_fault → (numbers_of k p).name ≡ no_fault
    by p true e h = rw (numbers_of, e) h
    by p false e h = rw (numbers_of, e) refl

    go : (b : Answer Plan) → Quiet b → (carry_out image k b).numbers.name ≡ no_fault
    go (refuse x) h = h
    go (give p) h = by p (leb (length p.steps) k) refl h

  handed_nameless : (first : ℕ) (s : Slices) → (hand_out a first s).numbers.name ≡ no_fault
  unfolding hand_out
  handed_nameless first s = q

module _ (image : Image) (k : ℕ) where
  pub format_nameless : (format image k).numbers.name ≡ no_fault
  format_nameless = carried_nameless image (format_plan image) (format_quiet image) k

  pub mount_nameless : (mount image k).numbers.name ≡ no_fault
  mount_nameless = carried_nameless image (mount_plan image) (mount_quiet image) k

  pub sweep_nameless : (sweep image k).numbers.name ≡ no_fault
  sweep_nameless = carried_nameless image (sweep_plan image) (sweep_quiet image) k

  pub list_nameless : (list image k).numbers.name ≡ no_fault
  list_nameless = carried_nameless image (list_plan k image) (list_quiet image k) 0

  pub mount_planned_nameless : (s : Slices) → (planned Writing.mount image k s).numbers.name ≡ no_fault
  mount_planned_nameless s = handed_nameless image (mount_plan image) (mount_quiet image) k s

  pub sweep_planned_nameless : (s : Slices) → (planned Writing.sweep image k s).numbers.name ≡ no_fault
  sweep_planned_nameless s = handed_nameless image (sweep_plan image) (sweep_quiet image) k s
