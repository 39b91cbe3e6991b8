-- The plan of each call, on any image: what holds of refusals, and of what may be given to be done, holds of the plan. So get and list have
-- no step to do, and a plan's own count is the length of its list.
use Rattle.std.specs.Prelude.{ℕ, ◌≡◌, refl, Bool, true, false, not, List, [], length}
use Rattle.std.proofs.Math.Option.{Option, none, some}
use Rattle.spec.specs.Step.{Image}
use Rattle.spec.specs.Basics.{Answer, refuse, give, checked, onward, numbered}
use Rattle.spec.specs.Record.{size_of, Entry}
use Rattle.spec.specs.Chain.{Reading}
use Rattle.spec.specs.Files.{file_named, file_indexed}
use Rattle.spec.specs.Place.{room}
use Rattle.spec.specs.Mount.{mended}
use Rattle.spec.specs.Sweep.{no_room}
use Rattle.spec.specs.Answers.{Plan, found, putting, put_into, put_plan, file_of, file_plan, removing, remove_plan, getting, get_plan, listing, list_of, list_plan, sweeping, sweep_of, sweep_plan, mount_work, mount_of, mount_plan}
use Rattle.spec.specs.Door.{accepted, admitted, admitted_named}
use Rattle.spec.specs.History.{Request, plan, steps_of}
use Rattle.spec.specs.Refusals.{RefusalNumbers}

module _ (P : Answer Plan → Type 0) (no : (x : RefusalNumbers) → P (refuse x)) where
  of_checked : (b : Bool) (x : RefusalNumbers) (p : Answer Plan) → P p → P (checked b x p)
  of_checked true x p h = h
  of_checked false x p h = no x

  of_onward : (a : Answer Reading) (f : Reading → Answer Plan) → ((r : Reading) → P (f r)) → P (onward a f)
  of_onward (refuse x) f h = no x
  of_onward (give r) f h = h r

  of_found : (f : Entry → Plan) (o : Option Entry) → ((e : Entry) → P (give (f e))) → P (found f o)
  of_found f none h = no (numbered 2)
  of_found f (some e) h = h e

  of_put : (im : Image) (n c : List ℕ) → ((r : Reading) → P (give (putting n c im r)))
      → P (put_plan n c im)
  unfolding put_plan put_into
  of_put im n c h =
      of_onward (admitted_named n im) (put_into n c im) (λ r.
      of_checked (room r.place n (size_of (length n) (length c)) r.entries) (numbered 28)
      (give (putting n c im r)) (h r))

  -- get and remove
  of_file : (im : Image) (n : List ℕ) (f : Entry → Plan) → ((e : Entry) → P (give (f e))) → P (file_plan n f im)
  unfolding file_plan
  of_file im n f h = of_onward (admitted_named n im) (file_of n f) (λ r. of_found f (file_named n r.entries) h)

  of_list : (im : Image) (i : ℕ) → ((e : Entry) → P (give (listing e))) → P (list_plan i im)
  unfolding list_plan
  of_list im i h = of_onward (admitted im) (list_of i) (λ r. of_found listing (file_indexed i r.entries) h)

  of_sweep : (im : Image) → ((r : Reading) → P (give (sweeping im r))) → P (sweep_plan im)
  unfolding sweep_plan sweep_of
  of_sweep im h =
      of_onward (admitted im) (sweep_of im) (λ r.
      of_checked (not (no_room r r.entries)) (numbered 28) (give (sweeping im r)) (h r))

  of_mount : (im : Image) → ((r : Reading) → P (give (mount_work (mended im r)))) → P (mount_plan im)
  unfolding mount_plan
  of_mount im h = of_onward (accepted im) (mount_of im) h

-- ---- get and list have no steps

abbrev Stepless : Answer Plan → Type 0
Stepless p = steps_of p ≡ []

-- get has no step
pub get_none : (n : List ℕ) (im : Image) → Stepless (get_plan n im)
unfolding get_plan
get_none n im = of_file Stepless (λ k. refl) im n getting (λ e. refl)

-- list has no step
pub list_none : (i : ℕ) (im : Image) → Stepless (list_plan i im)
list_none i im = of_list Stepless (λ k. refl) im i (λ e. refl)

-- ---- a plan's own count

-- it is the length of its list
abbrev pub OwnCount : Answer Plan → Type 0
OwnCount (refuse n) = Unit {0}
OwnCount (give p) = p.done.steps ≡ length p.steps

-- so of every call's plan
pub plan_counts : (im : Image) (r : Request) → OwnCount (plan im r)
unfolding remove_plan get_plan
plan_counts im (Request.put n c) = of_put OwnCount (λ k. tt) im n c (λ r. refl)
plan_counts im (Request.remove n) = of_file OwnCount (λ k. tt) im n removing (λ e. refl)
plan_counts im Request.sweep = of_sweep OwnCount (λ k. tt) im (λ r. refl)
plan_counts im Request.mount = of_mount OwnCount (λ k. tt) im (λ r. refl)
plan_counts im (Request.get n) = of_file OwnCount (λ k. tt) im n getting (λ e. refl)
plan_counts im (Request.list i) = of_list OwnCount (λ k. tt) im i (λ e. refl)
