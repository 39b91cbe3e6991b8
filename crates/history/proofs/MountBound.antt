-- The most steps of a mount, on every image that a history leaves.
use Rattle.std.specs.Prelude.{ℕ, ◌≤◌, refl, [], length, take}
use Rattle.std.proofs.Common.{arith, sym, ap, subst}
use Rattle.spec.specs.Step.{Image}
use Rattle.spec.specs.Basics.{Answer}
use Rattle.spec.specs.Mount.{mended}
use Rattle.spec.specs.Answers.{Plan, carry_out, format, mount, mount_plan, mount_work}
use Rattle.spec.specs.History.{Ledger, replay, steps_of, ledger}
use Rattle.spec.specs.Bounds.{AtMost, MountBound, MountKinds, MountByHead}
use Rattle.history.specs.StepCounts.{most_length, most_take}
use Rattle.history.specs.Kinds.{Inv}
use Rattle.history.specs.Mending.{Mends}
use Rattle.history.proofs.Mounts.{mends}
use Rattle.history.proofs.Theorem.{mount_is, history_inv}
use Rattle.history.specs.Used.{used_most}

module _ (im : Image) (l : Ledger) (i : Inv l im) where
  abbrev m : Mends l im
  m = mends l im i

  -- mount uses at most the steps of the repairs
  repairs_most : (k : ℕ) → (mount im k).numbers.steps ≤ length (mended im m.r).steps
  repairs_most k =
      omega (
        arith,
        ap (λ (p : Answer Plan). (carry_out im k p).numbers.steps) (mount_is im m.r i.good m.reads),
        used_most im k (mount_work (mended im m.r)) refl,
      )

  -- and they are the first of them
  kinds_by : (p e k : ℕ) → AtMost p e (mended im m.r).steps → AtMost p e (take k (steps_of (mount_plan im)))
  kinds_by p e k h =
      subst (λ (a : Answer Plan). AtMost p e (take k (steps_of a))) (sym (mount_is im m.r i.good m.reads))
      (most_take k (mended im m.r).steps h)

-- THE theorem on mount: document 02's bound
pub mount_bound : MountBound
mount_bound raw k calls e b n =
    let im : Image = replay (format raw k).image calls in
    let l : Ledger = ledger (format raw k).image calls [] in
    let i : Inv l im = history_inv raw k calls e b in
    let m : Mends l im = mends l im i in
    omega (arith, repairs_most im l i n, most_length (mended im m.r).steps m.few.by_length)

-- bytes and sectors apart
pub mount_kinds : MountKinds
mount_kinds raw k calls e b n =
    let im : Image = replay (format raw k).image calls in
    let l : Ledger = ledger (format raw k).image calls [] in
    let i : Inv l im = history_inv raw k calls e b in
    kinds_by im l i _ _ n (mends l im i).few.by_length

-- and by the data of the head's record
pub mount_by_head : MountByHead
mount_by_head raw k calls e b =
    let im : Image = replay (format raw k).image calls in
    let l : Ledger = ledger (format raw k).image calls [] in
    let i : Inv l im = history_inv raw k calls e b in
    let m : Mends l im = mends l im i in
    record { read = m.r; reads = m.reads; few = λ n. kinds_by im l i _ _ n m.few.by_head }
