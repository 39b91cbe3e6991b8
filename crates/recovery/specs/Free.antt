-- Repair 1: the free run's sectors, and the head.
use Prim.Native.Nat.{ℕ, zero, suc, ◌+◌, ◌≤◌}
use Rattle.std.proofs.Common.{arith, sym, ap₂, ◌∙◌}
use Rattle.std.specs.Prelude.{◌≡◌, Bool, drop}
use Rattle.std.proofs.Math.Path.{refl, ap}
use Rattle.std.proofs.Math.Bool.{true, false}
use mathlib.Core.List.{List, [], ◌∷◌, ◌++◌, map}
use Rattle.std.proofs.Math.Dec.{leb}
use Rattle.spec.specs.declared.Place.{Place}
use Rattle.spec.specs.Step.{Image, Step, erase}
use Rattle.spec.specs.Basics.{keep}
use Rattle.spec.specs.Bytes.{is_clean}
use Rattle.spec.specs.Geometry.{floor, ceiling, sectors_by, sectors}
use Rattle.spec.specs.Chain.{reading_from}
use Rattle.spec.specs.Reading.{head_clean}
use Rattle.spec.specs.Move.{start_steps}
use Rattle.spec.specs.Mount.{free_sectors, dirty, erase_steps, head_low}
use Rattle.flash.specs.declared.Meter.{Meter}
use Rattle.flash.specs.Did.{Did, did_both}
use Rattle.reading.specs.declared.Survey.{Survey}
use Rattle.chain.specs.Rest.{entry_of, rest}
use Rattle.reading.specs.RuleLaws.{head_none, first_low, first_clean}
use Rattle.reading.specs.Read.{first_cursor}
use Rattle.reading.specs.Survey.{Seen}
use Rattle.moving.specs.Untouched.{later_on}
use Rattle.recovery.specs.DirtySectors.{dirty_erased, dirty_same}
use Rattle.planning.specs.Repairs.{steps_1}

-- ---- the sectors behind those that were erased are judged as before

pub keep_both : (p : ℕ → Bool) (a b : List ℕ) → map erase (keep p (a ++ b)) ≡ map erase (keep p a) ++ map erase (keep p b)
keep_both p [] b = refl
keep_both p (x ∷ a) b = go (p x) refl (keep_both p a b) where
  go : (t : Bool) → p x ≡ t → map erase (keep p (a ++ b)) ≡ map erase (keep p a) ++ map erase (keep p b)
      → map erase (keep p (x ∷ (a ++ b))) ≡ map erase (keep p (x ∷ a)) ++ map erase (keep p b)
  go true e ih = rw (keep, e) (ap (λ (l : List Step). erase x ∷ l) ih)
  go false e ih = rw (keep, e) ih

module _ (s t : Image) (low : ℕ) (same : drop low t ≡ drop low s) where
  judged_by : (k a b : ℕ) → low ≤ a → keep (dirty t) (sectors_by k a b) ≡ keep (dirty s) (sectors_by k a b)
  unfolding sectors_by
  judged_by zero a b h = refl
  judged_by (suc k) a b h = go (leb (a + 4096) b) refl (judged_by k (a + 4096) b (omega arith)) where
    go : (c : Bool) → leb (a + 4096) b ≡ c → keep (dirty t) (sectors_by k (a + 4096) b) ≡ keep (dirty s) (sectors_by k (a + 4096) b)
        → keep (dirty t) (sectors_by (suc k) a b) ≡ keep (dirty s) (sectors_by (suc k) a b)
    go true e ih =
        rw (sectors_by, e) (ap₂ (λ (c : Bool) (l : List ℕ). elim c [ true ↦ a ∷ l | false ↦ l ])
        (dirty_same s t a (later_on low a s t h same)) ih)
    go false e ih = rw (sectors_by, e)

  judged : (a b : ℕ) → low ≤ a → keep (dirty t) (sectors a b) ≡ keep (dirty s) (sectors a b)
  judged a b h = judged_by b a b h

-- ---- the free run

module _ (s : Image) (p : Place) where
  pub run_turned : p.turned ≡ true → erase_steps s p ≡ dirty_erased s (sectors (ceiling p.tail) (floor p.head))
  unfolding erase_steps free_sectors
  run_turned e = rw (erase_steps, free_sectors, e)

  pub run_both : p.turned ≡ false → erase_steps s p ≡ dirty_erased s
      (sectors 0 (floor p.head) ++ sectors (ceiling p.tail) p.length)
  unfolding erase_steps free_sectors
  run_both e = rw (erase_steps, free_sectors, e)

  -- with the addresses that the code has
  pub run_unturned : {t u : Image} {m q r : Meter} {low from : ℕ} → low ≡ floor p.head → from ≡ ceiling p.tail
      → p.turned ≡ false → p.head ≤ p.tail → drop low t ≡ drop low s
      → Did s m (dirty_erased s (sectors 0 low)) t q → Did t q (dirty_erased t (sectors from p.length)) u r
      → Did s m (erase_steps s p) u r
  run_unturned {t} {low = low} {from = from} a b e h k f g =
      let j : keep (dirty t) (sectors from p.length) ≡ keep (dirty s) (sectors from p.length) =
      judged s t low k from p.length (omega arith) in
      rw (run_both e, ← a, ← b, keep_both (dirty s) (sectors 0 low) (sectors from p.length)) (did_both f (rw j at g))

-- ---- the head

module _ {s : Image} {h : ℕ} {v : Survey} (w : Seen s h v) where
  steps_as : (t : Bool) → head_clean (rest s (first_cursor s v.place.head)).entries ≡ t
      → steps_1 s (reading_from s h) ≡ elim t [
        | true ↦ erase_steps s v.place ++ start_steps h (head_low (rest s (first_cursor s v.place.head)).entries)
        | false ↦ []
      ]
  unfolding steps_1
  steps_as true e =
      let low = head_low (rest s (first_cursor s v.place.head)).entries in
      ap (steps_1 s) (sym w.same) ∙ rw (steps_1, e) (ap (λ (a : ℕ). erase_steps s v.place ++ start_steps a low) w.head)
  steps_as false e = ap (steps_1 s) (sym w.same) ∙ rw (steps_1, e)

  pub head_missing : v.tally.records ≡ 0 → steps_1 s (reading_from s h) ≡ []
  head_missing n = steps_as false (sym (head_none w.surveyed.tallied n))

  module _ (n : v.tally.records ≡ 0 → ⊥) where
    pub head_other : is_clean (entry_of s v.tally.first).it.low ≡ false → steps_1 s (reading_from s h) ≡ []
    head_other e = steps_as false (sym (first_clean w.surveyed.tallied n) ∙ e)

    pub head_cleaned : {t u : Image} {m q r : Meter} → is_clean (entry_of s v.tally.first).it.low ≡ true
        → Did s m (erase_steps s v.place) t q
        → Did t q (start_steps h (entry_of s v.tally.first).it.low) u r → Did s m (steps_1 s (reading_from s h)) u r
    head_cleaned e f g =
        rw (steps_as true (sym (first_clean w.surveyed.tallied n) ∙ e), ← first_low w.surveyed.tallied n) (did_both f g)
