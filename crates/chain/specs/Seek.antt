-- The loops over the files: what each gives is a fold, and the law of each way that a turn can end.
use Rattle.std.specs.Prelude.{ℕ, zero, suc, ◌+◌, ◌-◌, ◌≤◌, ◌≡◌, refl, Bool, true, false, List, ◌∷◌, length, None, Some}
use Rattle.std.proofs.Common.{arith, add-zero, zero-add, sym, ap, ◌∙◌}
use Rattle.std.proofs.Math.Option.{Option, none, some}
use Rattle.std.proofs.Math.ListN.{get_elem?}
use Rattle.spec.specs.Basics.{any, keep, first_such}
use Rattle.spec.specs.Record.{Entry}
use Rattle.chain.specs.declared.Cursor.{Cursor}
use Rattle.chain.specs.declared.Spot.{Spot}
use Rattle.chain.specs.declared.Item.{Item}
use Rattle.chain.specs.Answers.{Found}
use Rattle.chain.specs.Cursor.{advance, CursorSound, left}
use Rattle.chain.specs.Rest.{Run, entry_of, rest}
use Rattle.chain.specs.Fold.{Whole, Passes, NotRecord, Folded, fold_start, fold_end, fold_stop, fold_step}
use Rattle.laws.specs.Lists.{any_yes, any_no, keep_yes, keep_no, first_yes, first_no}

-- ---- is there one that passes

abbrev pub any_of : (Entry → Bool) → Unit {0} → Run → Bool
any_of p u r = any p r.entries

module _ (p : Entry → Bool) {image : List ℕ} {start c : Cursor} (w : Folded (any_of p) image start tt c tt) where
  pub any_over : (r : Item) → r ≡ advance image c → NotRecord r → false ≡ any p (rest image start).entries
  any_over r e z = fold_end (any_of p) image start tt c tt w r e z

  module _ {e : Spot} {next : Cursor} (t : Passes image c e next) where
    pub any_found : p (entry_of image e) ≡ true → true ≡ any p (rest image start).entries
    any_found h = fold_stop (any_of p) image start tt c tt w e next t true (any_yes p (entry_of image e) (rest image next).entries h)

    pub any_onward : p (entry_of image e) ≡ false → Folded (any_of p) image start tt next tt
    any_onward h = fold_step (any_of p) image start tt c tt w e next t tt (any_no p (entry_of image e) (rest image next).entries h)

-- ---- how many pass

abbrev pub count_of : (Entry → Bool) → ℕ → Run → ℕ
count_of p m r = m + length (keep p r.entries)

-- m were counted up to c
pub record Counted (p : Entry → Bool) (image : List ℕ) (start c : Cursor) (m : ℕ) : Type 0 where
  pub fold : Folded (count_of p) image start 0 c m
  pub few : m + left c ≤ left start

pub count_start : (p : Entry → Bool) {image : List ℕ} {start : Cursor} → CursorSound image start → Counted p image start start 0
count_start p {image} {start} s = record { fold = fold_start (count_of p) image start 0 s; few = omega arith }

module _ (p : Entry → Bool) {image : List ℕ} {start c : Cursor} {m : ℕ} (w : Counted p image start c m) where
  pub count_over : (r : Item) → r ≡ advance image c → NotRecord r → m ≡ length (keep p (rest image start).entries)
  count_over r e z =
      sym (add-zero m) ∙ fold_end (count_of p) image start 0 c m w.fold r e z ∙ zero-add (length (keep p (rest image start).entries))

  module _ {e : Spot} {next : Cursor} (t : Passes image c e next) where
    pub count_one : p (entry_of image e) ≡ true → Counted p image start next (m + 1)
    count_one h =
        record {
          fold =
              fold_step (count_of p) image start 0 c m w.fold e next t (m + 1)
              (rw (keep_yes p (entry_of image e) (rest image next).entries h) (omega arith));
          few = omega (arith, w.few, t.onward.less);
        }

    pub count_none : p (entry_of image e) ≡ false → Counted p image start next m
    count_none h =
        record {
          fold = fold_step (count_of p) image start 0 c m w.fold e next t m
              (rw (keep_no p (entry_of image e) (rest image next).entries h));
          few = omega (arith, w.few, t.onward.less);
        }

-- ---- the enum in the definitions' words

abbrev pub found_in : List ℕ → Found → Option Entry
found_in image (Some e) = some (entry_of image e)
found_in image None = none

abbrev pub FoundWhole : List ℕ → Found → Type 0
FoundWhole image (Some e) = Whole image e
FoundWhole image None = Unit {0}

-- ---- the first of those kept that passes

abbrev pub first_of : (Entry → Bool) → (Entry → Bool) → Unit {0} → Run → Option Entry
first_of p q u r = first_such p (keep q r.entries)

module _ (p q : Entry → Bool) {image : List ℕ} {start c : Cursor} (w : Folded (first_of p q) image start tt c tt) where
  pub first_over : (r : Item) → r ≡ advance image c → NotRecord r → none ≡ first_such p (keep q (rest image start).entries)
  first_over r e z = fold_end (first_of p q) image start tt c tt w r e z

  module _ {e : Spot} {next : Cursor} (t : Passes image c e next) where
    kept : q (entry_of image e) ≡ true → keep q (entry_of image e ∷ (rest image next).entries) ≡ entry_of image e ∷ keep q
        (rest image next).entries
    kept h = keep_yes q (entry_of image e) (rest image next).entries h

    pub first_found : q (entry_of image e) ≡ true → p (entry_of image e) ≡ true
        → some (entry_of image e) ≡ first_such p (keep q (rest image start).entries)
    first_found h g =
        fold_stop (first_of p q) image start tt c tt w e next t (some (entry_of image e))
        (ap (first_such p) (kept h) ∙ first_yes p (entry_of image e) (keep q (rest image next).entries) g)

    pub first_other : q (entry_of image e) ≡ true → p (entry_of image e) ≡ false → Folded (first_of p q) image start tt next tt
    first_other h g =
        fold_step (first_of p q) image start tt c tt w e next t tt
        (ap (first_such p) (kept h) ∙ first_no p (entry_of image e) (keep q (rest image next).entries) g)

    pub first_skip : q (entry_of image e) ≡ false → Folded (first_of p q) image start tt next tt
    first_skip h =
        fold_step (first_of p q) image start tt c tt w e next t tt
        (ap (first_such p) (keep_no q (entry_of image e) (rest image next).entries h))

-- ---- the one with an index, of those kept

abbrev pub nth_of : (Entry → Bool) → ℕ → Run → Option Entry
nth_of q i r = get_elem? (keep q r.entries) i

nth_less : (q : Entry → Bool) (x : Entry) (xs : List Entry) (i : ℕ) → q x ≡ true → (i ≡ 0 → ⊥)
    → get_elem? (keep q (x ∷ xs)) i ≡ get_elem? (keep q xs) (i - 1)
nth_less q x xs zero h z = absurd (z refl)
nth_less q x xs (suc i) h z = let k : suc i - 1 ≡ i = omega arith in rw (keep_yes q x xs h, k)

module _ (q : Entry → Bool) {image : List ℕ} {start c : Cursor} {i₀ i : ℕ} (w : Folded (nth_of q) image start i₀ c i) where
  pub nth_over : (r : Item) → r ≡ advance image c → NotRecord r → none ≡ get_elem? (keep q (rest image start).entries) i₀
  nth_over r e z = fold_end (nth_of q) image start i₀ c i w r e z

  module _ {e : Spot} {next : Cursor} (t : Passes image c e next) where
    pub nth_found : q (entry_of image e) ≡ true → i ≡ 0 → some (entry_of image e) ≡ get_elem? (keep q (rest image start).entries) i₀
    nth_found h z =
        fold_stop (nth_of q) image start i₀ c i w e next t (some (entry_of image e))
        (rw (keep_yes q (entry_of image e) (rest image next).entries h, z))

    pub nth_onward : q (entry_of image e) ≡ true → (i ≡ 0 → ⊥) → Folded (nth_of q) image start i₀ next (i - 1)
    nth_onward h z = fold_step (nth_of q) image start i₀ c i w e next t (i - 1)
        (nth_less q (entry_of image e) (rest image next).entries i h z)

    pub nth_skip : q (entry_of image e) ≡ false → Folded (nth_of q) image start i₀ next i
    nth_skip h = fold_step (nth_of q) image start i₀ c i w e next t i (rw (keep_no q (entry_of image e) (rest image next).entries h))
