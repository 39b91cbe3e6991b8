-- Request K3: sizes of records summed along the chain. A sum and what is left to read are never more than there was at the start.
use Rattle.std.specs.Prelude.{ℕ, ◌+◌, ◌≤◌, ◌≡◌, Bool, true, false, List}
use Rattle.std.proofs.Common.{arith, add-zero, zero-add, sym, ap₂, ◌∙◌}
use Rattle.spec.specs.Basics.{keep}
use Rattle.spec.specs.Record.{Entry, size, size_of}
use Rattle.spec.specs.Space.{sizes}
use Rattle.laws.specs.Lists.{keep_yes, keep_no}
use Rattle.chain.specs.declared.Cursor.{Cursor}
use Rattle.chain.specs.declared.Spot.{Spot}
use Rattle.chain.specs.declared.Item.{Item}
use Rattle.chain.specs.Cursor.{advance, left, CursorSound}
use Rattle.chain.specs.Along.{Reached, from_left, from_sound, Way, way, along}
use Rattle.chain.specs.Rest.{Run, followed, rest, rest_step, entry_of}
use Rattle.chain.specs.Fold.{Whole, name_length_is, content_length_is, Passes, NotRecord, Folded, fold_start, fold_end, fold_step}

-- a sum, with a size if it counts
abbrev pub added : ℕ → ℕ → Bool → ℕ
added m z true = m + z
added m z false = m

-- m, and the sizes of the records of r that pass
abbrev pub sum_of : (Entry → Bool) → ℕ → Run → ℕ
sum_of p m r = m + sizes (keep p r.entries)

-- m was summed up to c
pub record Summed (p : Entry → Bool) (image : List ℕ) (start c : Cursor) (m : ℕ) : Type 0 where
  pub fold : Folded (sum_of p) image start 0 c m
  pub few : m + left c ≤ left start

pub sum_start : (p : Entry → Bool) {image : List ℕ} {start : Cursor} → CursorSound image start → Summed p image start start 0
sum_start p {image} {start} s = record { fold = fold_start (sum_of p) image start 0 s; few = omega arith }

-- a record takes its size from what is left
pub reached_more : {image : List ℕ} {c : Cursor} {e : Spot} {next : Cursor} → Reached image c e next
    → left next + size_of e.n e.d ≤ left c
reached_more r = rw r.next_is (omega (arith, r.fits, from_left r.from))

pub size_is : {image : List ℕ} {e : Spot} → Whole image e → size (entry_of image e) ≡ size_of e.n e.d
size_is {image} {e} w = ap₂ size_of (name_length_is image e w) (content_length_is image e w)

-- all records together are no longer than what is left
module _ (image : List ℕ) where
  abbrev Most : Cursor → Type 0
  Most c = CursorSound image c → sizes (rest image c).entries ≤ left c

  reached_whole : {c : Cursor} {e : Spot} {next : Cursor} → Reached image c e next → CursorSound image c → Whole image e
  reached_whole r s = let d = from_sound r.from s in record { fits = omega (arith, r.at, r.fits, d.ordered, d.inside) }

  reached_sound : {c : Cursor} {e : Spot} {next : Cursor} → Reached image c e next → CursorSound image c → CursorSound image next
  reached_sound r s =
      let d = from_sound r.from s in
      rw r.next_is record { ordered = omega (arith, r.fits, d.ordered); inside = d.inside; room = d.room; small = d.small }

  pub sizes_most : (c : Cursor) → Most c
  sizes_most = along image Most (λ c ih s. rw (rest_step image c) (go c s (advance image c) (way image c) ih)) where
    go : (c : Cursor) → CursorSound image c → (r : Item) → Way image c r
        → ((e : Spot) (next : Cursor) → Reached image c e next → Most next) → sizes (followed image r (rest image)).entries ≤ left c
    go c s (Item.Record e next) w ih =
        omega (arith, size_is (reached_whole w s), ih e next w (reached_sound w s), reached_more w)
    go c s (Item.End t u) w ih = omega arith
    go c s (Item.TornWrap t) w ih = omega arith
    go c s (Item.Broken t u) w ih = omega arith

module _ (p : Entry → Bool) {image : List ℕ} {start c : Cursor} {m : ℕ} (w : Summed p image start c m) where
  pub sum_over : (r : Item) → r ≡ advance image c → NotRecord r → m ≡ sizes (keep p (rest image start).entries)
  sum_over r e z =
      sym (add-zero m) ∙ fold_end (sum_of p) image start 0 c m w.fold r e z ∙ zero-add (sizes (keep p (rest image start).entries))

  pub sum_most : m ≤ left start
  sum_most = omega (arith, w.few)

  module _ {e : Spot} {next : Cursor} (t : Passes image c e next) (r : Reached image c e next) where
    -- the record's size can be added
    pub sum_room : m + size_of e.n e.d ≤ left start
    sum_room = omega (arith, w.few, reached_more r)

    pub sum_step : (b : Bool) → p (entry_of image e) ≡ b → Summed p image start next (added m (size_of e.n e.d) b)
    sum_step true h =
        record {
          fold =
              fold_step (sum_of p) image start 0 c m w.fold e next t (m + size_of e.n e.d)
              (rw (keep_yes p (entry_of image e) (rest image next).entries h) (omega (arith, size_is t.whole)));
          few = omega (arith, w.few, reached_more r);
        }
    sum_step false h =
        record {
          fold = fold_step (sum_of p) image start 0 c m w.fold e next t m
              (rw (keep_no p (entry_of image e) (rest image next).entries h));
          few = omega (arith, w.few, reached_more r);
        }
