-- The first records of the chain: how a loop counts them, and the search for a name among them.
use Rattle.std.specs.Prelude.{ℕ, suc, ◌+◌, ◌≤◌, ◌≡◌, refl, Bool, ◌||◌, List, [], ◌∷◌, ◌++◌, take, drop}
use Rattle.std.proofs.Common.{arith, sym, ap, ap₂, ◌∙◌, append-nil, take-append-drop, take-add, drop-drop}
use Rattle.std.proofs.Math.Seq.{take-nil}
use Rattle.spec.specs.Basics.{Each}
use Rattle.spec.specs.Record.{Entry}
use Rattle.spec.specs.Files.{named_as, has_named}
use Rattle.chain.specs.declared.Cursor.{Cursor}
use Rattle.chain.specs.declared.Spot.{Spot}
use Rattle.chain.specs.declared.Item.{Item}
use Rattle.chain.specs.declared.Earlier.{Earlier}
use Rattle.chain.specs.Cursor.{advance, CursorSound, left}
use Rattle.chain.specs.Rest.{Run, entry_of, ahead, rest}
use Rattle.chain.specs.Fold.{Passes, NotRecord, Folded, rest_done, fold_end, fold_step}
use Rattle.chain.specs.TallyLaws.{any_or, or_false, or_assoc}

-- ---- one element more

module _ {A : Type 0} (k : ℕ) (xs : List A) where
  take_more : (y : A) (ys : List A) → drop k xs ≡ y ∷ ys → take (k + 1) xs ≡ take k xs ++ y ∷ []
  take_more y ys e = take-add k 1 xs ∙ ap (λ (l : List A). take k xs ++ take 1 l) e

  drop_more : (y : A) (ys : List A) → drop k xs ≡ y ∷ ys → drop (k + 1) xs ≡ ys
  drop_more y ys e = sym (drop-drop 1 k xs) ∙ ap (drop 1) e

  take_whole : drop k xs ≡ [] → take k xs ≡ xs
  take_whole e = sym (append-nil (take k xs)) ∙ ap (λ (l : List A). take k xs ++ l) (sym e) ∙ take-append-drop k xs

pub each_last : (P : Entry → Type 0) (es : List Entry) (e : Entry) → Each P es → P e → Each P (es ++ e ∷ [])
each_last P [] e h q = (q, tt)
each_last P (x ∷ es) e h q = (h.0, each_last P es e h.1 q)

-- ---- k records of the chain are passed at c

pub record Gone (image : List ℕ) (start c : Cursor) (k : ℕ) : Type 0 where
  pub sound : CursorSound image c
  pub left_over : drop k (rest image start).entries ≡ (rest image c).entries
  pub few : k + left c ≤ left start

-- the records that are passed
abbrev pub front : List ℕ → Cursor → ℕ → List Entry
front image start k = take k (rest image start).entries

-- and one more
abbrev pub front_and : List ℕ → Cursor → ℕ → Spot → List Entry
front_and image start k e = front image start k ++ entry_of image e ∷ []

module _ {image : List ℕ} {start : Cursor} where
  pub gone_none : CursorSound image start → Gone image start start 0
  gone_none s = record { sound = s; left_over = refl; few = omega arith }

  module _ {c : Cursor} {k : ℕ} (w : Gone image start c k) where
    pub gone_all : (r : Item) → r ≡ advance image c → NotRecord r → front image start k ≡ (rest image start).entries
    gone_all r e z = take_whole k (rest image start).entries (w.left_over ∙ ap (λ (x : Run). x.entries) (rest_done image c r e z))

    module _ {e : Spot} {next : Cursor} (t : Passes image c e next) where
      here : drop k (rest image start).entries ≡ entry_of image e ∷ (rest image next).entries
      here = w.left_over ∙ ap (λ (x : Run). x.entries) t.split

      pub gone_more : Gone image start next (k + 1)
      gone_more =
          record {
            sound = t.onward.sound;
            left_over = drop_more k (rest image start).entries (entry_of image e) (rest image next).entries here;
            few = omega (arith, w.few, t.onward.less);
          }

      pub front_more : front image start (k + 1) ≡ front_and image start k e
      front_more = take_more k (rest image start).entries (entry_of image e) (rest image next).entries here

-- ---- the search among the first records

-- what was found so far, and how many records are left
pub record Looked : Type 0 where
  pub found : Earlier
  pub left : ℕ

-- with one record x more
abbrev pub earlier_with : Earlier → Entry → Entry → Earlier
earlier_with f e x = record { committed = f.committed || named_as 0xFC e x; migrating = f.migrating || named_as 0xF8 e x }

abbrev pub earlier_in : Entry → Looked → Run → Earlier
earlier_in e s r =
    record {
      committed = s.found.committed || has_named 0xFC (take s.left r.entries) e;
      migrating = s.found.migrating || has_named 0xF8 (take s.left r.entries) e;
    }

abbrev two : Bool → Bool → Earlier
two a b = record { committed = a; migrating = b }

-- nothing is left to look at
earlier_none : (e : Entry) (f : Earlier) (es : List Entry) → es ≡ []
    → two (f.committed || has_named 0xFC es e) (f.migrating || has_named 0xF8 es e) ≡ f
unfolding has_named
earlier_none e f es h = rw h (ap₂ two (or_false f.committed) (or_false f.migrating))

one_more : (st : ℕ) (e x : Entry) (es : List Entry) (b : Bool)
    → (b || has_named st (x ∷ es) e) ≡ ((b || named_as st e x) || has_named st es e)
unfolding has_named
one_more st e x es b =
    ap (λ (t : Bool). b || t) (sym (any_or (named_as st e) x es _ refl)) ∙ sym (or_assoc b (named_as st e x) (has_named st es e))

earlier_more : (e x : Entry) (f : Earlier) (n m : ℕ) (r : Run) → n ≡ suc m
    → earlier_in e (record { found = f; left = n }) (ahead x r) ≡ earlier_in e (record { found = earlier_with f e x; left = m }) r
earlier_more e x f n m r q =
    rw q (ap₂ two (one_more 0xFC e x (take m r.entries) f.committed) (one_more 0xF8 e x (take m r.entries) f.migrating))

module _ (e : Entry) {image : List ℕ} {start c : Cursor} {s₀ s : Looked} (w : Folded (earlier_in e) image start s₀ c s) where
  pub earlier_over : (r : Item) → r ≡ advance image c → NotRecord r → s.found ≡ earlier_in e s₀ (rest image start)
  earlier_over r q z =
      sym (earlier_none e s.found (take s.left []) (take-nil s.left)) ∙ fold_end (earlier_in e) image start s₀ c s w r q z

  pub earlier_out : s.left ≡ 0 → s.found ≡ earlier_in e s₀ (rest image start)
  earlier_out q =
      sym (earlier_none e s.found (take s.left (rest image c).entries) (ap (λ (n : ℕ). take n (rest image c).entries) q))
      ∙ sym w.same

  pub earlier_next : {x : Spot} {next : Cursor} → Passes image c x next → (m : ℕ) → s.left ≡ suc m
      → Folded (earlier_in e) image start s₀ next (record { found = earlier_with s.found e (entry_of image x); left = m })
  earlier_next {x} {next} t m q =
      fold_step (earlier_in e) image start s₀ c s w x next t (record { found = earlier_with s.found e (entry_of image x); left = m })
      (earlier_more e (entry_of image x) s.found s.left m (rest image next) q)
