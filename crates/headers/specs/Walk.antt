-- The code's walk is the definition's: each turn of the loop, and how it ends.
use Prim.Native.Nat.{ℕ, ◌%◌, ◌≤◌, ◌<◌}
use Rattle.std.proofs.Common.{arith, ap₂, ◌∙◌}
use Rattle.std.specs.Prelude.{◌≡◌, Bool, ◌&&◌, None, Some}
use Rattle.std.proofs.Math.Path.{refl, sym, ap}
use Rattle.std.proofs.Math.Bool.{true, false}
use Rattle.std.proofs.Math.Option.{Option, none, some}
use mathlib.Core.List.{List, [], ◌∷◌}
use Rattle.std.proofs.Math.ListN.{length}
use borrow.Author.Tests.{eq-eqb, ne_eqb, lt-ltb, le-ltb}
use Rattle.spec.specs.Step.{Image}
use Rattle.spec.specs.Basics.{Answer, refuse, numbered, checked, all, first_such}
use Rattle.spec.specs.Record.{Entry, content_of}
use Rattle.spec.specs.Chain.{Reading, reading_from}
use Rattle.spec.specs.Length.{stands, all_stand, at_tail, of_name, or_else, length_in, walked, head_fits, length_from}
use Rattle.laws.specs.Length.{InRange}
use Rattle.chain.specs.declared.Cursor.{Cursor}
use Rattle.chain.specs.declared.Spot.{Spot}
use Rattle.chain.specs.declared.Item.{Item}
use Rattle.chain.specs.Cursor.{advance, CursorSound, Inside}
use Rattle.chain.specs.Rest.{Run, entry_of, ahead, done, rest}
use Rattle.chain.specs.Fold.{Passes, passes, NotRecord, rest_done, Folded, fold_start}
use Rattle.reading.specs.Read.{first_cursor}
use Rattle.reading.specs.Survey.{first_sound}
use Rattle.reading.specs.Bridge.{shown, read_of, reading_is}
use Rattle.headers.specs.Answers.{Size}
use Rattle.headers.specs.declared.Sizes.{Sizes}
use Rattle.headers.specs.Alike.{finished_there}
use Rattle.headers.specs.Fore.{fore, sorted, fore_sorted}
use Rattle.headers.specs.Sizes.{no_sizes, first_of, noted, noted_all, best_of, best, stopped, told}

-- ---- a step of the walk is a step of the chain

sorted_record : (y : Item) (e : Spot) (next : Cursor) → Item.Record e next ≡ sorted y → y ≡ Item.Record e next
sorted_record (Item.Record f n) e next q = sym q
sorted_record (Item.End t w) e next q = absurd (let z : ◌≡◌ {A = ℕ} 0 1 = cc in omega arith)
sorted_record (Item.TornWrap t) e next q = absurd (let z : ◌≡◌ {A = ℕ} 0 1 = cc in omega arith)
sorted_record (Item.Broken t w) e next q = absurd (let z : ◌≡◌ {A = ℕ} 0 1 = cc in omega arith)

sorted_other : (r y : Item) → sorted r ≡ sorted y → NotRecord r → NotRecord y
sorted_other r (Item.Record e next) q z = go r (sorted_record r e next (sym q)) z where
  go : (i : Item) → i ≡ Item.Record e next → NotRecord i → ⊥
  go i p n = rw p at n
sorted_other r (Item.End t w) q z = tt
sorted_other r (Item.TornWrap t) q z = tt
sorted_other r (Item.Broken t w) q z = tt

stopped_sorted : (y : Item) (x : Sizes) → stopped y x ≡ stopped (sorted y) x
stopped_sorted (Item.Record e next) x = refl
stopped_sorted (Item.End t w) x = refl
stopped_sorted (Item.TornWrap t) x = refl
stopped_sorted (Item.Broken t w) x = refl

module _ (image : Image) (c : Cursor) (shut : c.pending ≡ false) (r : Item) (p : (r ≡ fore image c) × Inside image c r) where
  same_sort : sorted r ≡ sorted (advance image c)
  same_sort = ap sorted p.0 ∙ fore_sorted image c shut

  pub steps : {e : Spot} {next : Cursor} → r ≡ Item.Record e next → Passes image c e next
  steps {e} {next} q =
      let a : advance image c ≡ Item.Record e next = sorted_record (advance image c) e next (sym (ap sorted q) ∙ same_sort) in
      passes (q ∙ sym a, p.1) q

  pub halts : NotRecord r → rest image c ≡ done (advance image c)
  halts z = rest_done image c (advance image c) refl (sorted_other r (advance image c) same_sort z)

  pub told_end : (name : List ℕ) (x : Sizes) → NotRecord r → stopped r x ≡ told name x (rest image c)
  unfolding told
  told_end name x z =
      stopped_sorted r x ∙ ap (λ (i : Item). stopped i x) same_sort ∙ sym (stopped_sorted (advance image c) x)
      ∙ sym (ap (told name x) (halts z))

-- ---- the fold

pub record Walking (name : List ℕ) (image : Image) (start : Cursor) (x₀ : Sizes) (c : Cursor) (x : Sizes) : Type 0 where
  pub fold : Folded (told name) image start x₀ c x
  pub shut : c.pending ≡ false

pub walking_start : (name : List ℕ) {image : Image} {start : Cursor} {x : Sizes} → CursorSound image start → start.pending ≡ false
    → Walking name image start x start x
walking_start name {image} {start} {x} s p = record { fold = fold_start (told name) image start x s; shut = p }

told_fails : (name : List ℕ) (x : Sizes) (e : Entry) (r : Run) → stands false e ≡ false → told name x (ahead e r) ≡ refuse (numbered 5)
unfolding told
told_fails name x e r f = rw (told, all, f)

told_on : (name : List ℕ) (x : Sizes) (e : Entry) (r : Run) → stands false e ≡ true → told name x (ahead e r) ≡ told name (noted name x e) r
unfolding told
told_on name x e r f = rw (told, all, f)

-- the cursor past a record that can stand there has no unfinished record before it
pub shut_past : {image : Image} {c : Cursor} {e : Spot} {next : Cursor} (first : Bool) → Passes image c e next
    → stands first (entry_of image e) ≡ true → next.pending ≡ false
shut_past {image} {c} {e} {next} first t f = t.onward.pending ∙ finished_there first (entry_of image e) f

module _ {name : List ℕ} {image : Image} {start c : Cursor} {x₀ x : Sizes} (w : Walking name image start x₀ c x) where
  pub walk_end : {r : Item} → (r ≡ fore image c) × Inside image c r → NotRecord r → stopped r x ≡ told name x₀ (rest image start)
  walk_end {r} p z = told_end image c w.shut r p name x z ∙ sym w.fold.same

  module _ {e : Spot} {next : Cursor} (t : Passes image c e next) where
    pub walk_fails : stands false (entry_of image e) ≡ false → refuse (numbered 5) ≡ told name x₀ (rest image start)
    walk_fails f =
        sym (w.fold.same ∙ ap (told name x) t.split ∙ told_fails name x (entry_of image e) (rest image next) f)

    pub walk_step : {y : Sizes} → y ≡ noted name x (entry_of image e) → stands false (entry_of image e) ≡ true
        → Walking name image start x₀ next y
    walk_step {y} q f =
        record {
          fold = record {
            sound = t.onward.sound;
            same =
                w.fold.same ∙ ap (told name x) t.split ∙ told_on name x (entry_of image e) (rest image next) f
                ∙ ap (λ (k : Sizes). told name k (rest image next)) (sym q);
          };
          shut = shut_past false t f;
        }

-- ---- what is noted of all records

found_or : Size → Option Entry → Size
found_or (Some k) o = Some k
found_or None none = None
found_or None (some e) = Some (length (content_of e))

module _ (name : List ℕ) where
  committed_all : (x : Sizes) (es : List Entry)
      → (noted_all name x es).committed ≡ found_or x.committed (first_such (of_name 0xFC name) es)
  unfolding found_or
  committed_all x [] = go x.committed where
    go : (k : Size) → k ≡ found_or k none
    go (Some d) = refl
    go None = refl
  committed_all x (e ∷ es) = committed_all (noted name x e) es ∙ go x.committed (of_name 0xFC name e) refl where
    go : (k : Size) (t : Bool) → of_name 0xFC name e ≡ t
        → found_or (first_of k (of_name 0xFC name e) (length (content_of e))) (first_such (of_name 0xFC name) es)
        ≡ found_or k (first_such (of_name 0xFC name) (e ∷ es))
    go (Some d) t q = refl
    go None true q = rw (q, first_such)
    go None false q = rw (q, first_such)

  migrating_all : (x : Sizes) (es : List Entry)
      → (noted_all name x es).migrating ≡ found_or x.migrating (first_such (of_name 0xF8 name) es)
  unfolding found_or
  migrating_all x [] = go x.migrating where
    go : (k : Size) → k ≡ found_or k none
    go (Some d) = refl
    go None = refl
  migrating_all x (e ∷ es) = migrating_all (noted name x e) es ∙ go x.migrating (of_name 0xF8 name e) refl where
    go : (k : Size) (t : Bool) → of_name 0xF8 name e ≡ t
        → found_or (first_of k (of_name 0xF8 name e) (length (content_of e))) (first_such (of_name 0xF8 name) es)
        ≡ found_or k (first_such (of_name 0xF8 name) (e ∷ es))
    go (Some d) t q = refl
    go None true q = rw (q, first_such)
    go None false q = rw (q, first_such)

  best_found : (o p : Option Entry) → best_of (found_or None o) (found_or None p) ≡ or_else o p
  unfolding found_or
  best_found (some e) p = refl
  best_found none (some e) = refl
  best_found none none = refl

  best_all : (es : List Entry) → best (noted_all name no_sizes es) ≡ length_in name es
  best_all es =
      ap₂ best_of (committed_all no_sizes es) (migrating_all no_sizes es)
      ∙ best_found (first_such (of_name 0xFC name) es) (first_such (of_name 0xF8 name) es)

-- ---- from the head on

tail_there : (image : Image) (N h : ℕ) (es : List Entry) (i : Item) (a : Answer ℕ) (x : Sizes) → a ≡ best x
    → checked (at_tail (shown image N h es i).ending) (numbered 5) a ≡ stopped i x
tail_there image N h es (Item.Record e next) a x q = refl
tail_there image N h es (Item.End t w) a x q = q
tail_there image N h es (Item.TornWrap t) a x q = refl
tail_there image N h es (Item.Broken t w) a x q = refl

shown_all : (image : Image) (N h : ℕ) (es : List Entry) (i : Item) → (shown image N h es i).entries ≡ es
shown_all image N h es (Item.Record x c) = refl
shown_all image N h es (Item.End t w) = refl
shown_all image N h es (Item.TornWrap t) = refl
shown_all image N h es (Item.Broken t w) = refl

both_checked : (a b : Bool) (x : Answer ℕ) → checked (a && b) (numbered 5) x ≡ checked b (numbered 5) (checked a (numbered 5) x)
both_checked true true x = refl
both_checked true false x = refl
both_checked false true x = refl
both_checked false false x = refl

module _ (name : List ℕ) (h : ℕ) (image : Image) (l : h ≤ length image) where
  -- the answer by what the cursor finds
  by_run : (r : Run) → rest image (first_cursor image h) ≡ r
      → walked name h (reading_from image h) ≡ checked (all_stand h r.entries) (numbered 5)
      (stopped r.ending (noted_all name no_sizes r.entries))
  unfolding walked
  by_run r q =
      let N : ℕ = length image in
      let v : Reading = shown image N h r.entries r.ending in
      let e : reading_from image h ≡ v = sym (reading_is image h l) ∙ ap (read_of image N h) q in
      let s : v.entries ≡ r.entries = shown_all image N h r.entries r.ending in
      ap (walked name h) e
      ∙ ap (λ (es : List Entry). checked (at_tail v.ending && all_stand h es) (numbered 5) (length_in name es)) s
      ∙ both_checked (at_tail v.ending) (all_stand h r.entries) (length_in name r.entries)
      ∙ ap (checked (all_stand h r.entries) (numbered 5))
      (tail_there image N h r.entries r.ending (length_in name r.entries) (noted_all name no_sizes r.entries)
      (sym (best_all name r.entries)))

  pub head_none : (i : Item) → rest image (first_cursor image h) ≡ done i → refuse (numbered 5) ≡ walked name h (reading_from image h)
  unfolding all_stand
  head_none i q = sym (by_run (done i) q)

  module _ (e : Entry) (r : Run) (q : rest image (first_cursor image h) ≡ ahead e r) where
    pub head_elsewhere : (e.at ≡ h → ⊥) → refuse (numbered 5) ≡ walked name h (reading_from image h)
    unfolding all_stand
    head_elsewhere z = sym (by_run (ahead e r) q ∙ rw (all_stand, ne_eqb e.at h z))

    pub head_fails : e.at ≡ h → stands true e ≡ false → refuse (numbered 5) ≡ walked name h (reading_from image h)
    unfolding all_stand
    head_fails a f = sym (by_run (ahead e r) q ∙ rw (all_stand, eq-eqb e.at h a, f))

    pub head_stands : (x : Sizes) → x ≡ noted name no_sizes e → e.at ≡ h → stands true e ≡ true
        → told name x r ≡ walked name h (reading_from image h)
    unfolding all_stand told
    head_stands x n a f = sym (by_run (ahead e r) q ∙ rw (all_stand, eq-eqb e.at h a, f, n, told))

-- ---- as the code begins it

module _ (image : Image) (h : ℕ) (l : h < length image) (small : InRange (length image)) (k : Cursor) (kq : k ≡ first_cursor image h) where
  pub begin_sound : CursorSound image k
  begin_sound = rw kq (first_sound image h (omega arith) small)

  shut : k.pending ≡ false
  shut = ap (λ (c : Cursor). c.pending) kq

  module _ (r : Item) (p : (r ≡ fore image k) × Inside image k r) where
    pub begun : {e : Spot} {next : Cursor} → r ≡ Item.Record e next → Passes image k e next
    begun q = steps image k shut r p q

    pub none_begun : (name : List ℕ) → NotRecord r → refuse (numbered 5) ≡ walked name h (reading_from image h)
    none_begun name z = head_none name h image (omega arith) (advance image k) (sym (ap (rest image) kq) ∙ halts image k shut r p z)

    module _ (name : List ℕ) {e : Spot} {next : Cursor} (q : r ≡ Item.Record e next) where
      split : rest image (first_cursor image h) ≡ ahead (entry_of image e) (rest image next)
      split = sym (ap (rest image) kq) ∙ (begun q).split

      pub begun_elsewhere : (e.at ≡ h → ⊥) → refuse (numbered 5) ≡ walked name h (reading_from image h)
      begun_elsewhere z = head_elsewhere name h image (omega arith) (entry_of image e) (rest image next) split z

      pub begun_fails : e.at ≡ h → stands true (entry_of image e) ≡ false → refuse (numbered 5) ≡ walked name h (reading_from image h)
      begun_fails a f = head_fails name h image (omega arith) (entry_of image e) (rest image next) split a f

      pub begun_well : (x y : Sizes) → x ≡ noted name y (entry_of image e) → y ≡ no_sizes → e.at ≡ h
          → stands true (entry_of image e) ≡ true
          → told name x (rest image next) ≡ walked name h (reading_from image h)
      begun_well x y n m a f =
          head_stands name h image (omega arith) (entry_of image e) (rest image next) split x
          (n ∙ ap (λ (s : Sizes). noted name s (entry_of image e)) m) a f

-- ---- the head's address

module _ (name : List ℕ) (h : ℕ) (image : Image) where
  pub odd_head : (h % 8 ≡ 0 → ⊥) → refuse (numbered 5) ≡ length_from name h image
  unfolding length_from head_fits
  odd_head z = rw (length_from, head_fits, ne_eqb (h % 8) 0 z)

  pub far_head : h % 8 ≡ 0 → length image ≤ h → refuse (numbered 5) ≡ length_from name h image
  unfolding length_from head_fits
  far_head e l = rw (length_from, head_fits, eq-eqb (h % 8) 0 e, le-ltb h (length image) l)

  pub near_head : h % 8 ≡ 0 → h < length image → walked name h (reading_from image h) ≡ length_from name h image
  unfolding length_from head_fits
  near_head e l = rw (length_from, head_fits, eq-eqb (h % 8) 0 e, lt-ltb h (length image) l)
