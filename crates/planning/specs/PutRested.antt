-- A new record on a settled image: what is left is settled again, with the record that it replaces dead and the new one the last.
use Rattle.std.specs.Prelude.{ℕ, ◌+◌, ◌%◌, ◌<◌, ◌≡◌, refl, Bool, true, false, List, [], ◌∷◌, map, length, get_or, eqb}
use Rattle.std.proofs.Common.{arith, sym, ap, ◌∙◌, subst, eqb-true}
use Rattle.spec.specs.declared.Ending.{Ending}
use Rattle.spec.specs.declared.Place.{Place}
use Rattle.spec.specs.Step.{Image}
use Rattle.spec.specs.Basics.{Each}
use Rattle.spec.specs.Geometry.{floor}
use Rattle.spec.specs.Record.{Entry, name_of, size}
use Rattle.spec.specs.Chain.{Reading}
use Rattle.spec.specs.Place.{fits_at_tail, fits}
use Rattle.laws.specs.Lists.{each_map}
use Rattle.laws.specs.Length.{Good}
use Rattle.laws.specs.Head.{Low}
use Rattle.laws.specs.Settled.{last_open}
use Rattle.planning.specs.Planned.{copied_place}
use Rattle.planning.specs.Row.{Row, row_end}
use Rattle.planning.specs.Spots.{Free, Nameable}
use Rattle.planning.specs.Stops.{Stop}
use Rattle.planning.specs.Reads.{Reads}
use Rattle.planning.specs.First.{head_recordish, One, one_here, one_torn, one_round, one_of}
use Rattle.planning.specs.Places.{place_of, copied_head}
use Rattle.planning.specs.Dropped.{Aside, drop_if}
use Rattle.planning.specs.Rested.{FreeRun, Rested, row_closed, rows_closed, reads_finished, Finished}
use Rattle.planning.specs.NewCopy.{new, new_length}
use Rattle.planning.specs.Putting.{Replaced, put_reading, put_closed, Put, edge_of, put_tail, put_zero, put_round}

-- ---- the record at an address

abbrev pub stands_at : ℕ → Entry → Bool
stands_at a e = eqb e.at a

each_own : (a : ℕ) (es : List Entry) → Each (λ e. stands_at a e ≡ true → e.at ≡ a) es
each_own a [] = tt
each_own a (e ∷ es) = (λ t. eqb-true e.at a t, each_own a es)

-- it is replaced, or there is none
replaced_at : (N a : ℕ) (es : List Entry) → Each Finished es → ((i : ℕ) → i < N → Aside (stands_at a) i es → i ≡ a + 2 → ⊥)
    → Replaced (stands_at a) N a es
replaced_at N a es f o =
    record {
      own = each_own a es;
      finished = each_map {P = Finished} {Q = λ e. stands_at a e ≡ true → Finished e} es (λ e u t. u) f;
      only = o;
    }

-- ---- what is left

-- x: name and content of the new record, address and status of the replaced one
module _ (im : Image) (g : Good (length im)) {r : Reading} (w : Rested im r) (x : Entry)
    (known : (length (name_of x) < 64) × Nameable (name_of x))
    {y : Entry} {es : List Entry} (first : r.entries ≡ y ∷ es)
    (only : (i : ℕ) → i < length im → Aside (stands_at x.at) i r.entries → i ≡ x.at + 2 → ⊥) (k : fits r.place (size x)
    ≡ true) where
  abbrev h : ℕ
  h = r.place.head

  abbrev q : Entry → Bool
  q = stands_at x.at

  replaced : Replaced q (length im) x.at (y ∷ es)
  replaced = subst (Replaced q (length im) x.at) first
      (replaced_at (length im) x.at r.entries (reads_finished w.reads w.closed) only)

  one : One im h r y es
  one = one_of (head_recordish im h (omega (arith, w.inside, w.even, g.sectors)) w.low) w.reads first

  -- by what is read before
  put_by : One im h r y es → Put im (new im r.place x) h (put_reading q r.place x (y ∷ es))
  put_by (one_here {p = o} {T = T} {z = z} row s m e) =
      let P : Place = place_of (length im) h T false in
      let c : o ≡ false = row_closed row (sym (ap last_open first) ∙ w.closed) in
      let row' : Row im (length im) false h (y ∷ es) false T = subst (λ (t : Bool). Row im (length im) false h (y ∷ es) t T) c row in
      let at : r.place ≡ P = ap (λ (v : Reading). v.place) e in
      let run : FreeRun im P = subst (FreeRun im) at w.free in
      let s' = subst (λ (t : Bool). Stop im (length im) t T z) c s in
      subst (λ (p : Place). Put im (new im p x) h (put_reading q p x (y ∷ es))) (sym at)
      (straight row' (run.below refl) (run.above refl) (edge_of im T (row_end (omega (arith, w.inside)) row).1 s' m)
      (subst (λ (p : Place). fits p (size x) ≡ true) at k) _ refl) where
        straight : {T : ℕ} → Row im (length im) false h (y ∷ es) false T → Free im 0 (floor h) → Free im T (length im)
            → (T ≡ length im → floor h ≡ 0)
            → fits (place_of (length im) h T false) (size x) ≡ true → (t : Bool)
            → fits_at_tail (place_of (length im) h T false) (size x) ≡ t
            → Put im (new im (place_of (length im) h T false) x) h (put_reading q (place_of (length im) h T false) x (y ∷ es))
        straight row below free edge k true e = put_tail im g x w.inside w.even known q row below free replaced e
        straight row below free edge k false e = put_zero im g x w.inside w.even known q row below free replaced e k edge
  put_by (one_torn row s n e) = absurd (torn_not (sym w.tail ∙ ap (λ (v : Reading). v.ending) e)) where
    torn_not : {b : ℕ} → Ending.Tail ≡ Ending.TornWrap b → ⊥
    torn_not z = let y : ◌≡◌ {A = ℕ} 0 1 = cc in omega arith
  put_by (one_round {us = us} {vs = vs} {p = o} {q = v} {b = b} {T = T} {z = z} row s t n rows j m u e) =
      let P : Place = place_of (length im) h T true in
      let c = rows_closed row rows (ap (λ (l : List Entry). last_open (y ∷ l)) u ∙ sym (ap last_open first) ∙ w.closed) in
      let at : r.place ≡ P = ap (λ (v : Reading). v.place) e in
      let run : FreeRun im P = subst (FreeRun im) at w.free in
      subst (λ (p : Place). Put im (new im p x) h (put_reading q p x (y ∷ es))) (sym at)
      (subst (λ (l : List Entry). Put im (new im P x) h (put_reading q P x (y ∷ l))) u
      (put_round im g x w.inside w.even known q (subst (λ (a : Bool). Row im (length im) false h (y ∷ us) a b) c.0 row)
      (subst (λ (a : Bool). Stop im (length im) a b z) c.0 s) t n
      (subst (λ (a : Bool). Row im (floor h) false 0 vs a T) c.1 (subst (λ (a : Bool). Row im (floor h) a 0 vs v T) c.0 rows))
      (run.between refl) (subst (λ (l : List Entry). Replaced q (length im) x.at (y ∷ l)) (sym u) replaced)
      (subst (λ (p : Place). fits p (size x) ≡ true) at k)))

  pub new_rested : Rested (new im r.place x) (put_reading (stands_at x.at) r.place x r.entries)
  new_rested =
      let d = put_by one in
      let at : (copied_place r.place (size x)).head ≡ h = (copied_head r.place (size x)).0 in
      subst (λ (l : List Entry). Rested (new im r.place x) (put_reading q r.place x l)) (sym first)
      (record {
        inside = omega (arith, at, w.inside, new_length im r.place x);
        even = ap (λ (a : ℕ). a % 8) at ∙ w.even;
        low = subst Low (sym (ap (λ (a : ℕ). get_or (new im r.place x) a 0) at ∙ d.low)) w.low;
        reads = subst (λ (a : ℕ). Reads (new im r.place x) a (put_reading q r.place x (y ∷ es))) (sym at) d.reads;
        closed = put_closed r.place x (map (drop_if q) (y ∷ es));
        tail = refl;
        free = d.free;
      })
