-- Repair 2 on every image whose head is START: what it leaves is read as planned, and the bytes of the records that stay are as they were.
use Rattle.std.specs.Prelude.{ℕ, ◌+◌, ◌≤◌, ◌<◌, ◌≡◌, Bool, length, get_or}
use Rattle.std.proofs.Common.{arith, sym, ap, ◌∙◌, subst, inl, inr}
use Rattle.std.proofs.Math.Path.{refl}
use Rattle.std.proofs.Math.Bool.{true, false}
use mathlib.Core.List.{List, [], ◌∷◌}
use borrow.Author.Tests.{eqb-true, ne_eqb}
use Rattle.spec.specs.declared.Ending.{Ending}
use Rattle.spec.specs.Step.{Image, program, run}
use Rattle.spec.specs.Basics.{part, Each}
use Rattle.spec.specs.Geometry.{floor}
use Rattle.spec.specs.Bytes.{is_start, is_clean}
use Rattle.spec.specs.Record.{Entry}
use Rattle.spec.specs.Next.{next}
use Rattle.spec.specs.Chain.{Reading}
use Rattle.spec.specs.Move.{vacated_end, close_steps}
use Rattle.laws.specs.Lists.{each_append}
use Rattle.laws.specs.Length.{Good}
use Rattle.laws.specs.Head.{Low}
use Rattle.planning.specs.Repairs.{pair_steps, steps_2}
use Rattle.planning.specs.Planned.{led_place, with_low, paired, first_mended}
use Rattle.planning.specs.Kinds.{Recordish, clean_low, start_low}
use Rattle.planning.specs.Row.{Row, row_end}
use Rattle.planning.specs.Spots.{Free}
use Rattle.planning.specs.Reads.{Reads}
use Rattle.planning.specs.First.{row_cons, Pair, pair_here, pair_torn, pair_round, pair_low, one_of, pair_of}
use Rattle.planning.specs.Places.{led_head}
use Rattle.planning.specs.Led.{Closed, led_reading, pair_reads}
use Rattle.planning.specs.Closing.{PairAt, pair_at, second_in, closed, closed_start}
use Rattle.planning.specs.Started.{low_starts, KeptIn, row_kept_in, kept_same, not_torn}

-- ---- the bytes of Y and of the records behind it

module _ {im left : Image} {h : ℕ} {x y : Entry} (c : Closed im left x y) where
  module _ {us : List Entry} {p : Bool} {b : ℕ} (row : Row im (length im) false h (x ∷ (y ∷ us)) p b) where
    end : vacated_end (length im) y ≡ floor y.at
    unfolding vacated_end
    end = let d = row_cons (row_cons row).rest in rw (vacated_end, ne_eqb y.at 0 (λ q. omega (arith, d.at)))

    behind_kept : Each (KeptIn im left) (y ∷ us)
    behind_kept =
        let v = row_cons row in
        let d = row_cons v.rest in
        row_kept_in left v.rest
        (λ i a z. c.same i (inr (omega (arith, v.at))) (inr (omega (arith, end, d.at))) (λ e. omega (arith, d.at)))

    under : (i : ℕ) → i < floor h → get_or left i 0 ≡ get_or im i 0
    under i q =
        let v = row_cons row in
        let d = row_cons v.rest in
        c.same i (inl (omega (arith, v.at))) (inl (omega (arith, v.at))) (λ e. omega (arith, d.at))

  pair_kept : {r : Reading} {es : List Entry} → h ≤ length im → Pair im h r x y es → Each (KeptIn im left) (y ∷ es)
  pair_kept l (pair_here row s m e) = behind_kept row
  pair_kept l (pair_torn row s n e) = behind_kept row
  pair_kept l (pair_round {us = us} {vs = vs} row s t n rows k m f e) =
      let z = behind_kept row in
      let fin = row_end (omega arith) rows in
      subst (λ (l : List Entry). Each (KeptIn im left) (y ∷ l)) f
      (z.0, each_append (KeptIn im left) us vs z.1 (row_kept_in left rows (λ i u v. under row i (omega (arith, fin.1)))))
  pair_kept l (pair_low row s t n rows k m e) =
      let v = row_cons row in
      let d = row_cons rows in
      let fin = row_end (omega arith) rows in
      row_kept_in left rows
      (λ i u z. c.same i (inl (omega (arith, v.at, fin.1))) (inl (omega (arith, v.at, fin.1))) (λ e. omega (arith, d.at)))

  -- where a torn wrap stands, eight FF at 0 stay
  pair_free : {r : Reading} {es : List Entry} → Pair im h r x y es → (b : ℕ) → r.ending ≡ Ending.TornWrap b → 8 ≤ floor h → Free im 0 8
      → Free left 0 8
  pair_free (pair_here row s m e) b q f k = not_torn b (sym (ap (λ (z : Reading). z.ending) e) ∙ q)
  pair_free (pair_torn row s n e) b q f k = λ i u v. under row i (omega arith) ∙ k i u v
  pair_free (pair_round row s t n rows k m f e) b q g j = not_torn b (sym (ap (λ (z : Reading). z.ending) e) ∙ q)
  pair_free (pair_low row s t n rows k m e) b q f j = not_torn b (sym (ap (λ (z : Reading). z.ending) e) ∙ q)

-- ---- repair 2

-- left is read as s, from the head of s on; the records of s are as they were, but for first bytes
pub record Leads (im left : Image) (r s : Reading) : Type 0 where
  pub len : length left ≡ length im
  pub inside : s.place.head < length im
  pub reads : Reads left s.place.head s
  pub kept : Each (KeptIn im left) s.entries
  pub ends : s.ending ≡ r.ending
  pub free : (b : ℕ) → r.ending ≡ Ending.TornWrap b → 8 ≤ floor r.place.head → Free im 0 8 → Free left 0 8

-- "second record START in another sector" breaks a rule
abbrev pub StartNear : List Entry → Type 0
StartNear [] = Unit {0}
StartNear (x ∷ []) = Unit {0}
StartNear (x ∷ (y ∷ es)) = is_clean y.it.low ≡ false → is_start y.it.low ≡ true → floor y.at ≡ floor x.at

start_is : (b : ℕ) → is_start b ≡ true → b ≡ 0
unfolding is_start
start_is b h = eqb-true b 0 h

module _ {im : Image} {r : Reading} (g : Good (length im)) (l : r.place.head < length im)
    (ish : Recordish (next (part r.place.head (length im) im))) (w : Reads im r.place.head r) where
  abbrev h : ℕ
  h = r.place.head

  -- with these records, of which nothing is done
  idle : (es : List Entry) → r.entries ≡ es → Leads im im r (record { place = r.place; entries = es; ending = r.ending })
  idle es e =
      subst (λ (us : List Entry). Leads im im r (record { place = r.place; entries = us; ending = r.ending })) e
      (record { len = refl; inside = l; reads = w; kept = kept_same im r.entries; ends = refl; free = λ b q f k. k })

  module _ (x y : Entry) (es : List Entry) (q : r.entries ≡ x ∷ (y ∷ es)) where
    pair : Pair im h r x y es
    pair = pair_of (one_of ish w q)

    spot : PairAt im h r x y
    spot = pair_at (omega arith) pair

    abbrev M : ℕ
    M = length im

    led_by : (left : Image) → Closed im left x y → Low y.it.low → Leads im left r (led_reading r.place r.ending y es)
    led_by left c lo =
        let hd : (led_place r.place y.at).head ≡ y.at = led_head r.place y.at in
        record {
          len = c.len;
          inside = omega (arith, hd, second_in g spot);
          reads =
              subst (λ (a : ℕ). Reads left a (led_reading r.place r.ending y es)) (sym hd)
              (pair_reads g c (low_starts spot.short spot.stands lo) pair);
          kept = pair_kept c (omega arith) pair;
          ends = refl;
          free = λ b z f k. pair_free c pair b z f k;
        }

    -- Y CLEAN
    led_clean : is_clean y.it.low ≡ true
        → Leads im (run im (close_steps M x y y.it.low)) r (led_reading r.place r.ending y es)
    led_clean c = led_by (run im (close_steps M x y y.it.low)) (closed g spot y.it.low [] tt (λ i n. tt)) (clean_low y.it.low c)

    -- Y START, in X's sector
    led_start : is_start y.it.low ≡ true → floor y.at ≡ floor x.at
        → Leads im (run im (program (x.at + 1) 0x00 ∷ [])) r
        (record { place = led_place r.place y.at; entries = y ∷ es; ending = r.ending })
    led_start c f =
        let left : Image = run im (program (x.at + 1) 0x00 ∷ []) in
        let zr : y.it.low ≡ 0 = start_is y.it.low c in
        let same : with_low 0x00 y ≡ y = ap (λ (b : ℕ). with_low b y) (sym zr) in
        subst (λ (e : Entry). Leads im left r (record { place = led_place r.place y.at; entries = e ∷ es; ending = r.ending })) same
        (led_by left (closed_start g spot f (spot.stands.low ∙ zr)) (start_low y.it.low c))

    led_pair : StartNear (x ∷ (y ∷ es)) → Leads im (run im (pair_steps M x y)) r (paired r.place r.ending x y es)
    unfolding pair_steps paired
    led_pair f = go _ _ refl refl where
      go : (t u : Bool) → is_clean y.it.low ≡ t → is_start y.it.low ≡ u
          → Leads im (run im (pair_steps M x y)) r (paired r.place r.ending x y es)
      go true u a b = rw (pair_steps, paired, a) (led_clean a)
      go false true a b = rw (pair_steps, paired, a, b) (led_start b (f a b))
      go false false a b = rw (pair_steps, paired, a, b) (idle (x ∷ (y ∷ es)) q)

  leads_by : (es : List Entry) → r.entries ≡ es → StartNear es
      → Leads im (run im (steps_2 (length im) es)) r (first_mended r.place r.ending es)
  unfolding first_mended
  leads_by [] q f = idle [] q
  leads_by (x ∷ []) q f = idle (x ∷ []) q
  leads_by (x ∷ (y ∷ es)) q f = led_pair x y es q f

  -- all shapes of a chain
  pub leads : StartNear r.entries
      → Leads im (run im (steps_2 (length im) r.entries)) r (first_mended r.place r.ending r.entries)
  leads f = leads_by r.entries refl f
