-- Repair 1 on every image that is read: sectors of the free run are erased, and the head's low byte becomes 00. All is read as it was, but
-- for that byte.
use Rattle.std.specs.Prelude.{ℕ, ◌+◌, ◌≤◌, ◌<◌, ◌≡◌, ◌⊎◌, Bool, length, ltb}
use Rattle.std.proofs.Common.{arith, sym, ap, ◌∙◌, subst, ⊎_elim, ltb-true, ltb-false}
use Rattle.std.proofs.Math.Path.{refl}
use Rattle.std.proofs.Math.Logic.{inl, inr}
use Rattle.std.proofs.Math.Bool.{true, false}
use Rattle.std.proofs.lemmas.Bool.{false≢true}
use mathlib.Core.List.{List, [], ◌∷◌, ◌++◌, map, map-append}
use Rattle.std.proofs.Math.ListN.{get_or}
use Rattle.spec.specs.declared.Ending.{Ending}
use Rattle.spec.specs.declared.Place.{Place}
use Rattle.spec.specs.Step.{Image, Step, erase, apply, run}
use Rattle.spec.specs.Basics.{part, keep}
use Rattle.spec.specs.Geometry.{floor, ceiling, sectors}
use Rattle.spec.specs.Record.{Entry}
use Rattle.spec.specs.Next.{next}
use Rattle.spec.specs.Chain.{Reading, read}
use Rattle.spec.specs.Mount.{free_sectors, dirty, erase_steps}
use Rattle.planning.specs.Planned.{with_low}
use Rattle.planning.specs.Kinds.{Recordish}
use Rattle.planning.specs.Row.{Row, row_more, row_end}
use Rattle.planning.specs.Frame.{row_kept, row_le}
use Rattle.planning.specs.Stops.{here_tag, turn_tag, low_tag, stop_same, stop_last, end_kept}
use Rattle.planning.specs.Reads.{Reads, reads_here, reads_round, reads_torn}
use Rattle.planning.specs.First.{row_cons, filled}
use Rattle.planning.specs.Effect.{Untouched, Bounded, untouched_append, bounded_append, run_length, untouched_run}
use Rattle.planning.specs.Effect.{erase_length, erase_in, erase_off, erases_off, erases_bounded}
use Rattle.planning.specs.Led.{MayStart, begun_stands}

-- ---- sectors of the free run

pub keep_untouched : (i : ℕ) (q : ℕ → Bool) (ks : List ℕ) → Untouched i (map erase ks) → Untouched i (map erase (keep q ks))
keep_untouched i q [] u = tt
keep_untouched i q (k ∷ ks) u = go (q k) refl (keep_untouched i q ks u.1) where
  go : (t : Bool) → q k ≡ t → Untouched i (map erase (keep q ks)) → Untouched i (map erase (keep q (k ∷ ks)))
  go true e ih = rw (keep, e) (u.0, ih)
  go false e ih = rw (keep, e) ih

pub keep_bounded : (N : ℕ) (q : ℕ → Bool) (ks : List ℕ) → Bounded N (map erase ks) → Bounded N (map erase (keep q ks))
keep_bounded N q [] w = tt
keep_bounded N q (k ∷ ks) w = go (q k) refl (keep_bounded N q ks w.1) where
  go : (t : Bool) → q k ≡ t → Bounded N (map erase (keep q ks)) → Bounded N (map erase (keep q (k ∷ ks)))
  go true e ih = rw (keep, e) (w.0, ih)
  go false e ih = rw (keep, e) ih

-- an erased sector is FF, so what was FF is
pub erases_keep : (im : Image) (ks : List ℕ) (i : ℕ) → Bounded (length im) (map erase ks) → get_or im i 0 ≡ 0xFF
    → get_or (run im (map erase ks)) i 0 ≡ 0xFF
erases_keep im [] i w e = e
erases_keep im (k ∷ ks) i w e =
    erases_keep (apply im (erase k)) ks i (subst (λ (n : ℕ). Bounded n (map erase ks)) (sym (erase_length im k w.0)) w.1)
    (go (ltb i k) refl (ltb i (k + 4096)) refl) where
      go : (t : Bool) → ltb i k ≡ t → (u : Bool) → ltb i (k + 4096) ≡ u → get_or (apply im (erase k)) i 0 ≡ 0xFF
      go true p u q = erase_off im k w.0 i (inl (ltb-true i k p)) ∙ e
      go false p true q = erase_in im k w.0 i (ltb-false i k p) (ltb-true i (k + 4096) q)
      go false p false q = erase_off im k w.0 i (inr (ltb-false i (k + 4096) q)) ∙ e

-- the bytes of the chain are as they were, and what was FF is
pub record Spared (im left : Image) (p : Place) : Type 0 where
  pub len : length left ≡ length im
  pub high : (i : ℕ) → floor p.head ≤ i → (p.turned ≡ false → i < p.tail) → get_or left i 0 ≡ get_or im i 0
  pub low : (i : ℕ) → p.turned ≡ true → i < p.tail → i < floor p.head → get_or left i 0 ≡ get_or im i 0
  pub ff : (i : ℕ) → get_or im i 0 ≡ 0xFF → get_or left i 0 ≡ 0xFF

-- so all is read again as it was
pub spared_reads : {im left : Image} {h : ℕ} {r : Reading} → h ≤ length im → Spared im left r.place → Reads im h r → Reads left h r
spared_reads {im} {left} {h} {r} l w (reads_here {es = es} {p = p} {T = T} {x = x} row s m e) =
    let v : Spared im left (read (length im) h T false es Ending.Tail).place = subst (λ (z : Reading). Spared im left z.place) e w in
    let fin = row_end l row in
    reads_here (row_kept (omega arith) (omega (arith, fin.1, v.len)) (λ i a b. v.high i (omega arith) (λ q. b)) row)
    (end_kept im left p T (length im) (length left) x (omega arith) (omega arith) v.len fin.1 (here_tag m).0 (here_tag m).1
    v.ff s) m
    (e ∙ ap (λ (n : ℕ). read n h T false es Ending.Tail) (sym v.len))
spared_reads {im} {left} {h} {r} l w (reads_torn {es = es} {p = p} {b = b} row s n e) =
    let v : Spared im left (read (length im) h 0 true es (Ending.TornWrap b)).place =
    subst (λ (z : Reading). Spared im left z.place) e w in
    let fin = row_end l row in
    let le : h ≤ b = row_le row in
    let up : (i : ℕ) → floor h ≤ i → get_or left i 0 ≡ get_or im i 0 = λ i a. v.high i a (λ q. absurd (false≢true (sym q))) in
    reads_torn (row_kept (omega arith) (omega (arith, fin.1, v.len)) (λ i a b. up i (omega arith)) row)
    (stop_last im left p b v.len fin.1 (λ i a d. up i (omega arith)) s) n
    (e ∙ ap (λ (k : ℕ). read k h 0 true es (Ending.TornWrap b)) (sym v.len))
spared_reads {im} {left} {h} l w (reads_round {es = es} {fs = fs} {p = p} {q = q} {b = b} {T = T} {y = y} row s t n rows k m e) =
    let v : Spared im left (read (length im) h T true (es ++ fs) Ending.Tail).place =
    subst (λ (z : Reading). Spared im left z.place) e w in
    let fin = row_end l row in
    let end = row_end (omega arith) rows in
    let le : h ≤ b = row_le row in
    let up : (i : ℕ) → floor h ≤ i → get_or left i 0 ≡ get_or im i 0 = λ i a. v.high i a (λ q. absurd (false≢true (sym q))) in
    reads_round (row_kept (omega arith) (omega (arith, fin.1, v.len)) (λ i a d. up i (omega arith)) row)
    (stop_last im left p b v.len fin.1 (λ i a d. up i (omega arith)) s) t n
    (row_kept (omega (arith, v.len)) end.1 (λ i a d. v.low i refl d (omega (arith, end.1))) rows)
    (end_kept im left q T (floor h) (floor h) y (omega arith) (omega (arith, v.len)) refl end.1 (low_tag m).0 (low_tag m).1
    v.ff k) m
    (e ∙ ap (λ (k : ℕ). read k h T true (es ++ fs) Ending.Tail) (sym v.len))

-- repair 1's erases spare the chain
module _ (im : Image) (p : Place) (n : p.length ≡ length im) (h : floor p.head ≤ length im) where
  straight_off : (i : ℕ) → p.turned ≡ false → floor p.head ≤ i → i < p.tail → Untouched i (map erase (free_sectors p))
  unfolding free_sectors
  straight_off i t a b =
      rw (free_sectors, t)
      (subst (λ (l : List Step). Untouched i l)
      (sym (map-append erase (sectors 0 (floor p.head)) (sectors (ceiling p.tail) p.length)))
      (untouched_append i (map erase (sectors 0 (floor p.head))) (map erase (sectors (ceiling p.tail) p.length))
      (erases_off 0 (floor p.head) i (inr a)) (erases_off (ceiling p.tail) p.length i (inl (omega arith)))))

  round_off : (i : ℕ) → p.turned ≡ true → (i < p.tail) ⊎ (floor p.head ≤ i) → Untouched i (map erase (free_sectors p))
  unfolding free_sectors
  round_off i t o =
      rw (free_sectors, t)
      (erases_off (ceiling p.tail) (floor p.head) i
      (⊎_elim (λ (a : i < p.tail). inl (omega arith)) (λ (a : floor p.head ≤ i). inr a) o))

  sectors_in : Bounded (length im) (map erase (free_sectors p))
  unfolding free_sectors
  sectors_in = go p.turned refl where
    go : (t : Bool) → p.turned ≡ t → Bounded (length im) (map erase (free_sectors p))
    go true t = rw (free_sectors, t) (erases_bounded (length im) (ceiling p.tail) (floor p.head) h)
    go false t =
        rw (free_sectors, t)
        (subst (λ (l : List Step). Bounded (length im) l)
        (sym (map-append erase (sectors 0 (floor p.head)) (sectors (ceiling p.tail) p.length)))
        (bounded_append (length im) (map erase (sectors 0 (floor p.head))) (map erase (sectors (ceiling p.tail) p.length))
        (erases_bounded (length im) 0 (floor p.head) h) (erases_bounded (length im) (ceiling p.tail) p.length (omega arith))))

  pub erased_spared : Spared im (run im (erase_steps im p)) p
  unfolding erase_steps
  erased_spared =
      let ok : Bounded (length im) (map erase (keep (dirty im) (free_sectors p))) =
      keep_bounded (length im) (dirty im) (free_sectors p) sectors_in in
      let same : (i : ℕ) → Untouched i (map erase (free_sectors p)) → get_or (run im (erase_steps im p)) i 0 ≡ get_or im i 0 =
      λ i u. untouched_run im (map erase (keep (dirty im) (free_sectors p))) i ok (keep_untouched i (dirty im) (free_sectors p) u) in
      record {
        len = run_length im (map erase (keep (dirty im) (free_sectors p))) ok;
        high = λ i a b. same i (high_off i a b p.turned refl);
        low = λ i t a b. same i (round_off i t (inl a));
        ff = λ i e. erases_keep im (keep (dirty im) (free_sectors p)) i ok e;
      } where
        high_off : (i : ℕ) → floor p.head ≤ i → (p.turned ≡ false → i < p.tail) → (t : Bool) → p.turned ≡ t
            → Untouched i (map erase (free_sectors p))
        high_off i a b true t = round_off i t (inr a)
        high_off i a b false t = straight_off i t a (b t)

-- ---- the head's low byte

-- with the first record START
abbrev pub start_first : List Entry → List Entry
start_first [] = []
start_first (x ∷ es) = with_low 0x00 x ∷ es

abbrev pub begun : Reading → Reading
begun r = record { place = r.place; entries = start_first r.entries; ending = r.ending }

-- all but the byte at the head is as it was
module _ (im left : Image) (h : ℕ) (l : h < length im) (len : length left ≡ length im)
    (same : (i : ℕ) → (i ≡ h → ⊥) → get_or left i 0 ≡ get_or im i 0)
    (start : get_or left h 0 ≡ 0) (ish : Recordish (next (part h (length im) im))) where
  start_row : {x : Entry} {es : List Entry} {p : Bool} {b : ℕ} → MayStart im x → Row im (length im) false h (x ∷ es) p b
      → Row left (length left) false h (with_low 0x00 x ∷ es) p b × (h < b) × (b ≤ length im)
  start_row {x} k row =
      let c = row_cons row in
      let e = row_end (omega arith) row in
      let z : get_or left x.at 0 ≡ 0 = ap (λ (i : ℕ). get_or left i 0) c.at ∙ start in (
        row_more (with_low 0x00 x) c.at
            (begun_stands (omega arith) c.stands k (omega (arith, c.stands.fits, len)) z (λ i a d. same i (λ q. omega (arith, c.at))))
            (row_kept (omega arith) (omega (arith, e.1, len)) (λ i a d. same i (λ q. omega arith)) c.rest),
        omega (arith, row_le c.rest),
        e.1,
      )

  pub start_reads : {r : Reading} → ((x : Entry) (es : List Entry) → r.entries ≡ x ∷ es → MayStart im x) → Reads im h r
      → Reads left h (begun r)
  start_reads k (reads_here {es = []} row s m e) = filled ish row s (omega (arith, (here_tag m).0)) (here_tag m).1
  start_reads k (reads_here {es = x ∷ es} {p = p} {T = T} row s m e) =
      let w = start_row (k x es (ap (λ (z : Reading). z.entries) e)) row in
      subst (λ (z : Reading). Reads left h (begun z)) (sym e)
      (reads_here w.0 (stop_last im left p T len w.2 (λ i a d. same i (λ q. omega (arith, w.1))) s) m
      (ap (λ (N : ℕ). read N h T false (with_low 0x00 x ∷ es) Ending.Tail) (sym len)))
  start_reads k (reads_torn {es = []} row s n e) = filled ish row s (omega arith) (omega arith)
  start_reads k (reads_torn {es = x ∷ es} {p = p} {b = b} row s n e) =
      let w = start_row (k x es (ap (λ (z : Reading). z.entries) e)) row in
      subst (λ (z : Reading). Reads left h (begun z)) (sym e)
      (reads_torn w.0 (stop_last im left p b len w.2 (λ i a d. same i (λ q. omega (arith, w.1))) s) n
      (ap (λ (N : ℕ). read N h 0 true (with_low 0x00 x ∷ es) (Ending.TornWrap b)) (sym len)))
  start_reads k (reads_round {es = []} row s t n rows j m e) = filled ish row s (turn_tag t).0 (turn_tag t).1
  start_reads k (reads_round {es = x ∷ es} {fs = fs} {p = p} {q = q} {b = b} {T = T} row s t n rows j m e) =
      let w = start_row (k x (es ++ fs) (ap (λ (z : Reading). z.entries) e)) row in
      let end = row_end (omega arith) rows in
      subst (λ (z : Reading). Reads left h (begun z)) (sym e)
      (reads_round w.0 (stop_last im left p b len w.2 (λ i a d. same i (λ q. omega (arith, w.1))) s) t n
      (row_kept (omega (arith, len)) end.1 (λ i a d. same i (λ q. omega (arith, end.1))) rows)
      (stop_same im left q T len (floor h) end.1 (omega arith) (λ i a d. same i (λ q. omega arith)) j) m
      (ap (λ (N : ℕ). read N h T true (with_low 0x00 x ∷ (es ++ fs)) Ending.Tail) (sym len)))
