-- Repair 1 on every image that is accepted: what it leaves is read with the head START, and every record has its bytes as they were, but
-- for the first byte of the head.
use Rattle.std.specs.Prelude.{ℕ, ◌+◌, ◌%◌, ◌≤◌, ◌<◌, min, ◌≡◌, Bool, length, get_or, eqb}
use Rattle.std.proofs.Common.{arith, sym, ap, ◌∙◌, subst, inl}
use Rattle.std.proofs.Math.Path.{refl}
use Rattle.std.proofs.Math.Bool.{true, false}
use Rattle.std.proofs.lemmas.Bool.{false≢true}
use mathlib.Core.List.{List, [], ◌∷◌, ◌++◌}
use Rattle.spec.specs.declared.Ending.{Ending}
use Rattle.spec.specs.declared.Place.{Place}
use Rattle.spec.specs.Step.{Image, run}
use Rattle.spec.specs.Basics.{part, Each}
use Rattle.spec.specs.Geometry.{floor}
use Rattle.spec.specs.Bytes.{is_record_begun, is_clean, is_erased, is_reserved}
use Rattle.spec.specs.Record.{Entry, name_of, size}
use Rattle.spec.specs.Next.{next}
use Rattle.spec.specs.Chain.{Reading, read}
use Rattle.spec.specs.Reading.{blank_part, free_blank, tail_blank, free_ok, head_clean}
use Rattle.spec.specs.Write.{name_end_steps}
use Rattle.spec.specs.Move.{start_steps}
use Rattle.spec.specs.Mount.{head_low, erase_steps, missing_steps, void_steps, last_steps}
use Rattle.laws.specs.Lists.{each_append}
use Rattle.laws.specs.Length.{Good}
use Rattle.laws.specs.Head.{Low}
use Rattle.laws.specs.Steps.{run_append}
use Rattle.planning.specs.Repairs.{steps_1}
use Rattle.planning.specs.Planned.{start_if, started}
use Rattle.planning.specs.Kinds.{Recordish, low_lowly, clean_low, lowly_start, low_whole, kind_lows}
use Rattle.planning.specs.Row.{Stands, Row, row_none, row_more, row_end}
use Rattle.planning.specs.Frame.{row_le}
use Rattle.planning.specs.Spots.{Free, blank_free}
use Rattle.planning.specs.Reads.{Reads, reads_here, reads_round, reads_torn}
use Rattle.planning.specs.First.{head_recordish, reads_head, one_of, FirstAt, first_at}
use Rattle.planning.specs.Effect.{Bounded, run_length, untouched_run, writes_run}
use Rattle.planning.specs.Close.{start_off, start_writes, start_bounded}
use Rattle.planning.specs.Led.{MayStart}
use Rattle.planning.specs.Spared.{Spared, spared_reads, erased_spared, start_first, start_reads}
use Rattle.planning.specs.Voids.{torn_is}

-- ---- a START or CLEAN is not torn, so its low byte may become 00

pub low_starts : {im : Image} {lim : ℕ} {e : Entry} → lim ≤ length im → Stands im lim e → Low e.it.low → MayStart im e
low_starts {im} {lim} {e} l w h =
    kind_lows (get_or im e.at 0) 0x00 (get_or im (e.at + 1) 0) (get_or im (e.at + 2) 0) (get_or im (e.at + 3) 0)
    (ap is_erased w.status ∙ inked _ refl) (low_lowly (get_or im e.at 0) (subst Low (sym w.low) h)) lowly_start where
      inked : (t : Bool) → is_erased e.it.status ≡ t → is_erased e.it.status ≡ false
      inked false q = q
      inked true q = absurd (false≢true (sym (low_whole e.it.low h) ∙ ap is_record_begun (sym w.low) ∙ (torn_is l w q).low))

-- ---- bytes of records, all but the first

-- the bytes of e behind its first are the same in both images
abbrev pub KeptIn : Image → Image → Entry → Type 0
KeptIn im left e = (i : ℕ) → e.at < i → i < e.at + size e → get_or left i 0 ≡ get_or im i 0

pub row_kept_in : {im : Image} (left : Image) {lim : ℕ} {o : Bool} {a : ℕ} {es : List Entry} {p : Bool} {b : ℕ} → Row im lim o a es p b
    → ((i : ℕ) → a < i → i < b → get_or left i 0 ≡ get_or im i 0) → Each (KeptIn im left) es
row_kept_in left row_none f = tt
row_kept_in left (row_more e q w r) f =
    (λ i a b. f i (omega arith) (omega (arith, row_le r)), row_kept_in left r (λ i a b. f i (omega arith) b))

pub kept_same : (im : Image) (es : List Entry) → Each (KeptIn im im) es
kept_same im [] = tt
kept_same im (e ∷ es) = (λ i a b. refl, kept_same im es)

missing_same : (im left : Image) (a : ℕ) → get_or left a 0 ≡ get_or im a 0 → missing_steps left a ≡ missing_steps im a
missing_same im left a e = ap (λ (b : ℕ). elim (eqb b 0x00) [ true ↦ [] | false ↦ name_end_steps a ]) e

-- repair 3 reads one byte of them, so it does the same
void_same : (im left : Image) (e : Entry) → get_or left (e.at + (8 + length (name_of e))) 0 ≡ get_or im (e.at + (8 + length (name_of e))) 0
    → void_steps left e ≡ void_steps im e
unfolding void_steps
void_same im left e q = go _ _ refl refl where
  go : (t u : Bool) → is_erased e.it.status ≡ t → is_reserved e.it.status ≡ u → void_steps left e ≡ void_steps im e
  go true u a b = rw (void_steps, a)
  go false true a b = rw (void_steps, a, b, missing_same im left (e.at + (8 + length (name_of e))) q)
  go false false a b = rw (void_steps, a, b)

pub last_same : (im left : Image) (es : List Entry) → Each (KeptIn im left) es → last_steps left es ≡ last_steps im es
unfolding last_steps
last_same im left [] k = refl
last_same im left (e ∷ []) k = void_same im left e (k.0 (e.at + (8 + length (name_of e))) (omega arith) (omega arith))
last_same im left (e ∷ (f ∷ es)) k = last_same im left (f ∷ es) k.1

-- ---- the free run where a torn wrap stands

pub not_torn : {A : Type 0} (b : ℕ) → Ending.Tail ≡ Ending.TornWrap b → A
not_torn b e = absurd (let z : ◌≡◌ {A = ℕ} 0 1 = cc in omega arith)

torn_tail : (im : Image) (N h : ℕ) → h ≤ length im → (floor h ≡ 0 → ⊥) → (p : Place)
    → p ≡ record { head = h; tail = 0; turned = true; length = N } → tail_blank im p ≡ true → Free im 0 8
unfolding tail_blank
torn_tail im N h l n p q e =
    let m : ℕ = min (floor 0 + 4096) (floor h) in
    let f : blank_part 0 m im ≡ true = sym (ap (tail_blank im) q) ∙ e in
    λ i a b. blank_free im 0 m (omega arith) f i a (omega arith)

torn_run : (im : Image) (N h : ℕ) → h ≤ length im → (floor h ≡ 0 → ⊥) → (p : Place)
    → p ≡ record { head = h; tail = 0; turned = true; length = N } → free_blank im p ≡ true → Free im 0 8
unfolding free_blank
torn_run im N h l n p q e =
    let f : blank_part 0 (floor h) im ≡ true = sym (ap (free_blank im) q) ∙ e in
    λ i a b. blank_free im 0 (floor h) (omega arith) f i a (omega arith)

-- T = 0 then, so eight FF stand at 0, and the head is in another sector
pub torn_free : {im : Image} {h : ℕ} {r : Reading} → h ≤ length im → Reads im h r → free_ok im r ≡ true → (b : ℕ)
    → r.ending ≡ Ending.TornWrap b
    → Free im 0 8 × (8 ≤ floor h)
unfolding free_ok
torn_free l (reads_here row s m e) f b q = not_torn b (sym (ap (λ (z : Reading). z.ending) e) ∙ q)
torn_free l (reads_round row s t n rows k m e) f b q = not_torn b (sym (ap (λ (z : Reading). z.ending) e) ∙ q)
torn_free {im} {h} {r} l (reads_torn row s n e) f b q = (go _ refl, omega arith) where
  at : r.place ≡ record { head = h; tail = 0; turned = true; length = length im }
  at = ap (λ (z : Reading). z.place) e

  go : (t : Bool) → head_clean r.entries ≡ t → Free im 0 8
  go true c = torn_tail im (length im) h l n r.place at (rw (free_ok, c) at f)
  go false c = torn_run im (length im) h l n r.place at (rw (free_ok, c) at f)

-- ---- repair 1

abbrev pub started_reading : Reading → Reading
started_reading r = record { place = r.place; entries = started r.entries; ending = r.ending }

-- left is im after repair 1: of the same length, read with the head START; every record's bytes behind its first are as they were; where a
-- torn wrap stands, eight FF stay at 0
pub record Starts (im left : Image) (r : Reading) : Type 0 where
  pub len : length left ≡ length im
  pub reads : Reads left r.place.head (started_reading r)
  pub low : Low (get_or left r.place.head 0)
  pub kept : Each (KeptIn im left) r.entries
  pub free : (b : ℕ) → r.ending ≡ Ending.TornWrap b → Free left 0 8 × (8 ≤ floor r.place.head)

started_is : (es : List Entry) (t : Bool) → head_clean es ≡ t → started es ≡ elim t [ true ↦ start_first es | false ↦ es ]
started_is [] true e = refl
started_is [] false e = refl
started_is (x ∷ es) true e = ap (λ (t : Bool). start_if t x ∷ es) e
started_is (x ∷ es) false e = ap (λ (t : Bool). start_if t x ∷ es) e

-- every record's bytes lie where the erases spare them, and only the head's record begins at the head
spared_kept : {im left : Image} (last : Image) {h : ℕ} {r : Reading} → h ≤ length im → Spared im left r.place
    → ((i : ℕ) → (i ≡ h → ⊥) → get_or last i 0 ≡ get_or left i 0)
    → Reads im h r → Each (KeptIn im last) r.entries
spared_kept {im} {left} last {h} {r} l v f (reads_here {es = es} {T = T} row s m e) =
    let w : Spared im left (read (length im) h T false es Ending.Tail).place = subst (λ (z : Reading). Spared im left z.place) e v in
    subst (λ (z : Reading). Each (KeptIn im last) z.entries) (sym e)
    (row_kept_in last row (λ i a b. f i (λ q. omega arith) ∙ w.high i (omega arith) (λ q. b)))
spared_kept {im} {left} last {h} {r} l v f (reads_torn {es = es} {b = b} row s n e) =
    let w : Spared im left (read (length im) h 0 true es (Ending.TornWrap b)).place =
    subst (λ (z : Reading). Spared im left z.place) e v in
    subst (λ (z : Reading). Each (KeptIn im last) z.entries) (sym e)
    (row_kept_in last row (λ i a b. f i (λ q. omega arith) ∙ w.high i (omega arith) (λ q. absurd (false≢true (sym q)))))
spared_kept {im} {left} last {h} {r} l v f (reads_round {es = es} {fs = fs} {T = T} row s t n rows k m e) =
    let w : Spared im left (read (length im) h T true (es ++ fs) Ending.Tail).place =
    subst (λ (z : Reading). Spared im left z.place) e v in
    let end = row_end (omega arith) rows in
    subst (λ (z : Reading). Each (KeptIn im last) z.entries) (sym e)
    (each_append (KeptIn im last) es fs
    (row_kept_in last row (λ i a b. f i (λ q. omega arith) ∙ w.high i (omega arith) (λ q. absurd (false≢true (sym q)))))
    (row_kept_in last rows (λ i a b. f i (λ q. omega (arith, end.1)) ∙ w.low i refl b (omega (arith, end.1)))))

module _ {im : Image} {r : Reading} (g : Good (length im)) (l : r.place.head < length im) (even : r.place.head % 8 ≡ 0)
    (low : Low (get_or im r.place.head 0)) (w : Reads im r.place.head r) (fr : free_ok im r ≡ true) where
  abbrev h : ℕ
  h = r.place.head

  idle_starts : head_clean r.entries ≡ false → Starts im im r
  idle_starts c =
      record {
        len = refl;
        reads =
            subst (λ (us : List Entry). Reads im h (record { place = r.place; entries = us; ending = r.ending }))
            (sym (started_is r.entries false c)) w;
        low = low;
        kept = kept_same im r.entries;
        free = torn_free (omega arith) w fr;
      }

  module _ (x : Entry) (es : List Entry) (q : r.entries ≡ x ∷ es) (c : is_clean x.it.low ≡ true) where
    abbrev spared : Image
    spared = run im (erase_steps im r.place)

    abbrev begun_at : Image
    begun_at = run spared (start_steps h (head_low r.entries))

    sp : Spared im spared r.place
    sp = erased_spared im r.place (reads_head w).1 (omega arith)

    first : FirstAt im h r x
    first = first_at (one_of (head_recordish im h (omega (arith, g.sectors)) low) w q)

    low_kept : Low (get_or spared h 0)
    low_kept = subst Low (sym (sp.high h (omega arith) first.past)) low

    ish : Recordish (next (part h (length spared) spared))
    ish = head_recordish spared h (omega (arith, g.sectors, sp.len)) low_kept

    again : Reads spared h r
    again = spared_reads (omega arith) sp w

    ok : Bounded (length spared) (start_steps h (head_low r.entries))
    ok = start_bounded (length spared) h (head_low r.entries)

    len : length begun_at ≡ length im
    len = run_length spared (start_steps h (head_low r.entries)) ok ∙ sp.len

    same : (i : ℕ) → (i ≡ h → ⊥) → get_or begun_at i 0 ≡ get_or spared i 0
    same i n = untouched_run spared (start_steps h (head_low r.entries)) i ok (start_off h (head_low r.entries) i n)

    start : get_or begun_at h 0 ≡ 0
    start =
        writes_run spared (start_steps h (head_low r.entries)) h 0 (omega (arith, sp.len)) ok (start_writes h (head_low r.entries))

    clean_starts : Starts im begun_at r
    clean_starts =
        record {
          len = len;
          reads =
              subst (λ (us : List Entry). Reads begun_at h (record { place = r.place; entries = us; ending = r.ending }))
              (sym (started_is r.entries true (ap head_clean q ∙ c)))
              (start_reads spared begun_at h (omega (arith, sp.len))
              (run_length spared (start_steps h (head_low r.entries)) ok) same start ish
              (λ u us e. low_starts (omega arith) (first_at (one_of ish again e)).stands
              (clean_low u.it.low (sym (ap head_clean e) ∙ ap head_clean q ∙ c))) again);
          low = inl start;
          kept = spared_kept begun_at (omega arith) sp same w;
          free =
              λ b e.
              let z = torn_free (omega arith) w fr b e in
              (λ i u v. same i (λ k. omega (arith, z.1)) ∙ sp.ff i (z.0 i u v), z.1);
        }

  pub starts : Starts im (run im (steps_1 im r)) r
  unfolding steps_1
  starts = go r.entries refl (head_clean r.entries) refl where
    go : (es : List Entry) → r.entries ≡ es → (t : Bool) → head_clean r.entries ≡ t → Starts im (run im (steps_1 im r)) r
    go es q false c = rw (steps_1, c) (idle_starts c)
    go [] q true c = absurd (false≢true (sym (ap head_clean q) ∙ c))
    go (x ∷ es) q true c =
        rw (steps_1, c)
        (subst (λ (i : Image). Starts im i r) (sym (run_append im (erase_steps im r.place) (start_steps h (head_low r.entries))))
        (clean_starts x es q (sym (ap head_clean q) ∙ c)))
