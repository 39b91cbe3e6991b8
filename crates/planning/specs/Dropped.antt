-- Repair 4 on every image that is read: status bytes of some records go to 00, and all is read with those records dead.
use Rattle.std.specs.Prelude.{ℕ, ◌+◌, ◌≤◌, ◌<◌, ◌≡◌, refl, ◌⊎◌, Bool, true, false, not, List, [], ◌∷◌, ◌++◌, map, length, get_or, set, eqb}
use Rattle.std.proofs.Common.{arith, sym, ap, ap₂, ◌∙◌, subst, inl, inr, ⊎_elim, length-set, get_or-set_same, get_or-set_other, eqb-true}
use Rattle.std.proofs.lemmas.Bool.{false≢true, eqb-false}
use Rattle.std.proofs.lemmas.List.{map-append}
use Rattle.spec.specs.declared.Ending.{Ending}
use Rattle.spec.specs.Step.{Image, Step, run}
use Rattle.spec.specs.Basics.{part, empty, keep, Each}
use Rattle.spec.specs.Geometry.{floor}
use Rattle.spec.specs.Bytes.{is_unfinished}
use Rattle.spec.specs.Record.{Entry, name_of, size}
use Rattle.spec.specs.Chain.{Reading, read}
use Rattle.spec.specs.Files.{named, has_named, superseded}
use Rattle.spec.specs.Mount.{delete_step, drop_steps}
use Rattle.laws.specs.Tests.{and_left}
use Rattle.laws.specs.Lists.{keep_yes, keep_no, each_map, each_append, each_left, each_right}
use Rattle.planning.specs.Planned.{with_status, dead_if}
use Rattle.planning.specs.Kinds.{dead_finished, migrating_finished, kind_dead}
use Rattle.planning.specs.Row.{kind_at, Stands, Row, row_none, row_more, row_end}
use Rattle.planning.specs.Frame.{stands_frame, stands_status, row_le}
use Rattle.planning.specs.Spots.{stands_kind}
use Rattle.planning.specs.Stops.{stop_same, stop_last}
use Rattle.planning.specs.Reads.{Reads, reads_here, reads_round, reads_torn}
use Rattle.planning.specs.Effect.{Untouched, Bounded, run_length, untouched_run}

-- ---- the steps

-- i is the status byte of none of the records that are taken
abbrev pub Aside : (Entry → Bool) → ℕ → List Entry → Type 0
Aside q i es = Each (λ e. q e ≡ true → i ≡ e.at + 2 → ⊥) es

pub aside_untouched : (q : Entry → Bool) (i : ℕ) (es : List Entry) → Aside q i es → Untouched i (map delete_step (keep q es))
aside_untouched q i [] a = tt
aside_untouched q i (e ∷ es) a = go (q e) refl (aside_untouched q i es a.1) where
  go : (t : Bool) → q e ≡ t → Untouched i (map delete_step (keep q es)) → Untouched i (map delete_step (keep q (e ∷ es)))
  go true f ih = rw (keep, f) (a.0 f, ih)
  go false f ih = rw (keep, f) ih

pub drops_bounded : (N : ℕ) (q : Entry → Bool) (es : List Entry) → Bounded N (map delete_step (keep q es))
drops_bounded N q [] = tt
drops_bounded N q (e ∷ es) = go (q e) refl (drops_bounded N q es) where
  go : (t : Bool) → q e ≡ t → Bounded N (map delete_step (keep q es)) → Bounded N (map delete_step (keep q (e ∷ es)))
  go true f ih = rw (keep, f) ih
  go false f ih = rw (keep, f) ih

-- ---- the records

-- dead if it is taken
abbrev pub drop_if : (Entry → Bool) → Entry → Entry
drop_if q e = dead_if (q e) e

-- outside a row there is none of its status bytes
pub row_aside : {im : Image} {lim : ℕ} {o : Bool} {a : ℕ} {es : List Entry} {p : Bool} {b : ℕ} (q : Entry → Bool) (i : ℕ)
    → (i < a) ⊎ (b ≤ i)
    → Row im lim o a es p b → Aside q i es
row_aside q i o row_none = tt
row_aside {b = b} q i o (row_more {a = a} e f w r) = (
  λ t z. ⊎_elim (λ (h : i < a). omega arith) (λ (h : b ≤ i). omega (arith, row_le r)) o,
  row_aside q i (⊎_elim (λ (h : i < a). inl (omega arith)) (λ (h : b ≤ i). inr h) o) r,
)

-- a finished record whose status goes to 00
pub dead_stands : {im left : Image} {lim lim' : ℕ} {e : Entry} → lim ≤ length im → lim' ≤ length left → e.at + size e ≤ lim'
    → Stands im lim e
    → is_unfinished e.it.status ≡ false → get_or left (e.at + 2) 0 ≡ 0
    → ((i : ℕ) → e.at ≤ i → i < e.at + size e → (i ≡ e.at + 2 → ⊥) → get_or left i 0 ≡ get_or im i 0) → Stands left lim' (with_status 0x00 e)
dead_stands {im} {left} {lim} {lim'} {e} u l fits w f zr s =
    let k : kind_at left e.at ≡ kind_at im e.at =
    rw (
      s e.at (omega arith) (omega arith) (λ z. omega arith),
      s (e.at + 1) (omega arith) (omega arith) (λ z. omega arith),
      zr,
      s (e.at + 3) (omega arith) (omega arith) (λ z. omega arith),
    )
    (kind_dead (get_or im e.at 0) (get_or im (e.at + 1) 0) (get_or im (e.at + 2) 0) (get_or im (e.at + 3) 0) (part e.at lim im)
    (stands_kind u w) (ap is_unfinished w.status ∙ f)) in
    stands_status w left lim' l fits 0x00 zr k (λ i a b. s i a (omega arith) (λ z. omega arith))
    (λ i a b. s i (omega arith) b (λ z. omega arith))

-- one record, dead or as it was
drop_stands : {im left : Image} {lim lim' : ℕ} {e : Entry} → lim ≤ length im → lim' ≤ length left → e.at + size e ≤ lim' → Stands im lim e
    → (t : Bool) → ((i : ℕ) → e.at ≤ i → i < e.at + size e → (t ≡ true → i ≡ e.at + 2 → ⊥) → get_or left i 0 ≡ get_or im i 0)
    → (t ≡ true → get_or left (e.at + 2) 0 ≡ 0) → (t ≡ true → is_unfinished e.it.status ≡ false) → Stands left lim' (dead_if t e)
drop_stands u l fits w true same zr fin = dead_stands u l fits w (fin refl) (zr refl) (λ i a b n. same i a b (λ t. n))
drop_stands {left = left} {lim' = lim'} u l fits w false same zr fin =
    stands_frame w left lim' l fits (λ i a b. same i a b (λ t. absurd (false≢true t)))

drop_size : (t : Bool) (e : Entry) → size (dead_if t e) ≡ size e
drop_size true e = refl
drop_size false e = refl

drop_at : (t : Bool) (e : Entry) → (dead_if t e).at ≡ e.at
drop_at true e = refl
drop_at false e = refl

drop_open : (t : Bool) (e : Entry) → (t ≡ true → is_unfinished e.it.status ≡ false)
    → is_unfinished (dead_if t e).it.status ≡ is_unfinished e.it.status
drop_open true e f = dead_finished ∙ sym (f refl)
drop_open false e f = refl

-- the whole row
pub row_dropped : {im left : Image} {lim lim' : ℕ} {o : Bool} {a : ℕ} {es : List Entry} {p : Bool} {b : ℕ} (q : Entry → Bool)
    → lim ≤ length im → lim' ≤ length left → b ≤ lim'
    → ((i : ℕ) → a ≤ i → i < b → Aside q i es → get_or left i 0 ≡ get_or im i 0)
    → Each (λ e. q e ≡ true → get_or left (e.at + 2) 0 ≡ 0) es → Each (λ e. q e ≡ true → is_unfinished e.it.status ≡ false) es
    → Row im lim o a es p b → Row left lim' o a (map (drop_if q) es) p b
row_dropped q u l h same zr fin row_none = row_none
row_dropped {im} {left} {lim} {lim'} {p = p} {b = b} q u l h same zr fin (row_more {a = a} {es = es} e f w r) =
    let le = row_le r in
    let d : Entry = drop_if q e in
    let s : Stands left lim' d =
    drop_stands u l (omega arith) w (q e)
    (λ i u v n. same i (omega arith) (omega arith) (n, row_aside q i (inl (omega arith)) r)) zr.0 fin.0 in
    let rest : Row left lim' (is_unfinished e.it.status) (a + size e) (map (drop_if q) es) p b =
    row_dropped q u l h (λ i u v n. same i (omega arith) v (λ t z. omega arith, n)) zr.1 fin.1 r in
    row_more d (drop_at (q e) e ∙ f) s
    (subst (λ (k : ℕ). Row left lim' (is_unfinished d.it.status) (a + k) (map (drop_if q) es) p b) (sym (drop_size (q e) e))
    (subst (λ (t : Bool). Row left lim' t (a + size e) (map (drop_if q) es) p b) (sym (drop_open (q e) e fin.0)) rest))

-- ---- the bytes that they leave

zero_kept : (im : Image) (ks : List Entry) (i : ℕ) → i < length im → get_or im i 0 ≡ 0 → get_or (run im (map delete_step ks)) i 0 ≡ 0
zero_kept im [] i l e = e
zero_kept im (k ∷ ks) i l e =
    zero_kept (set im (k.at + 2) 0) ks i (omega (arith, length-set im (k.at + 2) 0)) (go (eqb i (k.at + 2)) refl) where
      go : (t : Bool) → eqb i (k.at + 2) ≡ t → get_or (set im (k.at + 2) 0) i 0 ≡ 0
      go true q =
          let z : i ≡ k.at + 2 = eqb-true i (k.at + 2) q in
          ap (λ (n : ℕ). get_or (set im n 0) i 0) (sym z) ∙ get_or-set_same im i 0 0 l
      go false q = get_or-set_other im (k.at + 2) i 0 0 (eqb-false i (k.at + 2) q) ∙ e

pub drops_zero : (q : Entry → Bool) (im : Image) (es : List Entry)
    → Each (λ e. q e ≡ true → e.at + 2 < length im → get_or (run im (map delete_step (keep q es))) (e.at + 2) 0 ≡ 0) es
drops_zero q im [] = tt
drops_zero q im (e ∷ es) = go (q e) refl (λ (s : Image). drops_zero q s es) where
  go : (t : Bool) → q e ≡ t
      → ((s : Image) → Each (λ f. q f ≡ true → f.at + 2 < length s → get_or (run s (map delete_step (keep q es))) (f.at + 2) 0 ≡ 0) es)
      → Each (λ f. q f ≡ true → f.at + 2 < length im → get_or (run im (map delete_step (keep q (e ∷ es)))) (f.at + 2) 0 ≡ 0) (e ∷ es)
  go true g ih =
      let s : Image = set im (e.at + 2) 0 in
      subst
      (λ (l : List Entry). Each (λ f. q f ≡ true → f.at + 2 < length im → get_or (run im (map delete_step l)) (f.at + 2) 0 ≡ 0) (e ∷ es))
      (sym (keep_yes q e es g)) (
        λ t l. zero_kept s (keep q es) (e.at + 2) (omega (arith, length-set im (e.at + 2) 0)) (get_or-set_same im (e.at + 2) 0 0 l),
        each_map {P = λ f. q f ≡ true → f.at + 2 < length s → get_or (run s (map delete_step (keep q es))) (f.at + 2) 0 ≡ 0}
            {Q = λ f. q f ≡ true → f.at + 2 < length im → get_or (run s (map delete_step (keep q es))) (f.at + 2) 0 ≡ 0} es
            (λ f p t l. p t (omega (arith, length-set im (e.at + 2) 0))) (ih s),
      )
  go false g ih =
      subst
      (λ (l : List Entry). Each (λ f. q f ≡ true → f.at + 2 < length im → get_or (run im (map delete_step l)) (f.at + 2) 0 ≡ 0) (e ∷ es))
      (sym (keep_no q e es g)) (
        λ t l. absurd (false≢true (sym g ∙ t)),
        ih im,
      )

-- ---- a whole reading

-- with the taken records dead
abbrev pub dropped_reading : (Entry → Bool) → Reading → Reading
dropped_reading q r = record { place = r.place; entries = map (drop_if q) r.entries; ending = r.ending }

-- what was done: the taken records' status bytes are 00, all else is as it was
pub record Drops (im left : Image) (q : Entry → Bool) (es : List Entry) : Type 0 where
  pub len : length left ≡ length im
  pub same : (i : ℕ) → Aside q i es → get_or left i 0 ≡ get_or im i 0
  pub zeros : Each (λ e. q e ≡ true → get_or left (e.at + 2) 0 ≡ 0) es
  pub finished : Each (λ e. q e ≡ true → is_unfinished e.it.status ≡ false) es

pub dropped_reads : {im left : Image} {h : ℕ} {r : Reading} (q : Entry → Bool) → h ≤ length im → Drops im left q r.entries → Reads im h r
    → Reads left h (dropped_reading q r)
dropped_reads {im} {left} {h} {r} q l w (reads_here {es = es} {p = p} {T = T} row s m e) =
    let v : Drops im left q es = subst (λ (z : Reading). Drops im left q z.entries) e w in
    let end = row_end l row in
    subst (λ (z : Reading). Reads left h (dropped_reading q z)) (sym e)
    (reads_here
    (row_dropped q (omega arith) (omega arith) (omega (arith, end.1, v.len)) (λ i a b n. v.same i n) v.zeros v.finished row)
    (stop_last im left p T v.len end.1 (λ i a b. v.same i (row_aside q i (inr a) row)) s) m
    (ap (λ (N : ℕ). read N h T false (map (drop_if q) es) Ending.Tail) (sym v.len)))
dropped_reads {im} {left} {h} {r} q l w (reads_torn {es = es} {p = p} {b = b} row s n e) =
    let v : Drops im left q es = subst (λ (z : Reading). Drops im left q z.entries) e w in
    let end = row_end l row in
    subst (λ (z : Reading). Reads left h (dropped_reading q z)) (sym e)
    (reads_torn
    (row_dropped q (omega arith) (omega arith) (omega (arith, end.1, v.len)) (λ i a d n. v.same i n) v.zeros v.finished row)
    (stop_last im left p b v.len end.1 (λ i a d. v.same i (row_aside q i (inr a) row)) s) n
    (ap (λ (N : ℕ). read N h 0 true (map (drop_if q) es) (Ending.TornWrap b)) (sym v.len)))
dropped_reads {im} {left} {h} {r} q l w (reads_round {es = es} {fs = fs} {p = p} {q = o} {b = b} {T = T} row s t n rows k m e) =
    let v : Drops im left q (es ++ fs) = subst (λ (z : Reading). Drops im left q z.entries) e w in
    let end = row_end l row in
    let fin = row_end (omega arith) rows in
    let le : h ≤ b = row_le row in
    let Aside-i : ℕ → Entry → Type 0 = λ i e. q e ≡ true → i ≡ e.at + 2 → ⊥ in
    let Zero : Entry → Type 0 = λ e. q e ≡ true → get_or left (e.at + 2) 0 ≡ 0 in
    let Done : Entry → Type 0 = λ e. q e ≡ true → is_unfinished e.it.status ≡ false in
    let up : (i : ℕ) → h ≤ i → Aside q i es → get_or left i 0 ≡ get_or im i 0 =
    λ i a d. v.same i (each_append (Aside-i i) es fs d (row_aside q i (inr (omega (arith, fin.1))) rows)) in
    let down : (i : ℕ) → i < floor h → Aside q i fs → get_or left i 0 ≡ get_or im i 0 =
    λ i a d. v.same i (each_append (Aside-i i) es fs (row_aside q i (inl (omega arith)) row) d) in
    subst (λ (z : Reading). Reads left h (dropped_reading q z)) (sym e)
    (reads_round
    (row_dropped q (omega arith) (omega arith) (omega (arith, end.1, v.len)) (λ i a d g. up i a g) (each_left Zero es fs v.zeros)
    (each_left Done es fs v.finished) row)
    (stop_last im left p b v.len end.1 (λ i a d. up i (omega arith) (row_aside q i (inr a) row)) s) t n
    (row_dropped q (omega arith) (omega (arith, v.len)) fin.1 (λ i a d g. down i (omega (arith, fin.1)) g)
    (each_right Zero es fs v.zeros)
    (each_right Done es fs v.finished) rows)
    (stop_same im left o T v.len (floor h) fin.1 (omega arith) (λ i a d. down i d (row_aside q i (inr a) rows)) k) m
    (ap₂ (λ (N : ℕ) (z : List Entry). read N h T true z Ending.Tail) (sym v.len) (map-append (drop_if q) es fs)))

-- ---- repair 4

superseded_finished : (es : List Entry) (e : Entry) → superseded es e ≡ true → is_unfinished e.it.status ≡ false
unfolding superseded named
superseded_finished es e h =
    let p : named 0xF8 e ≡ true = and_left (named 0xF8 e) (has_named 0xFC es e) h in
    let q : eqb e.it.status 0xF8 ≡ true = and_left (eqb e.it.status 0xF8) (not (empty (name_of e))) p in
    ap is_unfinished (eqb-true e.it.status 0xF8 q) ∙ migrating_finished

all_finished : (all es : List Entry) → Each (λ e. superseded all e ≡ true → is_unfinished e.it.status ≡ false) es
all_finished all [] = tt
all_finished all (e ∷ es) = (λ t. superseded_finished all e t, all_finished all es)

each_in : (q : Entry → Bool) (im left : Image) (es : List Entry) → Each (λ e. e.at + 2 < length im) es
    → Each (λ e. q e ≡ true → e.at + 2 < length im → get_or left (e.at + 2) 0 ≡ 0) es
    → Each (λ e. q e ≡ true → get_or left (e.at + 2) 0 ≡ 0) es
each_in q im left [] a b = tt
each_in q im left (e ∷ es) a b = (λ t. b.0 t a.0, each_in q im left es a.1 b.1)

-- what repair 4's own steps do, with every record inside the image
pub drops_by : (im : Image) (es : List Entry) → Each (λ e. e.at + 2 < length im) es → Drops im (run im (drop_steps es)) (superseded es) es
unfolding drop_steps
drops_by im es inside =
    let ss : List Step = map delete_step (keep (superseded es) es) in
    let ok : Bounded (length im) ss = drops_bounded (length im) (superseded es) es in
    record {
      len = run_length im ss ok;
      same = λ i a. untouched_run im ss i ok (aside_untouched (superseded es) i es a);
      zeros = each_in (superseded es) im (run im ss) es inside (drops_zero (superseded es) im es);
      finished = all_finished es es;
    }

-- the records of a reading lie inside
pub row_inside : {im : Image} {lim : ℕ} {o : Bool} {a : ℕ} {es : List Entry} {p : Bool} {b : ℕ} (N : ℕ) → lim ≤ N → Row im lim o a es p b
    → Each (λ e. e.at + 2 < N) es
row_inside N l row_none = tt
row_inside N l (row_more e f w r) = (omega (arith, w.fits), row_inside N l r)

pub reads_inside : {im : Image} {h : ℕ} {r : Reading} → h ≤ length im → Reads im h r → Each (λ e. e.at + 2 < length im) r.entries
reads_inside {im} l (reads_here row s m e) =
    subst (λ (z : Reading). Each (λ f. f.at + 2 < length im) z.entries) (sym e) (row_inside (length im) (omega arith) row)
reads_inside {im} l (reads_torn row s n e) =
    subst (λ (z : Reading). Each (λ f. f.at + 2 < length im) z.entries) (sym e) (row_inside (length im) (omega arith) row)
reads_inside {im} l (reads_round {es = es} {fs = fs} row s t n rows k m e) =
    subst (λ (z : Reading). Each (λ f. f.at + 2 < length im) z.entries) (sym e)
    (each_append (λ f. f.at + 2 < length im) es fs (row_inside (length im) (omega arith) row) (row_inside (length im) (omega arith) rows))

-- every image that is read, after repair 4's steps
pub repair_4_reads : {im : Image} {h : ℕ} {r : Reading} → h ≤ length im → Reads im h r
    → Reads (run im (drop_steps r.entries)) h (dropped_reading (superseded r.entries) r)
repair_4_reads {im} {h} {r} l w = dropped_reads (superseded r.entries) l (drops_by im r.entries (reads_inside l w)) w
