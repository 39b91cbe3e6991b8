-- Repair 3 on every image that is read: the last record, if it is unfinished, is dead afterwards, and a torn wrap is a marker.
use Rattle.std.specs.Prelude.{ℕ, ◌+◌, ◌≤◌, ◌<◌, ◌≡◌, refl, ◌⊎◌, Bool, true, false, List, [], ◌∷◌, ◌++◌, length, get_or}
use Rattle.std.proofs.Common.{arith, sym, ap, ap₂, ◌∙◌, subst, inl, inr, ⊎_elim, append-nil}
use Rattle.spec.specs.declared.Next.{Next}
use Rattle.spec.specs.declared.Ending.{Ending}
use Rattle.spec.specs.Step.{Image, Step, shifted, run}
use Rattle.spec.specs.Basics.{part}
use Rattle.spec.specs.Geometry.{floor}
use Rattle.spec.specs.Bytes.{is_erased, is_unfinished}
use Rattle.spec.specs.Record.{Entry, size}
use Rattle.spec.specs.Next.{next}
use Rattle.spec.specs.Chain.{Reading, read}
use Rattle.spec.specs.Mount.{torn_steps, reserved_steps, void_steps, last_steps, torn_wrap_steps}
use Rattle.planning.specs.Repairs.{steps_3}
use Rattle.planning.specs.Planned.{with_status, with_low, void_by, voided}
use Rattle.planning.specs.Kinds.{tag, finished_none, dead_finished}
use Rattle.planning.specs.Row.{allowed_first, Stands, Row, row_none, row_more, row_end}
use Rattle.planning.specs.Frame.{stands_frame, row_kept, row_le}
use Rattle.planning.specs.Spots.{Free, next_clear}
use Rattle.planning.specs.Stops.{Stop, EndsHere, Turns, turn_wrap, EndsLow, low_clear, here_tag, turn_tag, low_tag}
use Rattle.planning.specs.Stops.{allowed_own, stop_same, stop_last}
use Rattle.planning.specs.Reads.{Reads, reads_here, reads_round, reads_torn}
use Rattle.planning.specs.First.{row_cons, row_nil}
use Rattle.planning.specs.Voids.{void_voids}
use Rattle.planning.specs.TornWrap.{torn_at_is, marks_by}

-- ---- rows

-- the last of them is dead if it was unfinished; outside of them all is as it was
pub record RowVoids (im left : Image) (lim : ℕ) (o : Bool) (a : ℕ) (es : List Entry) (b : ℕ) : Type 0 where
  pub len : length left ≡ length im
  pub same : (i : ℕ) → (i < a) ⊎ (b ≤ i) → get_or left i 0 ≡ get_or im i 0
  pub row : Row left lim o a (voided es) false b

one_void : {left : Image} {lim a : ℕ} (e : Entry) (t u : Bool) → is_erased e.it.status ≡ t → is_unfinished e.it.status ≡ u
    → e.at ≡ a
    → Stands left lim (void_by t u e) → Row left lim false a (void_by t u e ∷ []) false (a + size e)
one_void {left} {lim} {a} e true u g h q w =
    subst (λ (t : Bool). Row left lim false a (with_low 0xA5 (with_status 0x00 e) ∷ []) t (a + size e)) dead_finished
    (row_more (with_low 0xA5 (with_status 0x00 e)) q w row_none)
one_void {left} {lim} {a} e false true g h q w =
    subst (λ (t : Bool). Row left lim false a (with_status 0x00 e ∷ []) t (a + size e)) dead_finished
    (row_more (with_status 0x00 e) q w row_none)
one_void {left} {lim} {a} e false false g h q w =
    subst (λ (t : Bool). Row left lim false a (e ∷ []) t (a + size e)) h (row_more e q w row_none)

pub row_void : {im : Image} {lim : ℕ} {o : Bool} {a : ℕ} {p : Bool} {b : ℕ} (e : Entry) (es : List Entry) → lim ≤ length im
    → Row im lim o a (e ∷ es) p b
    → RowVoids im (run im (last_steps im (e ∷ es))) lim o a (e ∷ es) b
unfolding last_steps
row_void {im} {lim} {o} {a} {p} {b} e [] l row =
    let c = row_cons row in
    let z = row_nil c.rest in
    let v = void_voids l c.stands in
    record {
      len = v.len;
      same =
          λ i g.
          v.same i (⊎_elim (λ (h : i < a). inl (omega (arith, c.at))) (λ (h : b ≤ i). inr (omega (arith, c.at, z.1))) g);
      row =
          subst (λ (t : Bool). Row (run im (void_steps im e)) lim t a (voided (e ∷ [])) false b) (sym c.pending)
          (subst (λ (k : ℕ). Row (run im (void_steps im e)) lim false a (voided (e ∷ [])) false k) (sym z.1)
          (one_void e (is_erased e.it.status) (is_unfinished e.it.status) refl refl c.at (v.stands lim l c.stands)));
    }
row_void {im} {lim} {o} {a} {p} {b} e (f ∷ es) l row =
    let c = row_cons row in
    let v = row_void {o = is_unfinished e.it.status} f es l c.rest in
    let le = row_le c.rest in
    let left : Image = run im (last_steps im (f ∷ es)) in
    record {
      len = v.len;
      same = λ i g. v.same i (⊎_elim (λ (h : i < a). inl (omega arith)) (λ (h : b ≤ i). inr h) g);
      row =
          subst (λ (t : Bool). Row left lim t a (voided (e ∷ (f ∷ es))) false b) (sym c.pending)
          (row_more e c.at
          (stands_frame c.stands left lim (omega (arith, v.len)) c.stands.fits (λ i g h. v.same i (inl (omega (arith, c.at)))))
          v.row);
    }

last_append : (im : Image) (es : List Entry) (g : Entry) (gs : List Entry) → last_steps im (es ++ (g ∷ gs)) ≡ last_steps im (g ∷ gs)
unfolding last_steps
last_append im [] g gs = refl
last_append im (e ∷ []) g gs = refl
last_append im (e ∷ (f ∷ es)) g gs = last_append im (f ∷ es) g gs

voided_append : (es : List Entry) (g : Entry) (gs : List Entry) → voided (es ++ (g ∷ gs)) ≡ es ++ voided (g ∷ gs)
voided_append [] g gs = refl
voided_append (e ∷ []) g gs = refl
voided_append (e ∷ (f ∷ es)) g gs = ap (λ (l : List Entry). e ∷ l) (voided_append (f ∷ es) g gs)

-- where nothing is unfinished nothing is done
void_idle : (im : Image) (e : Entry) → is_unfinished e.it.status ≡ false → void_steps im e ≡ []
unfolding void_steps
void_idle im e h =
    let z = finished_none e.it.status h in
    ap₂ (λ (t u : Bool). elim t [ true ↦ shifted e.at torn_steps | false ↦ elim u [ true ↦ reserved_steps im e | false ↦ [] ] ]) z.0
    z.1

-- where all records are finished there is nothing to void
pub row_idle : {im : Image} {lim : ℕ} {o p : Bool} {a b : ℕ} (es : List Entry) → p ≡ false → Row im lim o a es p b
    → (last_steps im es ≡ []) × (voided es ≡ es)
unfolding last_steps
row_idle [] h row = (refl, refl)
row_idle {im} (e ∷ []) h row =
    let c = row_cons row in
    let z : is_unfinished e.it.status ≡ false = sym (row_nil c.rest).0 ∙ h in
    (void_idle im e z, ap₂ (λ (t u : Bool). void_by t u e ∷ []) (finished_none e.it.status z).0 z)
row_idle {im} {lim} {o} (e ∷ (f ∷ es)) h row =
    let c = row_cons row in
    let ih = row_idle {o = is_unfinished e.it.status} (f ∷ es) h c.rest in
    (ih.0, ap (λ (l : List Entry). e ∷ l) ih.1)

-- ---- whole readings

-- with the last record dead if it was unfinished, and no torn wrap
abbrev pub voided_reading : Reading → Reading
voided_reading r = record { place = r.place; entries = voided r.entries; ending = Ending.Tail }

-- left is of the same length, and is read so
abbrev Done : Image → Image → ℕ → Reading → Type 0
Done im left h r = (length left ≡ length im) × Reads left h r

-- where nothing unfinished stands before it any more
stop_closed : (im : Image) (lim : ℕ) (o : Bool) (b : ℕ) {x : Next} → tag x ≤ 4 → Stop im lim o b x → Stop im lim false b x
stop_closed im lim o b {x} h s = allowed_own o (next (part b lim im)) x s h

-- records before the turn only
void_here : {im : Image} {h : ℕ} (es : List Entry) {p : Bool} {T : ℕ} {x : Next} → h ≤ length im → Row im (length im) false h es p T
    → Stop im (length im) p T x → EndsHere (floor h) x
    → Done im (run im (last_steps im es)) h (read (length im) h T false (voided es) Ending.Tail)
unfolding last_steps
void_here [] l row s m = (refl, reads_here row s m refl)
void_here {im} {h} (e ∷ es) {p} {T} {x} l row s m =
    let v = row_void e es (omega arith) row in
    let fin = row_end l row in
    let left : Image = run im (last_steps im (e ∷ es)) in (
      v.len,
      reads_here (subst (λ (n : ℕ). Row left n false h (voided (e ∷ es)) false T) (sym v.len) v.row)
          (stop_last im left false T v.len fin.1 (λ i a b. v.same i (inr a)) (stop_closed im (length im) p T (here_tag m).1 s)) m
          (ap (λ (n : ℕ). read n h T false (voided (e ∷ es)) Ending.Tail) (sym v.len)),
    )

-- records before the turn, none behind it
void_turn : {im : Image} {h : ℕ} (es : List Entry) {p : Bool} {b : ℕ} {x : Next} {q : Bool} {T : ℕ} {y : Next} → h ≤ length im
    → Row im (length im) false h es p b → Stop im (length im) p b x → Turns x → (floor h ≡ 0 → ⊥) → Row im (floor h) p 0 [] q T
    → Stop im (floor h) q T y → EndsLow y → Done im (run im (last_steps im es)) h (read (length im) h T true (voided es) Ending.Tail)
unfolding last_steps
void_turn [] l row s t n rows k m = (refl, reads_round row s t n rows k m refl)
void_turn {im} {h} (e ∷ es) {p} {b} {x} {q} {T} {y} l row s t n rows k m =
    let v = row_void e es (omega arith) row in
    let fin = row_end l row in
    let le = row_le row in
    let z = row_nil rows in
    let left : Image = run im (last_steps im (e ∷ es)) in (
      v.len,
      reads_round {fs = []} {q = false} {T = T} (subst (λ (n : ℕ). Row left n false h (voided (e ∷ es)) false b) (sym v.len) v.row)
          (stop_last im left false b v.len fin.1 (λ i a d. v.same i (inr a)) (stop_closed im (length im) p b (turn_tag t).1 s)) t n
          (subst (λ (k : ℕ). Row left (floor h) false 0 [] false k) (sym z.1) row_none)
          (stop_same im left false T v.len (floor h) (omega (arith, z.1)) (omega arith) (λ i a d. v.same i (inl (omega arith)))
          (stop_closed im (floor h) q T (low_tag m).1 k)) m
          (ap₂ (λ (n : ℕ) (l : List Entry). read n h T true l Ending.Tail) (sym v.len) (sym (append-nil (voided (e ∷ es))))),
    )

-- records before the turn and behind it
void_round : {im : Image} {h : ℕ} {es : List Entry} (f : Entry) (fs : List Entry) {p q : Bool} {b T : ℕ} {x y : Next}
    → h ≤ length im → Row im (length im) false h es p b → Stop im (length im) p b x → Turns x → (floor h ≡ 0 → ⊥)
    → Row im (floor h) p 0 (f ∷ fs) q T → Stop im (floor h) q T y → EndsLow y
    → Done im (run im (last_steps im (f ∷ fs))) h (read (length im) h T true (es ++ voided (f ∷ fs)) Ending.Tail)
void_round {im} {h} {es} f fs {p} {q} {b} {T} l row s t n rows k m =
    let v = row_void f fs (omega arith) rows in
    let fin = row_end l row in
    let end = row_end (omega arith) rows in
    let le = row_le row in
    let left : Image = run im (last_steps im (f ∷ fs)) in
    let up : (i : ℕ) → h ≤ i → get_or left i 0 ≡ get_or im i 0 = λ i a. v.same i (inr (omega (arith, end.1))) in (
      v.len,
      reads_round (row_kept (omega arith) (omega (arith, fin.1, v.len)) (λ i a d. up i a) row)
          (stop_last im left p b v.len fin.1 (λ i a d. up i (omega arith)) s) t n v.row
          (stop_same im left false T v.len (floor h) end.1 (omega arith) (λ i a d. v.same i (inr a))
          (stop_closed im (floor h) q T (low_tag m).1 k)) m
          (ap (λ (n : ℕ). read n h T true (es ++ voided (f ∷ fs)) Ending.Tail) (sym v.len)),
    )

void_turned : {im : Image} {h : ℕ} (es fs : List Entry) {p : Bool} {b : ℕ} {x : Next} {q : Bool} {T : ℕ} {y : Next} → h ≤ length im
    → Row im (length im) false h es p b → Stop im (length im) p b x → Turns x → (floor h ≡ 0 → ⊥)
    → Row im (floor h) p 0 fs q T → Stop im (floor h) q T y → EndsLow y
    → Done im (run im (last_steps im (es ++ fs))) h (read (length im) h T true (voided (es ++ fs)) Ending.Tail)
void_turned {im} {h} es [] {p} {b} {x} {q} {T} l row s t n rows k m =
    subst (λ (us : List Entry). Done im (run im (last_steps im us)) h (read (length im) h T true (voided us) Ending.Tail))
    (sym (append-nil es))
    (void_turn es l row s t n rows k m)
void_turned {im} {h} es (f ∷ fs) {p} {b} {x} {q} {T} l row s t n rows k m =
    subst (λ (ss : List Step). Done im (run im ss) h (read (length im) h T true (voided (es ++ (f ∷ fs))) Ending.Tail))
    (sym (last_append im es f fs))
    (subst (λ (us : List Entry). Done im (run im (last_steps im (f ∷ fs))) h (read (length im) h T true us Ending.Tail))
    (sym (voided_append es f fs))
    (void_round f fs l row s t n rows k m))

-- a torn wrap, with eight FF at 0
void_wrap : {im : Image} {h : ℕ} {es : List Entry} {p : Bool} {b : ℕ} → h ≤ length im → Free im 0 8 → Row im (length im) false h es p b
    → Stop im (length im) p b Next.TornWrap → (floor h ≡ 0 → ⊥)
    → Done im (run im (torn_wrap_steps (Ending.TornWrap b))) h (read (length im) h 0 true es Ending.Tail)
void_wrap {im} {h} {es} {p} {b} l f row s n =
    let fin = row_end l row in
    let le = row_le row in
    let z = allowed_first p (next (part b (length im) im)) Next.TornWrap s (omega arith) in
    let v = marks_by im b (torn_at_is im b fin.1 z.1) in
    let left : Image = run im (torn_wrap_steps (Ending.TornWrap b)) in
    let r : Row left (length left) false h es p b =
    row_kept (omega arith) (omega (arith, fin.1, v.len)) (λ i a d. v.same i (inl d)) row in (
      v.len,
      reads_round {fs = []} {q = false} {T = 0} (subst (λ (t : Bool). Row left (length left) false h es t b) z.0 r)
          v.wrap turn_wrap n row_none
          (next_clear left 0 (floor h) (omega (arith, v.len)) (omega arith) (λ i a d. v.same i (inl (omega arith)) ∙ f i a d)) low_clear
          (ap₂ (λ (n : ℕ) (l : List Entry). read n h 0 true l Ending.Tail) (sym v.len) (sym (append-nil es))),
    )

-- every image that is read, after repair 3's steps
pub void_reads : {im : Image} {h : ℕ} {r : Reading} → h ≤ length im → ((b : ℕ) → r.ending ≡ Ending.TornWrap b → Free im 0 8) → Reads im h r
    → (length (run im (steps_3 im r)) ≡ length im) × Reads (run im (steps_3 im r)) h (voided_reading r)
void_reads {im} {h} {r} l f (reads_here {es = es} {T = T} row s m e) =
    subst (λ (z : Reading). Done im (run im (steps_3 im z)) h (voided_reading z)) (sym e)
    (subst (λ (ss : List Step). Done im (run im ss) h (read (length im) h T false (voided es) Ending.Tail))
    (sym (append-nil (last_steps im es)))
    (void_here es l row s m))
void_reads {im} {h} {r} l f (reads_round {es = es} {fs = fs} {T = T} row s t n rows k m e) =
    subst (λ (z : Reading). Done im (run im (steps_3 im z)) h (voided_reading z)) (sym e)
    (subst (λ (ss : List Step). Done im (run im ss) h (read (length im) h T true (voided (es ++ fs)) Ending.Tail))
    (sym (append-nil (last_steps im (es ++ fs))))
    (void_turned es fs l row s t n rows k m))
void_reads {im} {h} {r} l f (reads_torn {es = es} {p = p} {b = b} row s n e) =
    let z = allowed_first p (next (part b (length im) im)) Next.TornWrap s (omega arith) in
    let idle = row_idle es z.0 row in
    subst (λ (z : Reading). Done im (run im (steps_3 im z)) h (voided_reading z)) (sym e)
    (subst (λ (ss : List Step). Done im (run im (ss ++ torn_wrap_steps (Ending.TornWrap b))) h
    (read (length im) h 0 true (voided es) Ending.Tail)) (sym idle.0)
    (subst (λ (us : List Entry). Done im (run im (torn_wrap_steps (Ending.TornWrap b))) h (read (length im) h 0 true us Ending.Tail))
    (sym idle.1)
    (void_wrap l (f b (ap (λ (v : Reading). v.ending) e)) row s n)))
