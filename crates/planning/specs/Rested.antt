-- A settled image by addresses (Rested): what is read from its head, with nothing unfinished, and the free run FF. It holds of every
-- settled image, not only of those of histories: nothing is said of padding, of what lies behind a marker, or of the bytes below the head
-- in its sector.
use Rattle.std.specs.Prelude.{ℕ, ◌%◌, ◌≤◌, ◌<◌, ◌≡◌, refl, Bool, true, false, ◌&&◌, not, List, [], ◌∷◌, ◌++◌, length, get_or, eqb, ltb}
use Rattle.std.proofs.Common.{arith, sym, ap, ◌∙◌, subst, ⊎_elim, append-nil, eqb-true, ltb-true, ltb-false}
use Rattle.std.proofs.lemmas.Bool.{false≢true, eqb-false}
use Rattle.spec.specs.declared.Next.{Next}
use Rattle.spec.specs.declared.Ending.{Ending}
use Rattle.spec.specs.declared.Place.{Place}
use Rattle.spec.specs.Step.{Image}
use Rattle.spec.specs.Basics.{give, empty, Each}
use Rattle.spec.specs.Geometry.{floor}
use Rattle.spec.specs.Bytes.{is_unfinished}
use Rattle.spec.specs.Record.{Entry, name_of}
use Rattle.spec.specs.Files.{named, live}
use Rattle.spec.specs.Chain.{Reading, read, reading_from}
use Rattle.spec.specs.Reading.{blank_part, free_blank, free_ok, head_clean}
use Rattle.spec.specs.Placed.{with_tail}
use Rattle.spec.specs.Door.{settled_reading}
use Rattle.laws.specs.Tests.{and_left, and_right}
use Rattle.laws.specs.Lists.{each_append}
use Rattle.laws.specs.Length.{Good}
use Rattle.laws.specs.Head.{Low}
use Rattle.laws.specs.Settled.{last_pending, last_open, wrap_torn}
use Rattle.planning.specs.Planned.{come_round}
use Rattle.planning.specs.Row.{Row, row_none, row_more, row_end}
use Rattle.planning.specs.Spots.{Free, blank_free}
use Rattle.planning.specs.Stops.{Stop, here_clear, here_over, Turns, turn_over, low_clear, low_over, stop_clear, free_stop}
use Rattle.planning.specs.Reads.{Reads, reads_here, reads_round, reads_torn, reads_reading}
use Rattle.planning.specs.First.{reads_head}
use Rattle.planning.specs.Known.{settled_known}
use Rattle.planning.specs.Kinds.{committed_finished, migrating_finished}
use Rattle.planning.specs.Places.{place_of, round_on, round_off}

-- ---- what it says

-- "Free run: before the turn [T, N) and [0, floor(h)), after it [T, floor(h))": FF
pub record FreeRun (im : Image) (p : Place) : Type 0 where
  pub above : p.turned ≡ false → Free im p.tail p.length
  pub below : p.turned ≡ false → Free im 0 (floor p.head)
  pub between : p.turned ≡ true → Free im p.tail (floor p.head)

-- r is read, nothing in it is unfinished, and the free run is FF
pub record Rested (im : Image) (r : Reading) : Type 0 where
  pub inside : r.place.head < length im
  pub even : r.place.head % 8 ≡ 0
  pub low : Low (get_or im r.place.head 0)
  pub reads : Reads im r.place.head r
  pub closed : last_open r.entries ≡ false
  pub tail : r.ending ≡ Ending.Tail
  pub free : FreeRun im r.place

-- read again from its head
pub rested_reading : {im : Image} {r : Reading} → Rested im r → reading_from im r.place.head ≡ r
rested_reading w = reads_reading (omega (arith, w.inside)) w.reads

-- ---- before the turn, or after it

pub run_straight : {im : Image} (p : Place) → p.turned ≡ false → Free im p.tail p.length → Free im 0 (floor p.head)
    → FreeRun im p
run_straight p t a b = record { above = λ e. a; below = λ e. b; between = λ e. absurd (false≢true (sym t ∙ e)) }

pub run_turned : {im : Image} (p : Place) → p.turned ≡ true → Free im p.tail (floor p.head) → FreeRun im p
run_turned p t f = record { above = λ e. absurd (false≢true (sym e ∙ t)); below = λ e. absurd (false≢true (sym e ∙ t)); between = λ e. f }

-- a place that may have come round
pub run_round : {im : Image} (p : Place) → p.turned ≡ false → Free im p.tail p.length → Free im 0 (floor p.head)
    → FreeRun im (come_round p)
run_round {im} p t above below = go _ _ refl refl where
  stays : (p.tail ≡ p.length → floor p.head ≡ 0) → FreeRun im (come_round p)
  stays f = subst (FreeRun im) (sym (round_off p t f)) (run_straight p t above below)

  go : (a b : Bool) → eqb p.tail p.length ≡ a → ltb 0 (floor p.head) ≡ b → FreeRun im (come_round p)
  go false b e f = stays (λ z. absurd (eqb-false p.tail p.length e z))
  go true false e f = stays (λ z. omega (arith, ltb-false 0 (floor p.head) f))
  go true true e f =
      subst (FreeRun im) (sym (round_on p t (eqb-true p.tail p.length e) (ltb-true 0 (floor p.head) f)))
      (run_turned (with_tail p 0 true) refl below)

-- ---- a row up to a free run is read

-- records are words
pub row_words : {im : Image} {lim : ℕ} {o : Bool} {a : ℕ} {es : List Entry} {p : Bool} {b : ℕ} → a % 8 ≡ 0 → Row im lim o a es p b
    → b % 8 ≡ 0
row_words h row_none = h
row_words h (row_more e q w r) = row_words (omega arith) r

module _ {im : Image} {h : ℕ} {es : List Entry} (g : Good (length im)) (l : h < length im) (even : h % 8 ≡ 0) where
  -- before the turn; at N it comes round
  pub straight_reads : {T : ℕ} → Row im (length im) false h es false T → Free im 0 (floor h) → Free im T (length im)
      → Reads im h (record { place = come_round (place_of (length im) h T false); entries = es; ending = Ending.Tail })
  straight_reads {T} row below free =
      ⊎_elim
      (λ (z : (T ≡ length im) × Stop im (length im) false T Next.Over). at_end z.0 z.1 (ltb 0 (floor h)) refl)
      (λ (z : (T < length im) × Stop im (length im) false T Next.Clear).
      reads_here row z.1 here_clear (stays (λ q. absurd (omega (arith, z.0)))))
      (free_stop im false T (length im) (omega arith) (row_end (omega arith) row).1 (row_words even row)
      (omega (arith, g.sectors)) free) where
        with_place : Place → Reading
        with_place p = record { place = p; entries = es; ending = Ending.Tail }

        stays : (T ≡ length im → floor h ≡ 0)
            → with_place (come_round (place_of (length im) h T false)) ≡ read (length im) h T false es Ending.Tail
        stays f = ap with_place (round_off (place_of (length im) h T false) refl f)

        at_end : T ≡ length im → Stop im (length im) false T Next.Over → (t : Bool) → ltb 0 (floor h) ≡ t
            → Reads im h (with_place (come_round (place_of (length im) h T false)))
        at_end q s false e = let n : floor h ≡ 0 = omega (arith, ltb-false 0 (floor h) e) in reads_here row s (here_over n) (stays (λ z. n))
        at_end q s true e =
            let n : 0 < floor h = ltb-true 0 (floor h) e in
            reads_round {fs = []} {q = false} {T = 0} row s turn_over (λ z. omega arith) row_none
            (stop_clear im false 0 (floor h) (omega arith) (omega arith) (λ i a b. below i a (omega arith))) low_clear
            (ap with_place (round_on (place_of (length im) h T false) refl q n)
            ∙ ap (λ (us : List Entry). read (length im) h 0 true us Ending.Tail) (sym (append-nil es)))

  -- after it
  pub turned_reads : {b T : ℕ} {fs : List Entry} {x : Next} → Row im (length im) false h es false b → Stop im (length im) false b x
      → Turns x
      → (floor h ≡ 0 → ⊥) → Row im (floor h) false 0 fs false T → Free im T (floor h)
      → Reads im h (read (length im) h T true (es ++ fs) Ending.Tail)
  turned_reads {b} {T} row s t n rows free =
      ⊎_elim
      (λ (z : (T ≡ floor h) × Stop im (floor h) false T Next.Over). reads_round row s t n rows z.1 low_over refl)
      (λ (z : (T < floor h) × Stop im (floor h) false T Next.Clear). reads_round row s t n rows z.1 low_clear refl)
      (free_stop im false T (floor h) (omega arith) (row_end (omega arith) rows).1 (row_words refl rows) (omega arith) free)

-- ---- nothing is unfinished

-- whether the last of es is unfinished; o: what stands before them
abbrev ends_open : Bool → List Entry → Bool
ends_open o [] = o
ends_open o (e ∷ es) = ends_open (is_unfinished e.it.status) es

row_open : {im : Image} {lim : ℕ} {o : Bool} {a : ℕ} {es : List Entry} {p : Bool} {b : ℕ} → Row im lim o a es p b → p ≡ ends_open o es
row_open row_none = refl
row_open (row_more e q w r) = row_open r

open_append : (o : Bool) (es fs : List Entry) → ends_open o (es ++ fs) ≡ ends_open (ends_open o es) fs
open_append o [] fs = refl
open_append o (e ∷ es) fs = open_append (is_unfinished e.it.status) es fs

last_is : (e : Entry) (es : List Entry) → last_pending e es ≡ ends_open (is_unfinished e.it.status) es
last_is e [] = refl
last_is e (f ∷ es) = last_is f es

open_is : (es : List Entry) → last_open es ≡ ends_open false es
open_is [] = refl
open_is (e ∷ es) = last_is e es

-- nothing unfinished stands before a row at whose end nothing does
pending_first : {im : Image} {lim : ℕ} {o p : Bool} {a b : ℕ} {es : List Entry} → p ≡ false → Row im lim o a es p b → o ≡ false
pending_first h row_none = h
pending_first h (row_more e f w r) = refl

-- at the end of one row, or of two
pub row_closed : {im : Image} {lim a b : ℕ} {es : List Entry} {p : Bool} → Row im lim false a es p b → last_open es ≡ false → p ≡ false
row_closed {es = es} row c = row_open row ∙ sym (open_is es) ∙ c

pub rows_closed : {im : Image} {lim lim' a b a' b' : ℕ} {es fs : List Entry} {p q : Bool} → Row im lim false a es p b
    → Row im lim' p a' fs q b'
    → last_open (es ++ fs) ≡ false → (p ≡ false) × (q ≡ false)
rows_closed {es = es} {fs = fs} {q = q} row rows c =
    let z : q ≡ false =
    row_open rows ∙ ap (λ (t : Bool). ends_open t fs) (row_open row) ∙ sym (open_append false es fs) ∙ sym (open_is (es ++ fs)) ∙ c in
    (pending_first z rows, z)

-- so every record is finished
abbrev pub Finished : Entry → Type 0
Finished e = is_unfinished e.it.status ≡ false

row_finished : {im : Image} {lim : ℕ} {o p : Bool} {a b : ℕ} {es : List Entry} → p ≡ false → Row im lim o a es p b → Each Finished es
row_finished h row_none = tt
row_finished h (row_more e f w r) = (pending_first h r, row_finished h r)

pub reads_finished : {im : Image} {h : ℕ} {r : Reading} → Reads im h r → last_open r.entries ≡ false → Each Finished r.entries
reads_finished (reads_here row s m e) c =
    subst (λ (z : Reading). Each Finished z.entries) (sym e)
    (row_finished (row_closed row (sym (ap (λ (z : Reading). last_open z.entries) e) ∙ c)) row)
reads_finished (reads_torn row s n e) c =
    subst (λ (z : Reading). Each Finished z.entries) (sym e)
    (row_finished (row_closed row (sym (ap (λ (z : Reading). last_open z.entries) e) ∙ c)) row)
reads_finished (reads_round {es = es} {fs = fs} row s t n rows k m e) c =
    let z = rows_closed row rows (sym (ap (λ (z : Reading). last_open z.entries) e) ∙ c) in
    subst (λ (z : Reading). Each Finished z.entries) (sym e)
    (each_append Finished es fs (row_finished z.0 row) (row_finished z.1 rows))

-- and so is a live one
named_finished : (st : ℕ) (e : Entry) → is_unfinished st ≡ false → named st e ≡ true → Finished e
unfolding named
named_finished st e f h = ap is_unfinished (eqb-true e.it.status st (and_left (eqb e.it.status st) (not (empty (name_of e))) h)) ∙ f

pub live_finished : (es : List Entry) (e : Entry) → live es e ≡ true → Finished e
unfolding live
live_finished es e h = go _ refl _ refl where
  go : (a : Bool) → named 0xFC e ≡ a → (b : Bool) → named 0xF8 e ≡ b → Finished e
  go true p b q = named_finished 0xFC e committed_finished p
  go false p true q = named_finished 0xF8 e migrating_finished q
  go false p false q = absurd (false≢true (rw (live, p, q) at h))

-- ---- every settled image is a rested one

reads_tail : {im : Image} {h : ℕ} {r : Reading} → Reads im h r → wrap_torn r.ending ≡ false → r.ending ≡ Ending.Tail
reads_tail (reads_here row s m e) c = ap (λ (z : Reading). z.ending) e
reads_tail (reads_round row s t n rows k m e) c = ap (λ (z : Reading). z.ending) e
reads_tail (reads_torn row s n e) c = absurd (false≢true (sym c ∙ ap (λ (z : Reading). wrap_torn z.ending) e))

free_of : (im : Image) (p : Place) → floor p.head ≤ length im → p.length ≤ length im → free_blank im p ≡ true → FreeRun im p
unfolding free_blank
free_of im p l n e = go p.turned refl where
  go : (t : Bool) → p.turned ≡ t → FreeRun im p
  go true t = run_turned p t (blank_free im p.tail (floor p.head) l (rw (free_blank, t) at e))
  go false t =
      let b : (blank_part 0 (floor p.head) im && blank_part p.tail p.length im) ≡ true = rw (free_blank, t) at e in
      run_straight p t
      (blank_free im p.tail p.length n (and_right (blank_part 0 (floor p.head) im) (blank_part p.tail p.length im) b))
      (blank_free im 0 (floor p.head) l (and_left (blank_part 0 (floor p.head) im) (blank_part p.tail p.length im) b))

free_started : (im : Image) (r : Reading) → head_clean r.entries ≡ false → free_ok im r ≡ true → free_blank im r.place ≡ true
unfolding free_ok
free_started im r h e = rw (free_ok, h) at e

pub settled_rested : (im : Image) (r : Reading) → settled_reading im ≡ give r → Rested im r
settled_rested im r e =
    let s = settled_known im r e in
    let a = s.0 in
    let c = s.1 in
    record {
      inside = a.inside;
      even = a.even;
      low = a.low;
      reads = a.reads;
      closed = c.closed;
      tail = reads_tail a.reads c.unwrapped;
      free =
          free_of im r.place (omega (arith, a.inside)) (omega (arith, (reads_head a.reads).1))
          (free_started im r c.started a.free);
    }
