-- The wrap marker of the image that a call leaves, from the marker of the first reading: a put or a copy may write one, the head passes one
-- on its way to 0, and a torn wrap becomes one.
use Rattle.std.specs.Prelude.{ℕ, ◌+◌, ◌≤◌, ◌<◌, ◌≡◌, Bool, List, [], ◌∷◌, ◌++◌, map, length, eqb, leb, ltb}
use Rattle.std.proofs.Common.{arith, ◌∙◌, subst, append-nil, eqb-true, le-leb, le-ltb, lt-ltb, ltb-true, ltb-false}
use Rattle.std.proofs.Math.Path.{refl, sym, ap}
use Rattle.std.proofs.Math.Bool.{true, false}
use Rattle.std.proofs.lemmas.Bool.{false≢true, eqb-false, lt-leb}
use Rattle.std.proofs.Math.Option.{Option, none, some}
use Rattle.spec.specs.declared.Ending.{Ending}
use Rattle.spec.specs.declared.Place.{Place}
use Rattle.spec.specs.Step.{Image}
use Rattle.spec.specs.Geometry.{floor}
use Rattle.spec.specs.Record.{size_of, Entry, size}
use Rattle.spec.specs.Chain.{Reading}
use Rattle.spec.specs.Files.{file_named}
use Rattle.spec.specs.Reading.{limit}
use Rattle.spec.specs.Place.{fits_at_tail, fits, address, with_marker}
use Rattle.spec.specs.Placed.{with_tail}
use Rattle.spec.specs.Space.{sizes}
use Rattle.planning.specs.Planned.{come_round, copied_place, with_status, dead_if}
use Rattle.planning.specs.Row.{Row, row_end}
use Rattle.planning.specs.Reads.{Reads, reads_here, reads_round, reads_torn}
use Rattle.planning.specs.Places.{place_of, round_on, round_off, round_turned, tail_address, tail_unmarked, tail_after, tail_room}
use Rattle.planning.specs.Places.{zero_address, zero_marked, zero_turned, zero_after}
use Rattle.planning.specs.Dropped.{drop_if}
use Rattle.planning.specs.First.{reads_head}
use Rattle.planning.specs.Rested.{Rested}
use Rattle.planning.specs.PutRested.{stands_at}
use Rattle.planning.specs.Puts.{old_at, new_record, put_left}
use Rattle.planning.specs.Filed.{kept_yes, kept_no, kept_both}
use Rattle.planning.specs.Space.{upper, marker_at, marker_told, row_upper, row_sizes}

-- ---- where the records before the turn end

-- of the records es, read from the head h on
abbrev pub top : ℕ → List Entry → ℕ
top h es = h + sizes (upper h es)

-- what a reading without a torn wrap says of it
pub record Topped (N h T : ℕ) (turned : Bool) (es : List Entry) : Type 0 where
  pub straight : turned ≡ false → top h es ≡ T
  pub round : turned ≡ true → (T ≤ floor h) × (floor h ≡ 0 → ⊥)
  pub inside : T ≤ N

pub row_top : {im : Image} {lim : ℕ} {h : ℕ} {o : Bool} {es : List Entry} {p : Bool} {b : ℕ} → Row im lim o h es p b → top h es ≡ b
row_top {h = h} {es = es} row =
    ap (λ (us : List Entry). top h us) (sym (append-nil es)) ∙ omega (arith, row_upper h [] (omega arith) row, row_sizes row)

limit_turned : (p : Place) → p.turned ≡ true → limit p ≡ floor p.head
limit_turned p t = ap (λ (b : Bool). elim b [ true ↦ floor p.head | false ↦ p.length ]) t

limit_straight : (p : Place) → p.turned ≡ false → limit p ≡ p.length
limit_straight p t = ap (λ (b : Bool). elim b [ true ↦ floor p.head | false ↦ p.length ]) t

pub reads_topped : {im : Image} {h : ℕ} {r : Reading} → h ≤ length im → Reads im h r → r.ending ≡ Ending.Tail
    → Topped (length im) h r.place.tail r.place.turned r.entries
reads_topped {im} {h} l (reads_here {es = es} {T = T} row s m e) t =
    subst (λ (z : Reading). Topped (length im) h z.place.tail z.place.turned z.entries) (sym e)
    (record { straight = λ z. row_top row; round = λ z. absurd (false≢true z); inside = (row_end l row).1 })
reads_topped {im} {h} l (reads_round row s t n rows k m e) z =
    let end = row_end (omega arith) rows in
    subst (λ (z : Reading). Topped (length im) h z.place.tail z.place.turned z.entries) (sym e)
    (record { straight = λ z. absurd (false≢true (sym z)); round = λ z. (end.1, n); inside = omega (arith, end.1) })
reads_topped l (reads_torn row s n e) t = absurd (torn_not (sym t ∙ ap (λ (z : Reading). z.ending) e)) where
  torn_not : {b : ℕ} → Ending.Tail ≡ Ending.TornWrap b → ⊥
  torn_not z = let y : ◌≡◌ {A = ℕ} 0 1 = cc in omega arith

-- ---- a record more

-- the marker after a record of size s, where m was the one before
unfoldable pub put_marker : Place → ℕ → Option ℕ → Option ℕ
put_marker p s m = elim (with_marker p s) [ true ↦ some p.tail | false ↦ m ]

pub marker_end : (N b : ℕ) → N ≤ b → marker_at N b ≡ none
unfolding marker_at
marker_end N b h = rw (marker_at, le-ltb b N h)

marker_before : (N b : ℕ) → b < N → marker_at N b ≡ some b
unfolding marker_at
marker_before N b h = rw (marker_at, lt-ltb b N h)

pub told_turned : (p : Place) (es : List Entry) (e : Ending) → p.turned ≡ true
    → marker_told (record { place = p; entries = es; ending = e }) ≡ marker_at p.length (top p.head es)
unfolding marker_told
told_turned p es e t = rw (marker_told, t)

pub told_straight : (p : Place) (es : List Entry) (e : Ending) → p.turned ≡ false
    → marker_told (record { place = p; entries = es; ending = e }) ≡ none
unfolding marker_told
told_straight p es e t = rw (marker_told, t)

-- a last record above the head, or below it
top_above : (h : ℕ) (es : List Entry) (c : Entry) → h ≤ c.at → top h (es ++ (c ∷ [])) ≡ top h es + size c
top_above h es c l =
    omega (arith, kept_both (λ e. leb h e.at) es (c ∷ []), kept_yes (λ e. leb h e.at) c [] (le-leb h c.at l))

top_below : (h : ℕ) (es : List Entry) (c : Entry) → c.at < h → top h (es ++ (c ∷ [])) ≡ top h es
top_below h es c l =
    omega (arith, kept_both (λ e. leb h e.at) es (c ∷ []), kept_no (λ e. leb h e.at) c [] (lt-leb h c.at l))

module _ (p : Place) (es fs : List Entry) (e d : Ending) (c : Entry) (w : Topped p.length p.head p.tail p.turned es)
    (same : top p.head fs ≡ top p.head es) (at : c.at ≡ address p (size c)) (k : fits p (size c) ≡ true) where
  abbrev s : ℕ
  s = size c

  abbrev h : ℕ
  h = p.head

  abbrev N : ℕ
  N = p.length

  abbrev T : ℕ
  T = p.tail

  abbrev before : Reading
  before = record { place = p; entries = es; ending = e }

  abbrev with_place : Place → Reading
  with_place q = record { place = q; entries = fs ++ (c ∷ []); ending = d }

  abbrev after : Reading
  after = with_place (copied_place p s)

  unmarked : with_marker p s ≡ false → put_marker p s (marker_told before) ≡ marker_told before
  unfolding put_marker
  unmarked q = rw (put_marker, q)

  -- after the turn
  round_case : p.turned ≡ true → fits_at_tail p s ≡ true → marker_told after ≡ put_marker p s (marker_told before)
  unfolding copied_place
  round_case t f =
      let room : T + s ≤ limit p = tail_room p s f in
      let is : limit p ≡ floor h = limit_turned p t in
      let q : copied_place p s ≡ place_of N h (T + s) true =
      ap come_round (tail_after p s f ∙ ap (place_of N h (T + s)) t) ∙ round_turned (place_of N h (T + s) true) refl in
      ap (λ (z : Place). marker_told (with_place z)) q ∙ told_turned (place_of N h (T + s) true) (fs ++ (c ∷ [])) d refl
      ∙ ap (marker_at N) (top_below h fs c (omega (arith, at, tail_address p s f, room, is)) ∙ same)
      ∙ sym (told_turned p es e t) ∙ sym (unmarked (tail_unmarked p s f))

  -- before it, at the tail
  tail_case : p.turned ≡ false → fits_at_tail p s ≡ true → marker_told after ≡ put_marker p s (marker_told before)
  unfolding copied_place
  tail_case t f = go _ refl _ refl where
    q : Place
    q = place_of N h (T + s) false

    is : copied_place p s ≡ come_round q
    is = ap come_round (tail_after p s f ∙ ap (place_of N h (T + s)) t)

    plain : put_marker p s (marker_told before) ≡ none
    plain = unmarked (tail_unmarked p s f) ∙ told_straight p es e t

    stays : (T + s ≡ N → floor h ≡ 0) → marker_told after ≡ put_marker p s (marker_told before)
    stays z =
        ap (λ (a : Place). marker_told (with_place a)) (is ∙ round_off q refl z) ∙ told_straight q (fs ++ (c ∷ [])) d refl ∙ sym plain

    go : (a : Bool) → eqb (T + s) N ≡ a → (b : Bool) → ltb 0 (floor h) ≡ b → marker_told after ≡ put_marker p s (marker_told before)
    go false a b z = stays (λ y. absurd (eqb-false (T + s) N a y))
    go true a false z = stays (λ y. omega (arith, ltb-false 0 (floor h) z))
    go true a true z =
        let end : T + s ≡ N = eqb-true (T + s) N a in
        let low : h ≤ T = omega (arith, w.straight t) in
        ap (λ (a : Place). marker_told (with_place a)) (is ∙ round_on q refl end (ltb-true 0 (floor h) z))
        ∙ told_turned (with_tail q 0 true) (fs ++ (c ∷ [])) d refl
        ∙ marker_end N (top h (fs ++ (c ∷ [])))
        (omega (arith, top_above h fs c (omega (arith, at, tail_address p s f, low)), same, w.straight t))
        ∙ sym plain

  -- before it, at 0
  zero_case : p.turned ≡ false → fits_at_tail p s ≡ false → marker_told after ≡ put_marker p s (marker_told before)
  unfolding copied_place put_marker with_marker
  zero_case t f = is ∙ go _ refl where
    small : s ≤ floor h
    small = (zero_turned p s f k _ refl).1

    q : copied_place p s ≡ place_of N h (0 + s) true
    q = ap come_round (zero_after p s f k) ∙ round_turned (place_of N h (0 + s) true) refl

    is : marker_told after ≡ marker_at N T
    is =
        ap (λ (a : Place). marker_told (with_place a)) q ∙ told_turned (place_of N h (0 + s) true) (fs ++ (c ∷ [])) d refl
        ∙ ap (marker_at N) (top_below h fs c (omega (arith, at, zero_address p s f k, small)) ∙ same ∙ w.straight t)

    go : (a : Bool) → ltb T N ≡ a → marker_at N T ≡ put_marker p s (marker_told before)
    go true a = marker_before N T (ltb-true T N a) ∙ sym (rw (put_marker, zero_marked p s f k (ltb-true T N a)))
    go false a =
        marker_end N T (ltb-false T N a)
        ∙ sym (unmarked (rw (with_marker, f, a)) ∙ told_straight p es e t)

  -- in all cases
  pub put_told : marker_told after ≡ put_marker p s (marker_told before)
  put_told = go _ refl _ refl where
    go : (a : Bool) → p.turned ≡ a → (b : Bool) → fits_at_tail p s ≡ b → marker_told after ≡ put_marker p s (marker_told before)
    go true a true b = round_case a b
    go true a false b = absurd (false≢true (sym (zero_turned p s b k _ refl).0 ∙ a))
    go false a true b = tail_case a b
    go false a false b = zero_case a b

-- ---- the call put

-- a dead record stands where it stood
pub top_dropped : (q : Entry → Bool) (h : ℕ) (es : List Entry) → sizes (upper h (map (drop_if q) es)) ≡ sizes (upper h es)
top_dropped q h [] = refl
top_dropped q h (e ∷ es) = go (q e) (leb h e.at) refl (top_dropped q h es) where
  go : (t u : Bool) → leb h e.at ≡ u → sizes (upper h (map (drop_if q) es)) ≡ sizes (upper h es)
      → sizes (upper h (dead_if t e ∷ map (drop_if q) es)) ≡ sizes (upper h (e ∷ es))
  go true true l ih =
      kept_yes (λ f. leb h f.at) (with_status 0x00 e) (map (drop_if q) es) l ∙ ap (λ (n : ℕ). size e + n) ih
      ∙ sym (kept_yes (λ f. leb h f.at) e es l)
  go true false l ih = kept_no (λ f. leb h f.at) (with_status 0x00 e) (map (drop_if q) es) l ∙ ih
      ∙ sym (kept_no (λ f. leb h f.at) e es l)
  go false true l ih =
      kept_yes (λ f. leb h f.at) e (map (drop_if q) es) l ∙ ap (λ (n : ℕ). size e + n) ih ∙ sym (kept_yes (λ f. leb h f.at) e es l)
  go false false l ih = kept_no (λ f. leb h f.at) e (map (drop_if q) es) l ∙ ih ∙ sym (kept_no (λ f. leb h f.at) e es l)

-- the marker after a put, on a settled image
pub put_marked : {im : Image} {r : Reading} (name content : List ℕ) → Rested im r
    → fits r.place (size_of (length name) (length content)) ≡ true
    → marker_told (put_left name content r) ≡ put_marker r.place (size_of (length name) (length content)) (marker_told r)
put_marked {im} {r} name content w k =
    let p : Place = r.place in
    let c : Entry = new_record p name content in
    let q : Entry → Bool = stands_at (old_at (file_named name r.entries) p.length) in
    let tops : Topped p.length p.head p.tail p.turned r.entries =
    subst (λ (N : ℕ). Topped N p.head p.tail p.turned r.entries) (sym (reads_head w.reads).1)
    (reads_topped (omega (arith, w.inside)) w.reads w.tail) in
    put_told p r.entries (map (drop_if q) r.entries) r.ending Ending.Tail c tops
    (ap (λ (n : ℕ). p.head + n) (top_dropped q p.head r.entries)) refl k
