-- The wrap marker of the image that a mount or a sweep leaves, from the marker of the first reading.
use Rattle.std.specs.Prelude.{ℕ, zero, suc, ◌+◌, ◌≤◌, ◌≡◌, true, false, length, leb}
use Rattle.std.proofs.Common.{arith, sym, ap, ap₂, ◌∙◌, subst}
use Rattle.std.proofs.Math.Path.{refl}
use Rattle.std.proofs.Math.Bool.{Bool}
use Rattle.std.proofs.lemmas.Bool.{false≢true}
use Rattle.std.proofs.Math.Option.{Option}
use mathlib.Core.List.{List, [], ◌∷◌}
use Rattle.spec.specs.declared.Ending.{Ending}
use Rattle.spec.specs.declared.Place.{Place}
use Rattle.spec.specs.Step.{Image, run}
use Rattle.spec.specs.Basics.{give}
use Rattle.spec.specs.Bytes.{is_erased, is_unfinished}
use Rattle.spec.specs.Record.{Entry, size}
use Rattle.spec.specs.Chain.{Reading}
use Rattle.spec.specs.Files.{live, superseded}
use Rattle.spec.specs.Reading.{marked, reading}
use Rattle.spec.specs.Geometry.{good_length}
use Rattle.spec.specs.Place.{fits}
use Rattle.spec.specs.Sweep.{no_room, stuck}
use Rattle.spec.specs.Space.{sizes}
use Rattle.laws.specs.Length.{Good, good}
use Rattle.laws.specs.Sweep.{room_on, room_live}
use Rattle.planning.specs.Planned.{led_place, with_status, with_low, copy_of, copied, after_copy, handed, moved_reading, start_if}
use Rattle.planning.specs.Planned.{void_by, voided}
use Rattle.planning.specs.Planned.{dropped, half_mended, mended_reading, move_steps}
use Rattle.planning.specs.First.{head_recordish, one_of, pair_of, reads_head}
use Rattle.planning.specs.Known.{accepted_known}
use Rattle.planning.specs.Half.{behind, behind_place, lowered, half}
use Rattle.planning.specs.Rivals.{dropped_is}
use Rattle.planning.specs.Rested.{Rested}
use Rattle.planning.specs.Moves.{after_a, First, first, Move, moved}
use Rattle.planning.specs.Space.{upper, marker_at, marker_told}
use Rattle.planning.specs.Spaces.{swept_reading}
use Rattle.planning.specs.Filed.{kept_yes, kept_no}
use Rattle.planning.specs.Markers.{Topped, reads_topped, told_turned, told_straight, put_marker, put_told, top_dropped}
use Rattle.planning.specs.LedMarkers.{led_marker, top_first, led_told}

-- the marker goes by the place and by the end of the records before the turn
marker_like : (p : Place) (es fs : List Entry) (e d : Ending) → sizes (upper p.head es) ≡ sizes (upper p.head fs)
    → marker_told (record { place = p; entries = es; ending = e }) ≡ marker_told (record { place = p; entries = fs; ending = d })
marker_like p es fs e d h = go p.turned refl where
  go : (t : Bool) → p.turned ≡ t
      → marker_told (record { place = p; entries = es; ending = e }) ≡ marker_told (record { place = p; entries = fs; ending = d })
  go true t = told_turned p es e t ∙ ap (λ (n : ℕ). marker_at p.length (p.head + n)) h ∙ sym (told_turned p fs d t)
  go false t = told_straight p es e t ∙ sym (told_straight p fs d t)

-- ---- mount

-- where repair 2 passes the first record
unfoldable pub mended_marker : List Entry → Option ℕ → Option ℕ
mended_marker [] m = m
mended_marker (x ∷ []) m = m
mended_marker (x ∷ (y ∷ es)) m = elim (marked y) [ true ↦ led_marker y.at m | false ↦ m ]

void_stands : (t u : Bool) (e : Entry) → ((void_by t u e).at ≡ e.at) × (size (void_by t u e) ≡ size e)
void_stands true u e = (refl, refl)
void_stands false true e = (refl, refl)
void_stands false false e = (refl, refl)

top_more : (h : ℕ) (e : Entry) (es fs : List Entry) → sizes (upper h es) ≡ sizes (upper h fs) → sizes (upper h (e ∷ es))
    ≡ sizes (upper h (e ∷ fs))
top_more h e es fs q = go (leb h e.at) refl where
  go : (t : Bool) → leb h e.at ≡ t → sizes (upper h (e ∷ es)) ≡ sizes (upper h (e ∷ fs))
  go true l = omega (arith, kept_yes (λ f. leb h f.at) e es l, kept_yes (λ f. leb h f.at) e fs l)
  go false l = omega (arith, kept_no (λ f. leb h f.at) e es l, kept_no (λ f. leb h f.at) e fs l)

top_voided : (h : ℕ) (es : List Entry) → sizes (upper h (voided es)) ≡ sizes (upper h es)
top_voided h [] = refl
top_voided h (e ∷ []) =
    let v = void_stands (is_erased e.it.status) (is_unfinished e.it.status) e in
    omega (arith, top_first h (void_by (is_erased e.it.status) (is_unfinished e.it.status) e) e [] v.0 v.1)
top_voided h (e ∷ (f ∷ es)) = top_more h e (voided (f ∷ es)) (f ∷ es) (top_voided h (f ∷ es))

start_stands : (t : Bool) (e : Entry) → ((start_if t e).at ≡ e.at) × (size (start_if t e) ≡ size e)
start_stands true e = (refl, refl)
start_stands false e = (refl, refl)

top_lowered : (h : ℕ) (t : Bool) (es : List Entry) → sizes (upper h (lowered t es)) ≡ sizes (upper h es)
top_lowered h t [] = refl
top_lowered h t (x ∷ es) = let v = start_stands t x in omega (arith, top_first h (start_if t x) x es v.0 v.1)

-- after repairs 3 and 4 as after 2
half_told : (r : Reading) → marker_told (mended_reading r) ≡ marker_told (half_mended r)
unfolding mended_reading
half_told r =
    let s : Reading = half_mended r in
    let h : ℕ = s.place.head in
    let vs : List Entry = voided s.entries in
    marker_like s.place (dropped vs vs) s.entries Ending.Tail s.ending
    (ap (λ (us : List Entry). sizes (upper h us)) (sym (dropped_is vs vs)) ∙ top_dropped (superseded vs) h vs ∙ top_voided h s.entries)

module _ (im : Image) (r : Reading) (n : good_length (length im) ≡ true) (e : reading im ≡ give r) where
  pub mount_marked : marker_told (mended_reading r) ≡ mended_marker r.entries (marker_told r)
  unfolding mended_marker behind behind_place
  mount_marked = half_told r ∙ go r.entries refl where
    t : Bool
    t = (half r).t

    by : (p : Place) (es : List Entry) → (half_mended r).place ≡ p → behind r.entries ≡ es
        → marker_told (half_mended r) ≡ marker_told (record { place = p; entries = lowered t es; ending = r.ending })
    by p es q b =
        ap₂ (λ (a : Place) (us : List Entry). marker_told (record { place = a; entries = us; ending = (half_mended r).ending })) q
        ((half r).entries ∙ ap (lowered t) b)
        ∙ marker_like p (lowered t es) (lowered t es) (half_mended r).ending r.ending refl

    stays : (half_mended r).place ≡ r.place → behind r.entries ≡ r.entries → marker_told (half_mended r) ≡ marker_told r
    stays q b =
        by r.place r.entries q b
        ∙ marker_like r.place (lowered t r.entries) r.entries r.ending r.ending (top_lowered r.place.head t r.entries)

    m : Option ℕ
    m = marker_told r

    kept : {es : List Entry} → r.entries ≡ es → behind_place r.place es ≡ r.place → behind es ≡ es → marker_told (half_mended r) ≡ m
    kept q a b = stays ((half r).place ∙ ap (behind_place r.place) q ∙ a) (ap behind q ∙ b ∙ sym q)

    pair : (x y : Entry) (us : List Entry) → r.entries ≡ x ∷ (y ∷ us) → (u : Bool) → marked y ≡ u
        → marker_told (half_mended r) ≡ elim u [ true ↦ led_marker y.at m | false ↦ m ]
    pair x y us q true k =
        let a = accepted_known im r e in
        let g : Good (length im) = good (length im) n in
        let z = start_stands t y in
        by (led_place r.place y.at) (y ∷ us) ((half r).place ∙ ap (behind_place r.place) q ∙ rw (behind_place, k))
        (ap behind q ∙ rw (behind, k))
        ∙ led_told im r.place.head x y us r.ending (start_if t y) z.0 z.1 (omega (arith, a.inside))
        (pair_of (one_of (head_recordish im r.place.head (omega (arith, a.inside, a.even, g.sectors)) a.low) a.reads q))
    pair x y us q false k = kept q (rw (behind_place, k)) (rw (behind, k))

    go : (es : List Entry) → r.entries ≡ es → marker_told (half_mended r) ≡ mended_marker r.entries m
    go [] q = kept q refl refl ∙ sym (ap (λ (us : List Entry). mended_marker us m) q)
    go (x ∷ []) q = kept q refl refl ∙ sym (ap (λ (us : List Entry). mended_marker us m) q)
    go (x ∷ (y ∷ us)) q = pair x y us q (marked y) refl ∙ sym (ap (λ (us : List Entry). mended_marker us m) q)

-- ---- a move

-- the copy may need one
unfoldable pub copied_marker : Place → List Entry → Option ℕ → Option ℕ
copied_marker p [] m = m
copied_marker p (x ∷ es) m = elim (live (x ∷ es) x) [ true ↦ put_marker p (size x) m | false ↦ m ]

-- and the head goes on
unfoldable pub handed_marker : List Entry → Option ℕ → Option ℕ
handed_marker [] m = m
handed_marker (x ∷ []) m = m
handed_marker (x ∷ (y ∷ es)) m = led_marker y.at m

abbrev pub moved_marker : Reading → Option ℕ → Option ℕ
moved_marker r m = handed_marker (copied r.place r.entries) (copied_marker r.place r.entries m)

-- at most k of them
unfoldable pub swept_marker : ℕ → Reading → Option ℕ → Option ℕ
swept_marker zero r m = m
swept_marker (suc k) r m = elim (stuck r) [ true ↦ m | false ↦ swept_marker k (moved_reading r) (moved_marker r m) ]

-- after (a)
module _ (im : Image) (r : Reading) (w : Rested im r) (n : stuck r ≡ false) where
  abbrev p : Place
  p = r.place

  abbrev m : Option ℕ
  m = marker_told r

  abbrev with_both : Place → List Entry → Reading
  with_both q us = record { place = q; entries = us; ending = Ending.Tail }

  tops : Topped p.length p.head p.tail p.turned r.entries
  tops =
      subst (λ (N : ℕ). Topped N p.head p.tail p.turned r.entries) (sym (reads_head w.reads).1)
      (reads_topped (omega (arith, w.inside)) w.reads w.tail)

  room : (x : Entry) (es : List Entry) → r.entries ≡ x ∷ es → live (x ∷ es) x ≡ true → fits p (size x) ≡ true
  room x es q l = go _ refl where
    go : (t : Bool) → fits p (size x) ≡ t → fits p (size x) ≡ true
    go true e = e
    go false e = absurd (false≢true (sym (sym (room_live r x es false l e) ∙ sym (ap (no_room r) q) ∙ room_on r n)))

  copied_told : marker_told (after_a r) ≡ copied_marker p r.entries m
  unfolding copied after_copy copied_marker
  copied_told = go r.entries refl where
    as_is : (es : List Entry) → r.entries ≡ es → marker_told (with_both p es) ≡ m
    as_is es q = marker_like p es r.entries Ending.Tail r.ending (ap (λ (us : List Entry). sizes (upper p.head us)) (sym q))

    first_by : (x : Entry) (es : List Entry) → r.entries ≡ x ∷ es → (t : Bool) → live (x ∷ es) x ≡ t
        → marker_told (with_both (after_copy p (x ∷ es)) (copied p (x ∷ es))) ≡ copied_marker p (x ∷ es) m
    first_by x es q true l =
        rw (copied, after_copy, copied_marker, l)
        (put_told p (x ∷ es) (with_status 0x00 x ∷ es) r.ending Ending.Tail (copy_of p x)
        (subst (Topped p.length p.head p.tail p.turned) q tops) (top_first p.head (with_status 0x00 x) x es refl refl) refl
        (room x es q l)
        ∙ ap (put_marker p (size x))
        (marker_like p (x ∷ es) r.entries r.ending r.ending (ap (λ (us : List Entry). sizes (upper p.head us)) (sym q))))
    first_by x es q false l = rw (copied, after_copy, copied_marker, l) (as_is (x ∷ es) q)

    go : (es : List Entry) → r.entries ≡ es → marker_told (after_a r) ≡ copied_marker p r.entries m
    go [] q =
        ap (λ (us : List Entry). marker_told (with_both (after_copy p us) (copied p us))) q ∙ as_is [] q
        ∙ sym (ap (λ (us : List Entry). copied_marker p us m) q)
    go (x ∷ es) q =
        ap (λ (us : List Entry). marker_told (with_both (after_copy p us) (copied p us))) q ∙ first_by x es q _ refl
        ∙ sym (ap (λ (us : List Entry). copied_marker p us m) q)

-- (b) to (f), of an image with a second record
handed_told : {im : Image} (q : Place) (us : List Entry) → Good (length im)
    → Rested im (record { place = q; entries = us; ending = Ending.Tail }) → 2 ≤ length us
    → marker_told (handed q us) ≡ handed_marker us (marker_told (record { place = q; entries = us; ending = Ending.Tail }))
unfolding handed handed_marker
handed_told q [] g w l = absurd (omega arith)
handed_told q (x ∷ []) g w l = absurd (omega arith)
handed_told {im} q (x ∷ (y ∷ es)) g w l =
    led_told im q.head x y es Ending.Tail (with_low 0x00 y) refl refl (omega (arith, w.inside))
    (pair_of (one_of (head_recordish im q.head (omega (arith, w.inside, w.even, g.sectors)) w.low) w.reads refl))

pub move_marked : (im : Image) → Good (length im) → (r : Reading) → Rested im r → stuck r ≡ false → marker_told (moved_reading r)
    ≡ moved_marker r (marker_told r)
move_marked im g r w n =
    let a : First im r = first im g r w n in
    handed_told (after_copy r.place r.entries) (copied r.place r.entries) (subst Good (sym a.len) g) a.rested a.two
    ∙ ap (handed_marker (copied r.place r.entries)) (copied_told im r w n)

-- ---- the sweep

pub sweep_marked : (k : ℕ) (im : Image) → Good (length im) → (r : Reading) → Rested im r → marker_told (swept_reading k r)
    ≡ swept_marker k r (marker_told r)
unfolding swept_reading swept_marker
sweep_marked zero im g r w = refl
sweep_marked (suc k) im g r w = go _ refl (sweep_marked k) where
  go : (t : Bool) → stuck r ≡ t
      → ((i : Image) → Good (length i) → (s : Reading) → Rested i s → marker_told (swept_reading k s) ≡ swept_marker k s (marker_told s))
      → marker_told (swept_reading (suc k) r) ≡ swept_marker (suc k) r (marker_told r)
  go true e ih = rw (swept_reading, swept_marker, e)
  go false e ih =
      let m : Move im r = moved im g r w e in
      rw (swept_reading, swept_marker, e)
      (ih (run im (move_steps r)) m.good (moved_reading r) m.rested ∙ ap (swept_marker k (moved_reading r)) (move_marked im g r w e))
