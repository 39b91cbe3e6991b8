-- Where a new record goes on a settled image there is FF, and where its marker goes too; so the steps of put and of a copy only clear bits.
use Rattle.std.specs.Prelude.{ℕ, ◌+◌, ◌%◌, ◌≤◌, ◌<◌, ◌≡◌, Bool, true, false, not, List, [], ◌∷◌, ◌++◌, get_or, set, eqb, ltb}
use Rattle.std.proofs.Common.{arith, sym, ap, ◌∙◌, subst, inl, length-set, get_or-set_other}
use Rattle.std.proofs.Math.Path.{refl}
use Rattle.std.proofs.lemmas.Bool.{false≢true}
use Rattle.std.proofs.Math.Option.{Option, none, some}
use Rattle.std.proofs.Math.ListN.{length}
use borrow.Author.Tests.{eqb-true, eqb-false, ltb-true}
use Rattle.spec.specs.declared.Place.{Place}
use Rattle.spec.specs.Step.{Image, Step, program, run, shifted}
use Rattle.spec.specs.Basics.{part, Each}
use Rattle.spec.specs.Geometry.{floor}
use Rattle.spec.specs.Bytes.{is_committed}
use Rattle.spec.specs.Record.{size_of, Entry}
use Rattle.spec.specs.Next.{next}
use Rattle.spec.specs.Chain.{Reading}
use Rattle.spec.specs.Place.{fits_at_tail, fits, address, with_marker}
use Rattle.spec.specs.Demand.{StepsSound}
use Rattle.spec.specs.Write.{migrate_steps, delete_steps, marker_steps, record_steps, turn_steps, put_steps}
use Rattle.laws.specs.Tests.{not_both, and_right}
use Rattle.laws.specs.Length.{Good}
use Rattle.planning.specs.Kinds.{Recordish}
use Rattle.planning.specs.Row.{row_end}
use Rattle.planning.specs.Spots.{Free}
use Rattle.planning.specs.Stops.{here_tag}
use Rattle.planning.specs.Reads.{Reads, reads_here, reads_round, reads_torn}
use Rattle.planning.specs.First.{head_recordish, reads_head, filled}
use Rattle.planning.specs.Places.{tail_address, tail_unmarked, tail_room, zero_address, zero_turned}
use Rattle.planning.specs.Rested.{Rested, row_words}
use Rattle.planning.specs.Effect.{run_length, untouched_run}
use Rattle.laws.specs.Steps.{sound_append}
use Rattle.planning.specs.Copy.{record_bounded, bounded_shifted, marker_off}
use Rattle.replay.specs.Record.{zero_sound, known_sound, blank_sound, record_sound}

-- ---- the tail before the turn

tail_here : {im : Image} {h : ℕ} {r : Reading} → h ≤ length im → h % 8 ≡ 0 → Recordish (next (part h (length im) im)) → Reads im h r
    → r.place.turned ≡ false → (h < r.place.tail) × (r.place.tail ≤ length im) × (r.place.tail % 8 ≡ 0)
tail_here l even ish (reads_here {es = []} row s m e) t = filled ish row s (omega (arith, (here_tag m).0)) (here_tag m).1
tail_here l even ish (reads_here {es = x ∷ es} {T = T} row s m e) t =
    let fin = row_end l row in
    let q = ap (λ (z : Reading). z.place.tail) e in
    (omega (arith, fin.0, q), omega (arith, fin.1, q), ap (λ (k : ℕ). k % 8) q ∙ row_words even row)
tail_here l even ish (reads_round row s u n rows k m e) t = absurd (false≢true (sym t ∙ ap (λ (z : Reading). z.place.turned) e))
tail_here l even ish (reads_torn row s n e) t = absurd (false≢true (sym t ∙ ap (λ (z : Reading). z.place.turned) e))

-- ---- where a size goes

pub record Spot (im : Image) (p : Place) (z : ℕ) : Type 0 where
  pub inside : address p z + z ≤ length im
  pub free : Free im (address p z) (address p z + z)
  pub marker : with_marker p z ≡ true → (p.tail + 8 ≤ length im) × Free im p.tail (p.tail + 8) × (address p z + z ≤ p.tail)

module _ (im : Image) (g : Good (length im)) {r : Reading} (w : Rested im r) (z : ℕ) where
  abbrev p : Place
  p = r.place

  whole : p.length ≡ length im
  whole = (reads_head w.reads).1

  tail_spot : fits_at_tail p z ≡ true → Spot im p z
  tail_spot e = go p.turned refl where
    at : address p z ≡ p.tail
    at = tail_address p z e

    spot : p.tail + z ≤ length im → Free im p.tail (p.tail + z) → Spot im p z
    spot l f =
        record {
          inside = omega (arith, at);
          free = λ i u v. f i (omega (arith, at)) (omega (arith, at));
          marker = λ m. absurd (not_both (with_marker p z) (tail_unmarked p z e) m);
        }

    room : (t : Bool) → p.turned ≡ t → p.tail + z ≤ elim t [ true ↦ floor p.head | false ↦ p.length ]
    room t q = subst (λ (u : Bool). p.tail + z ≤ elim u [ true ↦ floor p.head | false ↦ p.length ]) q (tail_room p z e)

    go : (t : Bool) → p.turned ≡ t → Spot im p z
    go true q =
        let k = room true q in
        spot (omega (arith, k, w.inside)) (λ i u v. w.free.between q i u (omega (arith, k)))
    go false q =
        let k = room false q in
        spot (omega (arith, k, whole)) (λ i u v. w.free.above q i u (omega (arith, k)))

  zero_spot : fits_at_tail p z ≡ false → fits p z ≡ true → Spot im p z
  unfolding with_marker
  zero_spot e k =
      let at : address p z ≡ 0 = zero_address p z e k in
      let t = zero_turned p z e k _ refl in
      let ish = head_recordish im p.head (omega (arith, w.inside, w.even, g.sectors)) w.low in
      let tail = tail_here (omega (arith, w.inside)) w.even ish w.reads t.0 in
      record {
        inside = omega (arith, at, t.1, w.inside);
        free = λ i u v. w.free.below t.0 i (omega arith) (omega (arith, at, t.1));
        marker =
            λ m.
            let lt : p.tail < p.length =
            ltb-true p.tail p.length (and_right (not (fits_at_tail p z)) (ltb p.tail p.length) m) in (
              omega (arith, lt, whole, tail.2, g.sectors),
              λ i u v. w.free.above t.0 i u (omega (arith, lt, whole, tail.2, g.sectors)),
              omega (arith, at, t.1, tail.0),
            );
      }

  pub spot_of : fits p z ≡ true → Spot im p z
  spot_of k = go _ refl where
    go : (t : Bool) → fits_at_tail p z ≡ t → Spot im p z
    go true e = tail_spot e
    go false e = zero_spot e k

-- ---- the marker

marker_sound : (im : Image) (T : ℕ) → T + 8 ≤ length im → Free im T (T + 8) → StepsSound im (shifted T marker_steps)
marker_sound im T l f =
    let one : Image = set im (T + 0) 0xFA in
    let two : Image = set one (T + 1) 0x5A in
    let l-1 : length one ≡ length im = length-set im (T + 0) 0xFA in
    let l-2 : length two ≡ length im = length-set one (T + 1) 0x5A ∙ l-1 in (
      blank_sound im (T + 0) 0xFA (omega arith) (f (T + 0) (omega arith) (omega arith)) (omega arith),
      (
        blank_sound one (T + 1) 0x5A (omega arith)
            (get_or-set_other im (T + 0) (T + 1) 0xFA 0 (λ q. omega arith) ∙ f (T + 1) (omega arith) (omega arith)) (omega arith),
        (
          blank_sound two (T + 2) 0xF0 (omega arith)
              (get_or-set_other one (T + 1) (T + 2) 0x5A 0 (λ q. omega arith) ∙ get_or-set_other im (T + 0) (T + 2) 0xFA 0 (λ q. omega arith)
              ∙ f (T + 2) (omega arith) (omega arith)) (omega arith),
          tt,
        ),
      ),
    )

-- ---- put and copy

-- the record that is replaced, if there is one, stands in the image
abbrev pub StandsIn : Image → Option Entry → Type 0
StandsIn im none = Unit {0}
StandsIn im (some e) = (e.at + 2 < length im) × (get_or im (e.at + 2) 0 ≡ e.it.status)

-- steps that are sound, and leave what was FF
pub record Spares (im : Image) (ss : List Step) : Type 0 where
  pub sound : StepsSound im ss
  pub len : length (run im ss) ≡ length im
  pub free : (a b : ℕ) → Free im a b → Free (run im ss) a b

idle : (im : Image) → Spares im []
idle im = record { sound = tt; len = refl; free = λ a b f. f }

-- FC goes to F8: it is not FF
fc_spares : (im : Image) (k : ℕ) → k < length im → get_or im k 0 ≡ 0xFC → Spares im (program k 0xF8 ∷ [])
fc_spares im k l e =
    record {
      sound =
          (known_sound im k 0xFC 0xF8 l e refl, tt);
      len = length-set im k 0xF8;
      free = λ a b f i u v. go f i u v (eqb i k) refl;
    }
  where
    go : {a b : ℕ} → Free im a b → (i : ℕ) → a ≤ i → i < b → (t : Bool) → eqb i k ≡ t → get_or (set im k 0xF8) i 0 ≡ 0xFF
    go f i u v true q =
        let z : get_or im k 0 ≡ 0xFF = ap (λ (n : ℕ). get_or im n 0) (sym (eqb-true i k q)) ∙ f i u v in
        absurd (omega (arith, e, z))
    go f i u v false q = get_or-set_other im k i 0xF8 0 (eqb-false i k q) ∙ f i u v

committed_is : (st : ℕ) → is_committed st ≡ true → st ≡ 0xFC
unfolding is_committed
committed_is st e = eqb-true st 0xFC e

migrates : (im : Image) (old : Option Entry) → StandsIn im old → Spares im (migrate_steps old)
migrates im none o = idle im
migrates im (some e) o = go (is_committed e.it.status) refl where
  is : (t : Bool) → is_committed e.it.status ≡ t
      → elim t [ true ↦ program (e.at + 2) 0xF8 ∷ [] | false ↦ [] ] ≡ migrate_steps (some e)
  is t q = ap (λ (u : Bool). elim u as (λ v. List Step) [ true ↦ program (e.at + 2) 0xF8 ∷ [] | false ↦ [] ]) (sym q)

  go : (t : Bool) → is_committed e.it.status ≡ t → Spares im (migrate_steps (some e))
  go true q = subst (Spares im) (is true q) (fc_spares im (e.at + 2) o.0 (o.1 ∙ committed_is e.it.status q))
  go false q = subst (Spares im) (is false q) (idle im)

-- the marker, if there is one, leaves the record's place FF
abbrev Turned : Image → Place → ℕ → List Step → Type 0
Turned im p z ss =
    StepsSound im ss × (length (run im ss) ≡ length im)
    × ((i : ℕ) → (with_marker p z ≡ true → i < p.tail) → get_or (run im ss) i 0 ≡ get_or im i 0)

turns : (im : Image) (p : Place) (z : ℕ) → (with_marker p z ≡ true → (p.tail + 8 ≤ length im) × Free im p.tail (p.tail + 8))
    → Turned im p z (turn_steps p z)
turns im p z m = go (with_marker p z) refl where
  is : (t : Bool) → with_marker p z ≡ t → elim t [ true ↦ shifted p.tail marker_steps | false ↦ [] ] ≡ turn_steps p z
  is t q = ap (λ (u : Bool). elim u as (λ v. List Step) [ true ↦ shifted p.tail marker_steps | false ↦ [] ]) (sym q)

  go : (t : Bool) → with_marker p z ≡ t → Turned im p z (turn_steps p z)
  go true q =
      subst (Turned im p z) (is true q) (
        marker_sound im p.tail (m q).0 (m q).1,
        run_length im (shifted p.tail marker_steps) tt,
        λ i h. untouched_run im (shifted p.tail marker_steps) i tt (marker_off p.tail i (inl (h q))),
      )
  go false q = subst (Turned im p z) (is false q) (tt, refl, λ i h. refl)

deletes : (im : Image) (old : Option Entry) → StandsIn im old → (left : Image) → length left ≡ length im
    → StepsSound left (delete_steps old)
deletes im none o left l = tt
deletes im (some e) o left l = (zero_sound left (e.at + 2) (omega (arith, o.0)), tt)

module _ (im : Image) (p : Place) (old : Option Entry) (n c : List ℕ) (o : StandsIn im old)
    (s : Spot im p (size_of (length n) (length c))) (bn : Each (λ b. b < 256) n) (bc : Each (λ b. b < 256) c) where
  abbrev z : ℕ
  z = size_of (length n) (length c)

  abbrev A : ℕ
  A = address p z

  abbrev rs : List Step
  rs = shifted A (record_steps n c)

  -- all steps of a put
  pub put_sound : StepsSound im (put_steps p old n c)
  unfolding put_steps
  put_sound =
      let m : Spares im (migrate_steps old) = migrates im old o in
      let one : Image = run im (migrate_steps old) in
      let t = turns one p z (λ q. (omega (arith, (s.marker q).0, m.len), m.free p.tail (p.tail + 8) (s.marker q).1)) in
      let two : Image = run one (turn_steps p z) in
      let free : Free two A (A + z) =
      λ i u v. t.2 i (λ q. omega (arith, (s.marker q).2)) ∙ m.free A (A + z) s.free i u v in
      let l-2 : length two ≡ length im = t.1 ∙ m.len in
      let three : Image = run two rs in
      let l-3 : length three ≡ length im =
      run_length two rs (bounded_shifted (length two) A (record_steps n c) (record_bounded n c 0)) ∙ l-2 in
      sound_append im (migrate_steps old) (turn_steps p z ++ (rs ++ delete_steps old)) m.sound
      (sound_append one (turn_steps p z) (rs ++ delete_steps old) t.0
      (sound_append two rs (delete_steps old) (record_sound two A n c (omega (arith, s.inside, l-2)) free bn bc)
      (deletes im old o three l-3)))
