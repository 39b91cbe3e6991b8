-- The law of a mount: on every image that is accepted its steps, and what is read after them, are those that the first reading plans.
use Rattle.std.specs.Prelude.{ℕ, ◌+◌, ◌≤◌, ◌≡◌, Bool, length}
use Rattle.std.proofs.Common.{arith, sym, ◌∙◌, subst}
use Rattle.std.proofs.Math.Path.{refl, ap, ap₂}
use Rattle.std.proofs.Math.Bool.{true, false}
use mathlib.Core.List.{List, [], ◌∷◌, ◌++◌, append-nil}
use Rattle.spec.specs.declared.Place.{Place}
use Rattle.spec.specs.declared.Ending.{Ending}
use Rattle.spec.specs.Step.{Image, Step, program, run}
use Rattle.spec.specs.Basics.{give, Each}
use Rattle.spec.specs.Geometry.{good_length}
use Rattle.spec.specs.Bytes.{is_start, is_clean}
use Rattle.spec.specs.Record.{Entry}
use Rattle.spec.specs.Chain.{Reading, reading_from}
use Rattle.spec.specs.Files.{superseded}
use Rattle.spec.specs.Reading.{reading}
use Rattle.spec.specs.Move.{Work, begin, close_steps}
use Rattle.spec.specs.Mount.{last_steps, torn_wrap_steps, drop_steps, repair_1, repair_2, repair_2_on, repair_3, repair_4, mended}
use Rattle.laws.specs.Length.{Good, good}
use Rattle.laws.specs.Steps.{run_append}
use Rattle.laws.specs.Settled.{close_filled, filled_some}
use Rattle.planning.specs.Repairs.{steps_1, pair_steps, steps_2, steps_3, repair_1_is, repair_3_is, repair_4_is}
use Rattle.planning.specs.Planned.{led_place, with_low, start_if, started, paired, first_mended, voided, half_mended, planned_mend}
use Rattle.planning.specs.Planned.{mended_reading}
use Rattle.planning.specs.Reads.{Reads, reads_reading}
use Rattle.planning.specs.First.{head_recordish, reads_head}
use Rattle.planning.specs.Known.{Known, accepted_known}
use Rattle.planning.specs.Close.{close_like}
use Rattle.planning.specs.Places.{led_head}
use Rattle.planning.specs.Dropped.{dropped_reading, drops_by, reads_inside, repair_4_reads}
use Rattle.planning.specs.VoidReads.{voided_reading, void_reads}
use Rattle.planning.specs.Started.{KeptIn, last_same, started_reading, Starts, starts}
use Rattle.planning.specs.Leads.{Leads, leads}
use Rattle.planning.specs.Phase.{work, after_known, phase}
use Rattle.planning.specs.Rivals.{drop_voided, dropped_is}
use Rattle.planning.specs.Half.{each_half, start_near}

-- ---- repair 2's steps do not look at X's first byte

pair_first : (N : ℕ) (t : Bool) (x y : Entry) → pair_steps N (start_if t x) y ≡ pair_steps N x y
unfolding pair_steps
pair_first N true x y =
    ap (λ (ss : List Step). elim (is_clean y.it.low) [
      | true ↦ ss
      | false ↦ elim (is_start y.it.low) [ true ↦ program (x.at + 1) 0x00 ∷ [] | false ↦ [] ]
    ]) (close_like N y.it.low 0x00 x.it.status x y)
pair_first N false x y = refl

first_same : (N : ℕ) (es : List Entry) → steps_2 N (started es) ≡ steps_2 N es
first_same N [] = refl
first_same N (x ∷ []) = refl
first_same N (x ∷ (y ∷ es)) = pair_first N (is_clean x.it.low) x y

-- ---- repair 2, where the reading after it is known

module _ (w : Work) (p : Place) (e : Ending) where
  abbrev N : ℕ
  N = w.reading.place.length

  abbrev by : List Step → Reading → Work
  by ss s = work (run w.image ss) s (w.steps ++ ss)

  stays : (es : List Entry) → w.reading ≡ record { place = p; entries = es; ending = e }
      → w ≡ by [] (record { place = p; entries = es; ending = e })
  stays es q = ap₂ (work w.image) q (sym (append-nil w.steps))

  pair_known : (x y : Entry) (es : List Entry) (t u : Bool) → is_clean y.it.low ≡ t → is_start y.it.low ≡ u
      → w.reading ≡ record { place = p; entries = x ∷ (y ∷ es); ending = e }
      → reading_from (run w.image (pair_steps N x y)) (paired p e x y es).place.head ≡ paired p e x y es
      → repair_2 w (x ∷ (y ∷ es)) ≡ by (pair_steps N x y) (paired p e x y es)
  unfolding repair_2 pair_steps paired
  pair_known x y es true u a b q r =
      let s : Reading = record { place = led_place p y.at; entries = with_low 0x00 y ∷ es; ending = e } in
      let f : reading_from (run w.image (close_steps N x y y.it.low)) (led_place p y.at).head ≡ s =
      rw (pair_steps, paired, a) at r in
      rw (repair_2, pair_steps, paired, a)
      (after_known w (close_steps N x y y.it.low) y.at s
      (λ z. absurd (filled_some (close_steps N x y y.it.low) (close_filled N x y y.it.low) z))
      (ap (reading_from (run w.image (close_steps N x y y.it.low))) (sym (led_head p y.at)) ∙ f))
  pair_known x y es false true a b q r =
      let ss : List Step = program (x.at + 1) 0x00 ∷ [] in
      let s : Reading = record { place = led_place p y.at; entries = y ∷ es; ending = e } in
      let f : reading_from (run w.image ss) (led_place p y.at).head ≡ s = rw (pair_steps, paired, a, b) at r in
      rw (repair_2, pair_steps, paired, a, b)
      (after_known w ss y.at s (λ z. absurd (filled_some ss refl z))
      (ap (reading_from (run w.image ss)) (sym (led_head p y.at)) ∙ f))
  pair_known x y es false false a b q r = rw (repair_2, pair_steps, paired, a, b) (stays (x ∷ (y ∷ es)) q)

  second_known : (es : List Entry) → w.reading ≡ record { place = p; entries = es; ending = e }
      → reading_from (run w.image (steps_2 N es)) (first_mended p e es).place.head ≡ first_mended p e es
      → repair_2 w es ≡ by (steps_2 N es) (first_mended p e es)
  unfolding repair_2 first_mended
  second_known [] q r = stays [] q
  second_known (x ∷ []) q r = stays (x ∷ []) q
  second_known (x ∷ (y ∷ es)) q r = pair_known x y es _ _ refl refl q r

-- ---- all four

module _ (im : Image) (r : Reading) (n : good_length (length im) ≡ true) (e : reading im ≡ give r) where
  abbrev g : Good (length im)
  g = good (length im) n

  a : Known im r
  a = accepted_known im r e

  abbrev h : ℕ
  h = r.place.head

  -- after repair 1
  abbrev ss_1 : List Step
  ss_1 = steps_1 im r

  abbrev im_1 : Image
  im_1 = run im ss_1

  s_1 : Starts im im_1 r
  s_1 = starts g a.inside a.even a.low a.reads a.free

  abbrev r_1 : Reading
  r_1 = started_reading r

  g_1 : Good (length im_1)
  g_1 = subst Good (sym s_1.len) g

  w_1 : repair_1 (begin im r) ≡ work im_1 r_1 ss_1
  w_1 =
      repair_1_is (begin im r)
      ∙ phase (begin im r) ss_1 h r_1 (omega (arith, a.inside)) a.reads s_1.len s_1.reads

  -- after repair 2
  abbrev ss_2 : List Step
  ss_2 = steps_2 r.place.length (started r.entries)

  abbrev im_2 : Image
  im_2 = run im_1 ss_2

  abbrev r_2 : Reading
  r_2 = half_mended r

  s_2 : Leads im_1 im_2 r_1 r_2
  s_2 =
      let even-1 : h + 8 ≤ length im_1 = omega (arith, a.inside, a.even, g_1.sectors, s_1.len) in
      subst (λ (k : ℕ). Leads im_1 (run im_1 (steps_2 k (started r.entries))) r_1 r_2) (s_1.len ∙ sym (reads_head a.reads).1)
      (leads g_1 (omega (arith, a.inside, s_1.len)) (head_recordish im_1 h even-1 s_1.low) s_1.reads
      (start_near r.entries a.marks))

  w_2 : repair_2_on (work im_1 r_1 ss_1) ≡ work im_2 r_2 (ss_1 ++ ss_2)
  w_2 =
      second_known (work im_1 r_1 ss_1) r.place r.ending (started r.entries) refl
      (reads_reading (omega (arith, s_2.inside, s_2.len)) s_2.reads)

  abbrev k : ℕ
  k = r_2.place.head

  -- after repair 3
  abbrev ss_3 : List Step
  ss_3 = steps_3 im_2 r_2

  abbrev im_3 : Image
  im_3 = run im_2 ss_3

  s_3 : (length im_3 ≡ length im_2) × Reads im_3 k (voided_reading r_2)
  s_3 =
      void_reads (omega (arith, s_2.inside, s_2.len))
      (λ b q. let z = s_1.free b (sym s_2.ends ∙ q) in s_2.free b (sym s_2.ends ∙ q) z.1 z.0) s_2.reads

  w_3 : repair_3 (work im_2 r_2 (ss_1 ++ ss_2)) ≡ work im_3 (voided_reading r_2) ((ss_1 ++ ss_2) ++ ss_3)
  w_3 =
      repair_3_is (work im_2 r_2 (ss_1 ++ ss_2))
      ∙ phase (work im_2 r_2 (ss_1 ++ ss_2)) ss_3 k (voided_reading r_2) (omega (arith, s_2.inside, s_2.len)) s_2.reads s_3.0
      s_3.1

  -- after repair 4
  abbrev es : List Entry
  es = voided r_2.entries

  abbrev ss_4 : List Step
  ss_4 = drop_steps es

  abbrev r_4 : Reading
  r_4 = dropped_reading (superseded es) (voided_reading r_2)

  fits_3 : k ≤ length im_3
  fits_3 = omega (arith, s_2.inside, s_2.len, s_3.0)

  w_4 : repair_4 (work im_3 (voided_reading r_2) ((ss_1 ++ ss_2) ++ ss_3)) ≡ work (run im_3 ss_4) r_4 (((ss_1 ++ ss_2) ++ ss_3) ++ ss_4)
  w_4 =
      repair_4_is (work im_3 (voided_reading r_2) ((ss_1 ++ ss_2) ++ ss_3))
      ∙ phase (work im_3 (voided_reading r_2) ((ss_1 ++ ss_2) ++ ss_3)) ss_4 k r_4 fits_3 s_3.1
      (drops_by im_3 es (reads_inside fits_3 s_3.1)).len (repair_4_reads fits_3 s_3.1)

  all : mended im r ≡ work (run im_3 ss_4) r_4 (((ss_1 ++ ss_2) ++ ss_3) ++ ss_4)
  unfolding mended
  all = ap (λ (w : Work). repair_4 (repair_3 (repair_2_on w))) w_1 ∙ ap (λ (w : Work). repair_4 (repair_3 w)) w_2 ∙ ap repair_4 w_3 ∙ w_4

  -- the same from the unchanged image
  kept : Each (KeptIn im im_1) r_2.entries
  kept = each_half (KeptIn im im_1) (λ b e k. k) r s_1.kept

  last_is : last_steps im_2 r_2.entries ≡ last_steps im r_2.entries
  last_is = last_same im_1 im_2 r_2.entries s_2.kept ∙ last_same im im_1 r_2.entries kept

  -- the steps of a mount, from the first reading and the unchanged image
  pub mended_as_planned : (mended im r).steps ≡ planned_mend im r
  unfolding planned_mend
  mended_as_planned =
      ap (λ (w : Work). w.steps) all
      ∙ ap₂ (λ (us vs : List Step). ((ss_1 ++ us) ++ (vs ++ torn_wrap_steps r_2.ending)) ++ ss_4)
      (first_same r.place.length r.entries) last_is
      ∙ ap (λ (ss : List Step).
      ((ss_1 ++ steps_2 r.place.length r.entries) ++ (last_steps im r_2.entries ++ torn_wrap_steps r_2.ending)) ++ ss)
      (drop_voided r_2.entries)

  -- and what is read then
  pub mended_reads_planned : (mended im r).reading ≡ mended_reading r
  unfolding mended_reading
  mended_reads_planned =
      ap (λ (w : Work). w.reading) all
      ∙ ap (λ (us : List Entry). record { place = r_2.place; entries = us; ending = Ending.Tail }) (dropped_is es es)

  -- the image after these steps, of the same length, on which that is read on from the head in it
  pub mended_image : (mended im r).image ≡ run im (mended im r).steps
  mended_image =
      let on : (i : Image) (us vs : List Step) → i ≡ run im us → run i vs ≡ run im (us ++ vs) =
      λ i us vs q. ap (λ (j : Image). run j vs) q ∙ sym (run_append im us vs) in
      ap (λ (w : Work). w.image) all
      ∙ on im_3 ((ss_1 ++ ss_2) ++ ss_3) ss_4 (on im_2 (ss_1 ++ ss_2) ss_3 (on im_1 ss_1 ss_2 refl))
      ∙ ap (λ (w : Work). run im w.steps) (sym all)

  pub mended_left : (length (mended im r).image ≡ length im) × ((mended im r).reading.place.head ≤ length im)
      × Reads (mended im r).image (mended im r).reading.place.head (mended im r).reading
  mended_left =
      subst (λ (w : Work). (length w.image ≡ length im) × (w.reading.place.head ≤ length im)
      × Reads w.image w.reading.place.head w.reading)
      (sym all) (
        (drops_by im_3 es (reads_inside fits_3 s_3.1)).len ∙ s_3.0 ∙ s_2.len ∙ s_1.len,
        omega (arith, s_2.inside, s_1.len),
        repair_4_reads fits_3 s_3.1,
      )

  -- the phases one by one, each on the image that those before it left
  pub phase_1 : Starts im im_1 r
  phase_1 = s_1

  pub phase_2 : Leads im_1 im_2 r_1 r_2
  phase_2 = s_2

  pub phase_3 : (length im_3 ≡ length im_2) × Reads im_3 k (voided_reading r_2)
  phase_3 = s_3

  pub phases : (mended im r).steps ≡ ((ss_1 ++ ss_2) ++ ss_3) ++ ss_4
  phases = ap (λ (w : Work). w.steps) all
