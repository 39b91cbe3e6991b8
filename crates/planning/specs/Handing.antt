-- Steps (b) to (f) of a move on a settled image: what is left is settled again, with Y as its head.
use Rattle.std.specs.Prelude.{ℕ, ◌+◌, ◌%◌, ◌≤◌, ◌<◌, ◌≡◌, refl, Bool, ◌&&◌, not, List, [], ◌∷◌, length, get_or, eqb, ltb}
use Rattle.std.proofs.Common.{arith, sym, ap, ◌∙◌, subst, inl, inr, eq-eqb, ne_eqb, ltb-true, ltb-false}
use Rattle.std.proofs.Math.Logic.{⊎_elim}
use Rattle.std.proofs.Math.Bool.{true, false}
use Rattle.spec.specs.declared.Ending.{Ending}
use Rattle.spec.specs.declared.Place.{Place}
use Rattle.spec.specs.Step.{Image, program, run}
use Rattle.spec.specs.Basics.{part, Each}
use Rattle.spec.specs.Geometry.{floor}
use Rattle.spec.specs.Bytes.{is_unfinished}
use Rattle.spec.specs.Record.{Entry, size}
use Rattle.spec.specs.Chain.{Reading}
use Rattle.spec.specs.Move.{vacated_end, close_steps}
use Rattle.laws.specs.Length.{Good}
use Rattle.laws.specs.Settled.{last_pending, last_open}
use Rattle.planning.specs.Planned.{come_round, led_place, with_low, hand_steps, handed}
use Rattle.planning.specs.Kinds.{lowly_start, kind_low}
use Rattle.planning.specs.Spots.{Free, stands_kind}
use Rattle.planning.specs.Reads.{Reads}
use Rattle.planning.specs.First.{head_recordish, reads_head, One, one_of, pair_of}
use Rattle.planning.specs.Places.{led_head, round_turned, round_off}
use Rattle.planning.specs.Led.{Closed, MayStart, led_reading, pair_reads}
use Rattle.planning.specs.Closing.{PairAt, pair_at, second_in, vacated_is, closed}
use Rattle.planning.specs.Rested.{FreeRun, Rested, run_straight, run_turned, run_round, Finished, reads_finished}

low_pending : (b : ℕ) (y : Entry) (es : List Entry) → last_pending (with_low b y) es ≡ last_pending y es
low_pending b y [] = refl
low_pending b y (f ∷ es) = refl

-- what is left of r, and that its length stays
pub record Handed (im : Image) (r : Reading) : Type 0 where
  pub len : length (run im (hand_steps r.place.length r.entries)) ≡ length im
  pub rested : Rested (run im (hand_steps r.place.length r.entries)) (handed r.place r.entries)

module _ (im : Image) (g : Good (length im)) {r : Reading} (w : Rested im r) {x y : Entry} {es : List Entry}
    (q : r.entries ≡ x ∷ (y ∷ es)) where
  abbrev p : Place
  p = r.place

  abbrev h : ℕ
  h = p.head

  abbrev N : ℕ
  N = length im

  whole : p.length ≡ N
  whole = (reads_head w.reads).1

  one : One im h r x (y ∷ es)
  one = one_of (head_recordish im h (omega (arith, w.inside, w.even, g.sectors)) w.low) w.reads q

  spot : PairAt im h r x y
  spot = pair_at (omega (arith, w.inside)) (pair_of one)

  abbrev left : Image
  left = run im (program y.at 0xA0 ∷ close_steps N x y 0xA0)

  done : Closed im left x y
  done = closed g spot 0xA0 (program y.at 0xA0 ∷ []) tt (λ i n. (n, tt))

  -- Y is finished, so any low byte of a record may stand before it
  starts : MayStart im y
  starts =
      let f = reads_finished w.reads w.closed in
      let z : is_unfinished y.it.status ≡ false = (subst (Each Finished) q f).1.0 in
      kind_low (get_or im y.at 0) (get_or im (y.at + 1) 0) (get_or im (y.at + 2) 0) (get_or im (y.at + 3) 0) (part y.at spot.lim im)
      (stands_kind spot.short spot.stands)
      0x00 lowly_start (ap is_unfinished spot.stands.status ∙ z)

  -- ---- the free run

  abbrev onto : Place
  onto = record { head = y.at; tail = p.tail; turned = p.turned && not (eqb y.at 0); length = p.length }

  -- Y stands behind X
  module _ (at : y.at ≡ h + size x) where
    end : vacated_end N y ≡ floor y.at
    end =
        ⊎_elim
        (λ (z : (y.at ≡ h + size x) × (vacated_end N y ≡ floor y.at)). z.1)
        (λ (z : (y.at ≡ 0) × (floor h ≡ 0 → ⊥) × (vacated_end N y ≡ N)). absurd (omega (arith, z.0)))
        (vacated_is g spot)

    -- what was free below the head's sector is free below Y's
    under : (a : ℕ) → Free im a (floor h) → Free left a (floor y.at)
    under a f i u v = go (ltb i (floor h)) refl where
      go : (t : Bool) → ltb i (floor h) ≡ t → get_or left i 0 ≡ 0xFF
      go true e =
          let k : i < floor h = ltb-true i (floor h) e in
          done.same i (inl (omega (arith, spot.at))) (inl (omega (arith, spot.at))) (λ z. omega arith) ∙ f i u k
      go false e =
          let k : floor h ≤ i = ltb-false i (floor h) e in
          done.free i (omega (arith, spot.at)) (omega (arith, end)) (λ z. omega arith)

    same_turn : (t : Bool) → p.turned ≡ t → onto.turned ≡ t
    same_turn t e = rw (e, ne_eqb y.at 0 (λ z. omega arith)) (and_on t) where
      and_on : (t : Bool) → (t && true) ≡ t
      and_on true = refl
      and_on false = refl

    behind_turned : p.turned ≡ true → FreeRun left (come_round onto)
    behind_turned t =
        let u : onto.turned ≡ true = same_turn true t in
        subst (FreeRun left) (sym (round_turned onto u)) (run_turned onto u (under p.tail (w.free.between t)))

    behind_straight : p.turned ≡ false → y.at + size y ≤ p.tail → FreeRun left (come_round onto)
    behind_straight t past =
        run_round onto (same_turn false t)
        (λ i a b. done.same i (inr (omega (arith, spot.at))) (inr (omega (arith, end))) (λ z. omega arith) ∙ w.free.above t i a b)
        (under 0 (w.free.below t))

  -- Y stands at 0
  module _ (at : y.at ≡ 0) (high : floor h ≡ 0 → ⊥) (t : p.turned ≡ true) (past : size y ≤ p.tail) where
    low_run : FreeRun left (come_round onto)
    low_run =
        let u : onto.turned ≡ false = rw (t, eq-eqb y.at 0 at) in
        let end : vacated_end N y ≡ N =
        ⊎_elim
        (λ (z : (y.at ≡ h + size x) × (vacated_end N y ≡ floor y.at)). absurd (omega (arith, z.0)))
        (λ (z : (y.at ≡ 0) × (floor h ≡ 0 → ⊥) × (vacated_end N y ≡ N)). z.2)
        (vacated_is g spot) in
        subst (FreeRun left) (sym (round_off onto u (λ z. omega arith)))
        (run_straight onto u (λ i a b. free i a (omega (arith, whole)) end (ltb i (floor h)) refl) (λ i a b. absurd (omega arith))) where
          free : (i : ℕ) → p.tail ≤ i → i < N → vacated_end N y ≡ N → (v : Bool) → ltb i (floor h) ≡ v → get_or left i 0 ≡ 0xFF
          free i a b end true e =
              let k : i < floor h = ltb-true i (floor h) e in
              done.same i (inl (omega (arith, spot.at))) (inl (omega (arith, spot.at))) (λ z. omega arith) ∙ w.free.between t i a k
          free i a b end false e =
              let k : floor h ≤ i = ltb-false i (floor h) e in
              done.free i (omega (arith, spot.at)) (omega arith) (λ z. omega arith)

  led_run : FreeRun left (led_place p y.at)
  unfolding led_place
  led_run =
      ⊎_elim
      (λ (z : (y.at ≡ h + size x) × (p.turned ≡ false → y.at + size y ≤ p.tail)). by_turn z p.turned refl)
      (λ (z : (y.at ≡ 0) × (floor h ≡ 0 → ⊥) × (p.turned ≡ true) × (size y ≤ p.tail)). low_run z.0 z.1 z.2 z.3)
      spot.next where
        by_turn : (y.at ≡ h + size x) × (p.turned ≡ false → y.at + size y ≤ p.tail) → (t : Bool) → p.turned ≡ t
            → FreeRun left (come_round onto)
        by_turn z true t = behind_turned z.0 t
        by_turn z false t = behind_straight z.0 t (z.1 t)

  -- ---- the whole image

  even_y : y.at % 8 ≡ 0
  even_y =
      ⊎_elim
      (λ (z : (y.at ≡ h + size x) × (p.turned ≡ false → y.at + size y ≤ p.tail)). omega (arith, z.0, w.even))
      (λ (z : (y.at ≡ 0) × (floor h ≡ 0 → ⊥) × (p.turned ≡ true) × (size y ≤ p.tail)). omega (arith, z.0))
      spot.next

  hand_pair : Rested left (led_reading p Ending.Tail y es)
  hand_pair =
      let at : (led_place p y.at).head ≡ y.at = led_head p y.at in
      record {
        inside = omega (arith, at, second_in g spot, done.len);
        even = ap (λ (a : ℕ). a % 8) at ∙ even_y;
        low = inl (ap (λ (a : ℕ). get_or left a 0) at ∙ done.start);
        reads =
            subst (λ (a : ℕ). Reads left a (led_reading p Ending.Tail y es)) (sym at)
            (subst (λ (e : Ending). Reads left y.at (led_reading p e y es)) w.tail (pair_reads g done starts (pair_of one)));
        closed = low_pending 0x00 y es ∙ sym (ap last_open q) ∙ w.closed;
        tail = refl;
        free = led_run;
      }

-- the image after (b) to (f) is settled again, with Y as its head
pub hand_rested : (im : Image) → Good (length im) → {r : Reading} → Rested im r → 2 ≤ length r.entries → Handed im r
unfolding hand_steps handed
hand_rested im g {r} w two = go r.entries refl where
  go : (es : List Entry) → r.entries ≡ es → Handed im r
  go [] q = absurd (omega (arith, ap length q))
  go (x ∷ []) q = absurd (omega (arith, ap length q))
  go (x ∷ (y ∷ es)) q =
      let n : r.place.length ≡ length im = (reads_head w.reads).1 in
      record {
        len = rw (q, n) (done im g w q).len;
        rested =
            subst (λ (us : List Entry). Rested (run im (hand_steps r.place.length us)) (handed r.place us)) (sym q)
            (subst (λ (k : ℕ). Rested (run im (program y.at 0xA0 ∷ close_steps k x y 0xA0)) (led_reading r.place Ending.Tail y es))
            (sym n)
            (hand_pair im g w q));
      }
