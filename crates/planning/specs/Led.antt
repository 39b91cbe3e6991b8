-- The head goes on to the second record, on every image that is read: with X's sectors erased or X's magic gone, and Y START. For repair 2
-- of a mount, and for a move.
use Rattle.std.specs.Prelude.{ℕ, ◌+◌, ◌≤◌, ◌<◌, ◌≡◌, ◌⊎◌, Bool, true, ◌&&◌, not, List, [], ◌∷◌, ◌++◌, length, get_or, eqb, ltb}
use Rattle.std.proofs.Common.{arith, sym, ◌∙◌, inl, inr, ⊎_elim, append-nil}
use Rattle.std.proofs.Math.Path.{refl, ap, ap₂, subst}
use Rattle.std.proofs.Math.Bool.{false}
use borrow.Author.Tests.{eq-eqb, ne_eqb, ltb-true, ltb-false}
use Rattle.spec.specs.declared.Next.{Next}
use Rattle.spec.specs.declared.Ending.{Ending}
use Rattle.spec.specs.declared.Place.{Place}
use Rattle.spec.specs.Step.{Image}
use Rattle.spec.specs.Basics.{part}
use Rattle.spec.specs.Geometry.{floor}
use Rattle.spec.specs.Bytes.{is_unfinished}
use Rattle.spec.specs.Record.{Entry, size}
use Rattle.spec.specs.Next.{next, kind}
use Rattle.spec.specs.Chain.{Reading, read}
use Rattle.spec.specs.Move.{vacated_end}
use Rattle.laws.specs.Length.{Good}
use Rattle.laws.specs.Parts.{Outside}
use Rattle.planning.specs.Planned.{led_place, with_low}
use Rattle.planning.specs.Places.{place_of, round_on, round_turned, round_off}
use Rattle.planning.specs.Row.{kind_at, Stands, Row, row_none, row_more, row_end}
use Rattle.planning.specs.Frame.{Same, stands_low, row_kept, row_le}
use Rattle.planning.specs.Spots.{Free, over_end}
use Rattle.planning.specs.Stops.{Stop, EndsHere, here_clear, here_over, Turns, turn_over, EndsLow, low_clear, low_over}
use Rattle.planning.specs.Stops.{allowed_own, stop_last, clear_free, low_ends, stop_clear, stop_over}
use Rattle.planning.specs.Reads.{Reads, reads_here, reads_round, reads_torn}
use Rattle.planning.specs.First.{Cons, row_cons, Pair, pair_here, pair_torn, pair_round, pair_low}

-- ---- what was done to X and Y

-- the sectors from X's up to Y's are FF, Y is START, and beside X all else is as it was; of X's own bytes nothing is said
pub record Closed (im left : Image) (x y : Entry) : Type 0 where
  pub len : length left ≡ length im
  pub same : (i : ℕ) → Outside i x.at (size x) → (i < floor x.at) ⊎ (vacated_end (length im) y ≤ i) → (i ≡ y.at → ⊥)
      → get_or left i 0 ≡ get_or im i 0
  pub start : get_or left y.at 0 ≡ 0
  pub free : (i : ℕ) → floor x.at ≤ i → i < vacated_end (length im) y → (i ≡ y.at → ⊥) → get_or left i 0 ≡ 0xFF

-- with the low byte 00 e keeps its kind
abbrev pub MayStart : Image → Entry → Type 0
MayStart im e = kind 0x00 (get_or im (e.at + 1) 0) (get_or im (e.at + 2) 0) (get_or im (e.at + 3) 0) ≡ kind_at im e.at

-- so it is read with it
pub begun_stands : {im left : Image} {lim lim' : ℕ} {e : Entry} → lim' ≤ length left → Stands im lim e → MayStart im e
    → e.at + size e ≤ lim'
    → get_or left e.at 0 ≡ 0 → Same im left (e.at + 1) (e.at + size e) → Stands left lim' (with_low 0x00 e)
begun_stands {left = left} {lim' = lim'} {e = e} l w k fits s same =
    stands_low w left lim' l fits 0x00 s
    (rw (
      s,
      same (e.at + 1) (omega arith) (omega arith),
      same (e.at + 2) (omega arith) (omega arith),
      same (e.at + 3) (omega arith)
          (omega arith),
    ) k)
    same

-- ---- the head goes on to Y

abbrev pub led_reading : Place → Ending → Entry → List Entry → Reading
led_reading p e y es = record { place = led_place p y.at; entries = with_low 0x00 y ∷ es; ending = e }

module _ {im left : Image} {x y : Entry} (g : Good (length im)) (c : Closed im left x y) (starts : MayStart im y) where
  abbrev N : ℕ
  N = length im

  -- Y behind X: what the three forms have in common
  module _ {h b : ℕ} {es : List Entry} {p : Bool} (row : Row im N false h (x ∷ (y ∷ es)) p b) where
    cx : Cons im N false h x (y ∷ es) p b
    cx = row_cons row

    cy : Cons im N (is_unfinished x.it.status) (h + size x) y es p b
    cy = row_cons cx.rest

    end : vacated_end N y ≡ floor y.at
    unfolding vacated_end
    end = rw (vacated_end, ne_eqb y.at 0 (λ q. omega (arith, cy.at)))

    past : y.at + size y ≤ b
    past = omega (arith, row_le cy.rest, cy.at)

    stop : b ≤ N
    stop = (row_end (omega (arith, cx.at, cx.stands.fits)) row).1

    behind : (i : ℕ) → y.at < i → get_or left i 0 ≡ get_or im i 0
    behind i q = c.same i (inr (omega (arith, cx.at, cy.at))) (inr (omega (arith, end))) (λ e. omega arith)

    under : (i : ℕ) → i < floor h → get_or left i 0 ≡ get_or im i 0
    under i q = c.same i (inl (omega (arith, cx.at))) (inl (omega (arith, cx.at))) (λ e. omega (arith, cy.at))

    vacant : (i : ℕ) → floor h ≤ i → i < floor y.at → get_or left i 0 ≡ 0xFF
    vacant i p q = c.free i (omega (arith, cx.at)) (omega (arith, end)) (λ e. omega arith)

    led_row : Row left (length left) false y.at (with_low 0x00 y ∷ es) p b
    led_row =
        row_more (with_low 0x00 y) refl
        (begun_stands (omega arith) cy.stands starts (omega (arith, cy.stands.fits, c.len)) c.start
        (λ i p q. behind i (omega arith)))
        (subst (λ (a : ℕ). Row left (length left) (is_unfinished y.it.status) a es p b) (ap (λ (n : ℕ). n + size y) (sym cy.at))
        (row_kept (omega arith) (omega (arith, stop, c.len)) (λ i p q. behind i (omega (arith, cy.at))) cy.rest))

    same_stop : (z : Next) → Stop im N p b z → Stop left (length left) p b z
    same_stop z e = stop_last im left p b c.len stop (λ i u v. behind i (omega (arith, past))) e

    big : floor y.at ≤ length left
    big = omega (arith, c.len, cy.stands.fits)

    -- before the turn
    pub led_here : (z : Next) → Stop im N p b z → EndsHere (floor h) z
        → Reads left y.at (led_reading (place_of N h b false) Ending.Tail y es)
    unfolding led_place
    led_here z e m = go z e m (ltb 0 (floor y.at)) refl where
      place : Place
      place = place_of N y.at b false

      out : (q : Place) → led_place (place_of N h b false) y.at ≡ q
          → led_reading (place_of N h b false) Ending.Tail y es ≡ record { place = q; entries = with_low 0x00 y ∷ es; ending = Ending.Tail }
      out q w = ap (λ (v : Place). record { place = v; entries = with_low 0x00 y ∷ es; ending = Ending.Tail }) w

      stay : (z : Next) → Stop im N p b z → EndsHere (floor y.at) z → (b ≡ N → floor y.at ≡ 0)
          → Reads left y.at (led_reading (place_of N h b false) Ending.Tail y es)
      stay z e m f =
          reads_here led_row (same_stop z e) m
          (out (place_of (length left) y.at b false)
          (round_off place refl f ∙ ap (λ (n : ℕ). place_of n y.at b false) (sym c.len)))

      go : (z : Next) → Stop im N p b z → EndsHere (floor h) z → (t : Bool) → ltb 0 (floor y.at) ≡ t
          → Reads left y.at (led_reading (place_of N h b false) Ending.Tail y es)
      go z e here_clear t f =
          let k = clear_free im b N stop (omega arith) (allowed_own p (next (part b N im)) Next.Clear e (omega arith)) in
          stay Next.Clear e here_clear (λ q. absurd (omega (arith, k.0)))
      go z e (here_over q) false f =
          let n : floor y.at ≡ 0 = omega (arith, ltb-false 0 (floor y.at) f) in stay Next.Over e (here_over n) (λ r. n)
      go z e (here_over q) true f =
          let n : 0 < floor y.at = ltb-true 0 (floor y.at) f in
          let fin : b ≡ N = over_end im b N (omega arith) stop (allowed_own p (next (part b N im)) Next.Over e (omega arith)) in
          reads_round {fs = []} {q = p} {T = 0} led_row (same_stop Next.Over e) turn_over (λ r. omega arith) row_none
          (stop_clear left p 0 (floor y.at) big (omega arith) (λ i u v. vacant i (omega (arith, q)) (omega arith))) low_clear
          (out (place_of (length left) y.at 0 true)
          (round_on place refl fin n ∙ ap (λ (n : ℕ). place_of n y.at 0 true) (sym c.len))
          ∙ ap (λ (l : List Entry). record { place = place_of (length left) y.at 0 true; entries = l; ending = Ending.Tail })
          (sym (append-nil (with_low 0x00 y ∷ es))))

    -- what ended the chain below the head's sector, or what is free now, ends it below Y's
    low_end : (q : Bool) (T : ℕ) (v : Next) → T ≤ floor h → Stop im (floor h) q T v → EndsLow v
        → (u : Next) × Stop left (floor y.at) q T u × EndsLow u
    low_end q T v l s m =
        ⊎_elim
        (λ (k : T ≡ floor h). at_floor k (ltb (floor h) (floor y.at)) refl)
        (λ (k : (T + 8 ≤ floor h) × Free im T (T + 8)).
        clear (omega (arith, k.0, cy.at)) (λ i a d. under i (omega (arith, k.0)) ∙ k.1 i a d))
        (low_ends im q T (floor h) v l (omega (arith, stop, past, cy.at)) s m) where
          clear : T + 8 ≤ floor y.at → Free left T (T + 8) → (u : Next) × Stop left (floor y.at) q T u × EndsLow u
          clear a f = (Next.Clear, stop_clear left q T (floor y.at) big a f, low_clear)

          at_floor : T ≡ floor h → (t : Bool) → ltb (floor h) (floor y.at) ≡ t
              → (u : Next) × Stop left (floor y.at) q T u × EndsLow u
          at_floor k true f =
              let n : floor h < floor y.at = ltb-true (floor h) (floor y.at) f in
              clear (omega arith) (λ i a d. vacant i (omega arith) (omega arith))
          at_floor k false f =
              let n : floor y.at ≤ floor h = ltb-false (floor h) (floor y.at) f in
              (Next.Over, stop_over left q T (floor y.at) big (omega (arith, cy.at)), low_over)

    module _ (high : floor h ≡ 0 → ⊥) (T : ℕ) where
      abbrev onto : Place
      onto = record { head = y.at; tail = T; turned = true && not (eqb y.at 0); length = N }

      on : onto.turned ≡ true
      on = ap not (ne_eqb y.at 0 (λ q. omega (arith, cy.at)))

      still : led_place (place_of N h T true) y.at ≡ place_of (length left) y.at T true
      unfolding led_place
      still = round_turned onto on ∙ ap₂ (λ (n : ℕ) (t : Bool). place_of n y.at T t) (sym c.len) on

      -- a torn wrap stays
      pub led_torn : T ≡ 0 → Stop im N p b Next.TornWrap
          → Reads left y.at (led_reading (place_of N h T true) (Ending.TornWrap b) y es)
      led_torn z e =
          reads_torn led_row (same_stop Next.TornWrap e) (λ q. high (omega (arith, cy.at)))
          (ap (λ (v : Place). record { place = v; entries = with_low 0x00 y ∷ es; ending = Ending.TornWrap b })
          (still ∙ ap (λ (n : ℕ). place_of (length left) y.at n true) z))

      -- after the turn
      pub led_round : {fs : List Entry} {q : Bool} {z v : Next} → Stop im N p b z → Turns z → Row im (floor h) p 0 fs q T
          → Stop im (floor h) q T v → EndsLow v → Reads left y.at (led_reading (place_of N h T true) Ending.Tail y (es ++ fs))
      led_round {fs} {q} {z} {v} e t rows s m =
          let fin = row_end (omega arith) rows in
          let end = low_end q T v fin.1 s m in
          reads_round led_row (same_stop z e) t (λ k. high (omega (arith, cy.at)))
          (row_kept big (omega (arith, fin.1, cy.at)) (λ i a d. under i (omega (arith, fin.1))) rows) end.1 end.2
          (ap (λ (k : Place). record { place = k; entries = with_low 0x00 y ∷ (es ++ fs); ending = Ending.Tail }) still)

  -- Y at 0
  module _ {h b T : ℕ} {fs : List Entry} {p q : Bool} (row : Row im N false h (x ∷ []) p b) (high : floor h ≡ 0 → ⊥)
      (rows : Row im (floor h) p 0 (y ∷ fs) q T) where
    dx : Cons im N false h x [] p b
    dx = row_cons row

    dy : Cons im (floor h) p 0 y fs q T
    dy = row_cons rows

    last : vacated_end N y ≡ N
    unfolding vacated_end
    last = rw (vacated_end, eq-eqb y.at 0 dy.at)

    below : (i : ℕ) → 0 < i → i < floor h → get_or left i 0 ≡ get_or im i 0
    below i a d = c.same i (inl (omega (arith, dx.at))) (inl (omega (arith, dx.at))) (λ e. omega (arith, dy.at))

    above : (i : ℕ) → floor h ≤ i → i < N → get_or left i 0 ≡ 0xFF
    above i a d = c.free i (omega (arith, dx.at)) (omega (arith, last)) (λ e. omega (arith, dy.at))

    room : floor h + 4096 ≤ N
    room = omega (arith, dx.stands.fits, dx.at, g.sectors)

    fin : (0 + size y ≤ T) × (T ≤ floor h)
    fin = (row_le dy.rest, (row_end (omega arith) rows).1)

    low_row : Row left (length left) false 0 (with_low 0x00 y ∷ fs) q T
    low_row =
        row_more (with_low 0x00 y) dy.at
        (begun_stands (omega arith) dy.stands starts (omega (arith, dy.stands.fits, c.len, room)) c.start
        (λ i a d. below i (omega arith) (omega (arith, dy.stands.fits))))
        (row_kept (omega arith) (omega (arith, fin.1, c.len, room)) (λ i a d. below i (omega arith) (omega (arith, fin.1))) dy.rest)

    abbrev turned_off : Place
    turned_off = record { head = y.at; tail = T; turned = true && not (eqb y.at 0); length = N }

    off : turned_off.turned ≡ false
    off = ap not (eq-eqb y.at 0 dy.at)

    pub led_low : {v : Next} → Stop im (floor h) q T v → EndsLow v
        → Reads left y.at (led_reading (place_of N h T true) Ending.Tail y fs)
    unfolding led_place
    led_low {v} s m =
        let at : y.at ≡ 0 = dy.at in
        let is : led_reading (place_of N h T true) Ending.Tail y fs ≡ read (length left) 0 T false (with_low 0x00 y ∷ fs) Ending.Tail =
        ap (λ (k : Place). record { place = k; entries = with_low 0x00 y ∷ fs; ending = Ending.Tail })
        (round_off turned_off off (λ z. omega arith) ∙ ap₂ (λ (a : ℕ) (t : Bool). place_of N a T t) at off
        ∙ ap (λ (n : ℕ). place_of n 0 T false) (sym c.len)) in
        let clear : Free left T (T + 8) → Reads left 0 (led_reading (place_of N h T true) Ending.Tail y fs) =
        λ f. reads_here low_row (stop_clear left q T (length left) (omega arith) (omega (arith, fin.1, room, c.len)) f) here_clear is in
        subst (λ (a : ℕ). Reads left a (led_reading (place_of N h T true) Ending.Tail y fs)) (sym at)
        (⊎_elim
        (λ (k : T ≡ floor h). clear (λ i a d. above i (omega arith) (omega (arith, room))))
        (λ (k : (T + 8 ≤ floor h) × Free im T (T + 8)). clear (λ i a d. below i (omega (arith, fin.0)) (omega (arith, k.0)) ∙ k.1 i a d))
        (low_ends im q T (floor h) v fin.1 (omega (arith, room)) s m))

-- ---- all forms

-- the reading from Y on, of every image that is read with X and Y first
module _ {im left : Image} {h : ℕ} {r : Reading} {x y : Entry} {es : List Entry} (g : Good (length im)) (c : Closed im left x y)
    (starts : MayStart im y) where
  pub pair_reads : Pair im h r x y es → Reads left y.at (led_reading r.place r.ending y es)
  pair_reads (pair_here row s m e) =
      subst (λ (v : Reading). Reads left y.at (led_reading v.place v.ending y es)) (sym e) (led_here g c starts row _ s m)
  pair_reads (pair_torn row s n e) =
      subst (λ (v : Reading). Reads left y.at (led_reading v.place v.ending y es)) (sym e) (led_torn g c starts row n 0 refl s)
  pair_reads (pair_round {T = T} row s t n rows k m f e) =
      subst (λ (v : Reading). Reads left y.at (led_reading v.place v.ending y es)) (sym e)
      (subst (λ (l : List Entry). Reads left y.at (led_reading (place_of (length im) h T true) Ending.Tail y l)) f
      (led_round g c starts row n T s t rows k m))
  pair_reads (pair_low row s t n rows k m e) =
      subst (λ (v : Reading). Reads left y.at (led_reading v.place v.ending y es)) (sym e) (led_low g c starts row n rows k m)
