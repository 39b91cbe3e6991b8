-- Where the first two records X and Y of a reading stand, and what the steps that end a move do to them: (c) to (f) alone in repair 2,
-- behind Y's low byte A0 in a move, and repair 2's one step where Y is START.
use Rattle.std.specs.Prelude.{ℕ, zero, suc, ◌+◌, ◌-◌, ◌*◌, ◌/◌, ◌≤◌, ◌<◌, ◌≡◌, ◌⊎◌, Bool, true, List, [], ◌∷◌, ◌++◌, length, get_or}
use Rattle.std.proofs.Common.{arith, sym, ap, ◌∙◌, length-set, get_or-set_other}
use Rattle.std.proofs.Math.Logic.{inl, inr, ⊎_elim}
use Rattle.std.proofs.Math.Bool.{false}
use Rattle.std.proofs.lemmas.Bool.{false≢true}
use borrow.Author.Tests.{eq-eqb, ne_eqb}
use Rattle.spec.specs.Step.{Image, Step, program, run}
use Rattle.spec.specs.Geometry.{floor}
use Rattle.spec.specs.Record.{Entry, size}
use Rattle.spec.specs.Chain.{Reading}
use Rattle.spec.specs.Move.{vacated_end, close_steps}
use Rattle.laws.specs.Length.{Good}
use Rattle.planning.specs.Row.{Stands, Row}
use Rattle.planning.specs.Frame.{row_le}
use Rattle.planning.specs.First.{row_cons, Pair, pair_here, pair_torn, pair_round, pair_low}
use Rattle.planning.specs.Effect.{Untouched, Bounded, untouched_append, writes_right, bounded_append, run_length, untouched_run}
use Rattle.planning.specs.Effect.{writes_run}
use Rattle.planning.specs.Close.{close_start, close_erased, close_off, close_bounded}
use Rattle.planning.specs.Led.{Closed}

-- ---- where they stand

-- Y behind X, or at 0 after the turn
pub record PairAt (im : Image) (h : ℕ) (r : Reading) (x y : Entry) : Type 0 where
  pub at : x.at ≡ h
  pub wide : h + size x ≤ length im
  pub next : ((y.at ≡ h + size x) × (r.place.turned ≡ false → y.at + size y ≤ r.place.tail))
      ⊎ ((y.at ≡ 0) × (floor h ≡ 0 → ⊥) × (r.place.turned ≡ true) × (size y ≤ r.place.tail))
  pub lim : ℕ
  pub short : lim ≤ length im
  pub stands : Stands im lim y

module _ {im : Image} {h : ℕ} {r : Reading} {x y : Entry} where
  -- Y behind X; if there is no turn, their row ends at the tail
  pair_behind : {us : List Entry} {p : Bool} {b : ℕ} → Row im (length im) false h (x ∷ (y ∷ us)) p b
      → (r.place.turned ≡ false → r.place.tail ≡ b) → PairAt im h r x y
  pair_behind row t =
      let c = row_cons row in
      let d = row_cons c.rest in
      record {
        at = c.at;
        wide = omega (arith, c.at, c.stands.fits);
        next = inl (d.at, λ z. omega (arith, d.at, row_le d.rest, t z));
        lim = length im;
        short = omega arith;
        stands = d.stands;
      }

  pub pair_at : {es : List Entry} → h ≤ length im → Pair im h r x y es → PairAt im h r x y
  pair_at l (pair_here row s m e) = pair_behind row (λ t. ap (λ (z : Reading). z.place.tail) e)
  pair_at l (pair_torn row s n e) = pair_behind row (λ t. absurd (false≢true (sym t ∙ ap (λ (z : Reading). z.place.turned) e)))
  pair_at l (pair_round row s t n rows k m f e) =
      pair_behind row (λ t. absurd (false≢true (sym t ∙ ap (λ (z : Reading). z.place.turned) e)))
  pair_at l (pair_low row s t n rows k m e) =
      let c = row_cons row in
      let d = row_cons rows in
      let past : size y ≤ r.place.tail = omega (arith, row_le d.rest, ap (λ (z : Reading). z.place.tail) e) in
      record {
        at = c.at;
        wide = omega (arith, c.at, c.stands.fits);
        next = inr (d.at, n, ap (λ (z : Reading). z.place.turned) e, past);
        lim = floor h;
        short = omega arith;
        stands = d.stands;
      }

-- ---- what is done to them

module _ {im : Image} {h : ℕ} {r : Reading} {x y : Entry} (g : Good (length im)) (w : PairAt im h r x y) where
  abbrev N : ℕ
  N = length im

  pub second_in : y.at + size y ≤ N
  second_in = omega (arith, w.stands.fits, w.short)

  second_off : y.at ≡ x.at + 1 → ⊥
  second_off e =
      ⊎_elim
      (λ (z : (y.at ≡ h + size x) × (r.place.turned ≡ false → y.at + size y ≤ r.place.tail)). omega (arith, w.at, z.0))
      (λ (z : (y.at ≡ 0) × (floor h ≡ 0 → ⊥) × (r.place.turned ≡ true) × (size y ≤ r.place.tail)). omega (arith, w.at, z.0))
      w.next

  -- the sectors that are erased end at Y's, or at N
  pub vacated_is : ((y.at ≡ h + size x) × (vacated_end N y ≡ floor y.at)) ⊎ ((y.at ≡ 0) × (floor h ≡ 0 → ⊥) × (vacated_end N y ≡ N))
  unfolding vacated_end
  vacated_is =
      ⊎_elim
      (λ (z : (y.at ≡ h + size x) × (r.place.turned ≡ false → y.at + size y ≤ r.place.tail)).
      inl (z.0, rw (vacated_end, ne_eqb y.at 0 (λ q. omega (arith, z.0)))))
      (λ (z : (y.at ≡ 0) × (floor h ≡ 0 → ⊥) × (r.place.turned ≡ true) × (size y ≤ r.place.tail)).
      inr (z.0, z.1, rw (vacated_end, eq-eqb y.at 0 z.0)))
      w.next

  -- (c) to (f), behind steps ss that touch only Y's low byte; k sectors are erased
  closed_by : (low : ℕ) (ss : List Step) → Bounded N ss → ((i : ℕ) → (i ≡ y.at → ⊥) → Untouched i ss) → (k : ℕ) → vacated_end N y ≤ N
      → vacated_end N y ≡ floor x.at + 4096 * k → Closed im (run im (ss ++ close_steps N x y low)) x y
  closed_by low ss in-ss off k inside q =
      let cs : List Step = close_steps N x y low in
      let ok : Bounded N (ss ++ cs) = bounded_append N ss cs in-ss (close_bounded N x y low N inside) in
      record {
        len = run_length im (ss ++ cs) ok;
        same = λ i o p m. untouched_run im (ss ++ cs) i ok (untouched_append i ss cs (off i m) (close_off N x y low i o p m));
        start =
            writes_run im (ss ++ cs) y.at 0 (omega (arith, second_in)) ok
            (writes_right ss cs y.at 0 (close_start N x y low second_off));
        free = λ i a b m. erased k q i a b m;
      } where
        erased : (k : ℕ) → vacated_end N y ≡ floor x.at + 4096 * k → (i : ℕ) → floor x.at ≤ i → i < vacated_end N y → (i ≡ y.at → ⊥)
            → get_or (run im (ss ++ close_steps N x y low)) i 0 ≡ 0xFF
        erased zero q i a b m = absurd (omega arith)
        erased (suc k) q i a b m =
            writes_run im (ss ++ close_steps N x y low) i 0xFF (omega arith)
            (bounded_append N ss (close_steps N x y low) in-ss (close_bounded N x y low N inside))
            (writes_right ss (close_steps N x y low) i 0xFF (close_erased N x y low k q i a b m))

  pub closed : (low : ℕ) (ss : List Step) → Bounded N ss → ((i : ℕ) → (i ≡ y.at → ⊥) → Untouched i ss)
      → Closed im (run im (ss ++ close_steps N x y low)) x y
  closed low ss in-ss off =
      ⊎_elim
      (λ (z : (y.at ≡ h + size x) × (vacated_end N y ≡ floor y.at)).
      closed_by low ss in-ss off (y.at / 4096 - x.at / 4096) (omega (arith, z.1, second_in)) (omega (arith, z.0, z.1, w.at)))
      (λ (z : (y.at ≡ 0) × (floor h ≡ 0 → ⊥) × (vacated_end N y ≡ N)).
      closed_by low ss in-ss off (N / 4096 - x.at / 4096) (omega (arith, z.2)) (omega (arith, z.2, w.at, w.wide, g.sectors)))
      vacated_is

  -- "Next START: head's second byte to 00", in one sector
  pub closed_start : floor y.at ≡ floor x.at → get_or im y.at 0 ≡ 0 → Closed im (run im (program (x.at + 1) 0x00 ∷ [])) x y
  closed_start f z =
      let end : vacated_end N y ≡ floor x.at =
      ⊎_elim
      (λ (v : (y.at ≡ h + size x) × (vacated_end N y ≡ floor y.at)). v.1 ∙ f)
      (λ (v : (y.at ≡ 0) × (floor h ≡ 0 → ⊥) × (vacated_end N y ≡ N)). absurd (v.1 (omega (arith, v.0, w.at, f))))
      vacated_is in
      record {
        len = length-set im (x.at + 1) 0;
        same =
            λ i o p m.
            get_or-set_other im (x.at + 1) i 0 0
            (⊎_elim (λ (a : i < x.at). λ e. omega arith) (λ (a : x.at + size x ≤ i). λ e. omega arith) o);
        start = get_or-set_other im (x.at + 1) y.at 0 0 second_off ∙ z;
        free = λ i a b m. absurd (omega (arith, end));
      }
