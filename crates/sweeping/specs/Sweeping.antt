-- Moves one after another, as the sweep makes them.
use Rattle.std.specs.Prelude.{ℕ, suc, ◌+◌, ◌*◌, ◌≤◌, ◌^◌, ◌≡◌, true, false, [], ◌∷◌}
use Rattle.std.proofs.Common.{arith, add-zero, ap, ap₂, ◌∙◌}
use Rattle.spec.specs.declared.Place.{Place}
use Rattle.spec.specs.Step.{Image}
use Rattle.spec.specs.Chain.{reading_from}
use Rattle.spec.specs.Sweep.{stuck, moves}
use Rattle.flash.specs.declared.Meter.{Meter}
use Rattle.flash.specs.Meters.{AskedMost, Enough, UsedUp}
use Rattle.sweeping.specs.declared.MoveEnd.{MoveEnd}
use Rattle.flash.specs.Began.{Began}
use Rattle.sweeping.specs.Moves.{Moves, moves_none, moves_cut, moves_more}
use Rattle.laws.specs.Sweep.{moves_stuck, moves_next}
use Rattle.sweeping.specs.Planned.{PlaceOf}
use Rattle.sweeping.specs.WholeMove.{whole_move, Left}

-- a move that was cut
pub record MoveCut (s : Image) (h : ℕ) (m : Meter) (t : Image) (q : Meter) : Type 0 where
  pub on : stuck (reading_from s h) ≡ false
  pub begun : Began s m (whole_move s h).steps t q
  pub over : UsedUp q

-- a move that was finished, and the place that it leaves
pub record MoveDone (s : Image) (h : ℕ) (m : Meter) (t : Image) (p : Place) (q : Meter) : Type 0 where
  pub on : stuck (reading_from s h) ≡ false
  pub begun : Began s m (whole_move s h).steps t q
  pub within : Enough q
  pub left : Left s h t p.head
  pub headed : PlaceOf t p
  pub few : AskedMost m q (2 ^ 26)

abbrev pub MoveEnded : Image → ℕ → Meter → Image → MoveEnd → Type 0
MoveEnded s h m t MoveEnd.Stuck = (stuck (reading_from s h) ≡ true) × (t ≡ s)
MoveEnded s h m t (MoveEnd.Cut q) = MoveCut s h m t q
MoveEnded s h m t (MoveEnd.Done p q) = MoveDone s h m t p q

-- ---- the loop: whatever makes the moves that are left makes them all

pub record Sweeping (s : Image) (m : Meter) (k h : ℕ) (t : Image) (q : Meter) (left : ℕ) (p : Place) (n : ℕ) : Type 0 where
  pub onward : (u : Image) (i : ℕ) (r : Meter) → Moves t q (moves left t (reading_from t p.head)) u i r
      → Moves s m (moves k s (reading_from s h)) u (n + i) r
  pub headed : PlaceOf t p
  pub few : q.asked + left * 2 ^ 26 ≤ 2 ^ 30

module _ {s : Image} {m : Meter} {k h : ℕ} {t : Image} {q : Meter} {left : ℕ} {p : Place} {n : ℕ} (w : Sweeping s m k h t q left p n) where
  none_left : moves left t (reading_from t p.head) ≡ [] → Moves s m (moves k s (reading_from s h)) t n q
  none_left e = rw (add-zero n) at (w.onward t 0 q (rw e (moves_none t q)))

  pub sweeping_end : left ≡ 0 → Moves s m (moves k s (reading_from s h)) t n q
  unfolding moves
  sweeping_end e = none_left (ap (λ (i : ℕ). moves i t (reading_from t p.head)) e)

  pub sweeping_stuck : {u : Image} → (stuck (reading_from t p.head) ≡ true) × (u ≡ t) → Moves s m (moves k s (reading_from s h)) u n q
  sweeping_stuck e = rw e.1 (none_left (moves_stuck t (reading_from t p.head) left e.0))

  module _ (i : ℕ) (l : left ≡ suc i) where
    next_is : stuck (reading_from t p.head) ≡ false
        → moves left t (reading_from t p.head) ≡ (whole_move t p.head).steps ∷ moves i (whole_move t p.head).image
        (whole_move t p.head).reading
    next_is e = ap (λ (j : ℕ). moves j t (reading_from t p.head)) l ∙ moves_next t (reading_from t p.head) i e

    pub sweeping_cut : {u : Image} {r : Meter} → MoveCut t p.head q u r → Moves s m (moves k s (reading_from s h)) u n r
    sweeping_cut {u} {r} c =
        rw (add-zero n) at (w.onward u 0 r
        (rw (next_is c.on) (moves_cut (moves i (whole_move t p.head).image (whole_move t p.head).reading) c.begun c.over)))

    pub sweeping_more : {u : Image} {r : Meter} {v : Place} → MoveDone t p.head q u v r → Sweeping s m k h u r i v (n + 1)
    sweeping_more {u} {r} {v} c =
        let e : moves i (whole_move t p.head).image (whole_move t p.head).reading ≡ moves i u (reading_from u v.head) =
        ap₂ (moves i)
        c.left.image c.left.reading in
        record {
          onward = λ x j y g.
              let o : n + suc j ≡ n + 1 + j = omega arith in
              rw o at (w.onward x (suc j) y (rw (next_is c.on, e)
              (moves_more (moves i u (reading_from u v.head)) c.begun c.within g)));
          headed = c.headed;
          few = omega (arith, w.few, c.few);
        }
