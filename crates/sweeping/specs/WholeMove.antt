-- The whole move: (a), and then (b) to (f) on the image that (a) left.
use Rattle.std.specs.Prelude.{ℕ, ◌+◌, ◌^◌, ◌≡◌, ◌++◌, length, get_or}
use Rattle.std.proofs.Common.{arith, sym, ap, subst, ◌∙◌}
use Rattle.spec.specs.Step.{Image, run}
use Rattle.spec.specs.Chain.{reading_from}
use Rattle.spec.specs.Move.{Work, begin, move}
use Rattle.flash.specs.declared.Meter.{Meter}
use Rattle.flash.specs.Did.{Did, did_all}
use Rattle.flash.specs.Meters.{AskedMost, Enough, UsedUp}
use Rattle.moving.specs.declared.NewHead.{NewHead}
use Rattle.flash.specs.Began.{Began, began_did, began_both, began_cut}
use Rattle.sweeping.specs.MoveSteps.{copying, handing, heading, move_is}
use Rattle.reading.specs.Standing.{Led, stands}
use Rattle.sweeping.specs.Handed.{Handed}

-- the definition's move of s, read from h on
abbrev pub whole_move : Image → ℕ → Work
whole_move s h = move (begin s (reading_from s h))

-- what a finished move leaves: its image, and the head that it is read from
pub record Left (s : Image) (h : ℕ) (t : Image) (next : ℕ) : Type 0 where
  pub image : (whole_move s h).image ≡ t
  pub reading : (whole_move s h).reading ≡ reading_from t next
  pub led : Led t next

pub record MoveMade (s : Image) (h : ℕ) (m : Meter) (t : Image) (r : NewHead) : Type 0 where
  pub begun : Began s m (whole_move s h).steps t r.meter
  pub left : Enough r.meter → Left s h t r.head
  pub few : AskedMost m r.meter (2 ^ 26)

-- the image that (a) left is led as before
pub led_still : {s t : Image} {h : ℕ} → Led s h → length t ≡ length s → get_or t h 0 ≡ get_or s h 0 → Led t h
led_still w l e =
    record {
      even = w.even;
      inside = omega (arith, w.inside);
      low = rw e w.low;
      eights = rw l w.eights;
      long = omega (arith, w.long);
      small = omega (arith, w.small);
    }

module _ {s t : Image} {h : ℕ} {m a : Meter} (w : Led s h) (d : Did s m (copying s h) t a) (few : AskedMost m a (length s + 15)) where
  steps_are : (whole_move s h).steps ≡ copying s h ++ handing (run s (copying s h)) h
  steps_are = ap (λ (v : Work). v.steps) (move_is s h (stands s h w).head)

  pub moved_cut : {i : ℕ} → UsedUp a → MoveMade s h m t (record { head = i; meter = a })
  moved_cut l =
      record {
        begun = rw steps_are (began_cut (began_did d) (handing (run s (copying s h)) h) l);
        left = λ n. absurd (omega arith);
        few = omega (arith, w.small);
      }

  pub moved_over : {u : Image} {r : NewHead} → Enough a → length t ≡ length s → Handed t h a u r → MoveMade s h m u r
  moved_over {u} {r} l k v =
      let e : t ≡ run s (copying s h) = did_all d l in
      record {
        begun = rw steps_are (began_both (began_did d) l
            (began_did (subst (λ (i : Image). Did t a (handing i h) u r.meter) e v.did)));
        left = λ n.
            let j : u ≡ run (run s (copying s h)) (handing (run s (copying s h)) h) = did_all v.did n
            ∙ ap (λ (i : Image). run i (handing i h)) e in
            record {
              image = ap (λ (y : Work). y.image) (move_is s h (stands s h w).head) ∙ sym j;
              reading =
                  ap (λ (y : Work). y.reading) (move_is s h (stands s h w).head)
                  ∙ ap (λ (i : Image). reading_from i (heading (run s (copying s h)) h)) (sym j)
                  ∙ ap (reading_from u) (ap (λ (i : Image). heading i h) (sym e) ∙ sym v.head);
              led = v.led n;
            };
        few = omega (arith, v.few, w.small);
      }
