-- Sweep: from its moves and its meter to the definitions' outcome.
use Rattle.std.specs.Prelude.{ℕ, ◌-◌, ◌≤◌, ◌<◌, min, ◌≡◌, Bool, not, List, take, Ok}
use native.Mathlib.Omega.{arith}
use Rattle.std.proofs.Common.{sym, ap₂, ◌∙◌}
use Rattle.std.proofs.Math.Path.{ap}
use Rattle.std.proofs.Math.ListN.{length}
use borrow.Author.Tests.{le-leb, lt-leb}
use Rattle.spec.specs.declared.Space.{Space}
use Rattle.spec.specs.Step.{Image, Step, run}
use Rattle.spec.specs.Basics.{give, checked, concat, numbered}
use Rattle.spec.specs.Chain.{Reading, reading_from}
use Rattle.spec.specs.Sweep.{no_room, moves}
use Rattle.spec.specs.Numbers.{outcome_of, of_sweep}
use Rattle.spec.specs.Space.{no_space, space_left, sweep_work}
use Rattle.spec.specs.Answers.{Plan, finished, numbers_of, carry_out, sweep_of}
use Rattle.flash.specs.declared.Meter.{Meter}
use Rattle.flash.specs.Meters.{Enough, UsedUp}
use Rattle.reading.specs.declared.Survey.{Survey}
use Rattle.reading.specs.RuleLaws.{count_is}
use Rattle.reading.specs.Read.{reading_of}
use Rattle.reading.specs.Accepted.{Accepted}
use Rattle.sweeping.specs.Moves.{Moves, finished_all}
use Rattle.sweeping.specs.Planned.{PlaceOf}
use Rattle.calls.specs.declared.Swept.{Swept}
use Rattle.calls.specs.Numbers.{swept}

-- what the moves of an image that was read go by
pub headed : (image : Image) (s : Survey) → Accepted image s → PlaceOf image s.place
headed image s w = record { led = w.led; same = ap (λ (r : Reading). r.place) w.same }

-- ---- the moves, carried out

-- the plan of these moves, with this record
abbrev pub moving : List (List Step) → Space → Plan
moving ms x = record { steps = concat ms; moves = ms; done = of_sweep 0 (length ms) x (length (concat ms)) }

module _ {s t : Image} {m r : Meter} {ms : List (List Step)} {n : ℕ} (k : ℕ) (z : m.asked ≡ 0) (a : m.allowance ≡ k)
    (w : Moves s m ms t n r) where
  left_is : t ≡ run s (take k (concat ms))
  left_is =
      let e : m.allowance - m.asked ≡ k = omega arith in
      w.begun.bytes ∙ ap (λ (i : ℕ). run s (take i (concat ms))) e

  count_as : n ≡ finished k 0 ms
  count_as = w.count ∙ ap₂ (λ (i j : ℕ). finished i j ms) a z

  pub swept_done : (x : Space) → Enough r → outcome_of (swept (Ok (Swept.Done n x r.asked))) t ≡ carry_out s k (give (moving ms x))
  unfolding carry_out numbers_of
  swept_done x h =
      let e : r.asked ≡ length (concat ms) = w.begun.whole h ∙ omega arith in
      let l : length (concat ms) ≤ k = omega (arith, w.begun.same) in
      let f : n ≡ length ms = count_as ∙ finished_all k 0 ms (omega arith) in
      rw (carry_out, numbers_of, le-leb (length (concat ms)) k l) (ap₂ outcome_of (ap₂ (λ (i j : ℕ). of_sweep 0 i x j) f e) left_is)

  pub swept_cut : (x : Space) → UsedUp r → outcome_of (swept (Ok (Swept.Cut n r.allowance))) t ≡ carry_out s k (give (moving ms x))
  unfolding carry_out numbers_of
  swept_cut x h =
      let l : k < length (concat ms) = omega (arith, w.begun.cut h) in
      rw (carry_out, numbers_of, lt-leb (length (concat ms)) k l)
      (ap₂ outcome_of (ap₂ (λ (i j : ℕ). of_sweep 4 i no_space j) count_as (w.begun.same ∙ a)) left_is)

-- ---- the plan

module _ (image : Image) (k : ℕ) where
  -- 28, or the moves
  pub sweep_room : (s : Survey) (t : Bool) (x : Space) → Accepted image s
      → t ≡ no_room (reading_from image s.place.head) (reading_from image s.place.head).entries
      → x ≡ space_left (sweep_work image (reading_of image s))
      → carry_out image k (checked (not t) (numbered 28)
      (give (moving (moves (min 5 s.tally.records) image (reading_from image s.place.head)) x)))
      ≡ carry_out image k (sweep_of image (reading_of image s))
  unfolding sweep_of
  sweep_room s t x w e q =
      let r : Reading = reading_from image s.place.head in
      let c : s.tally.records ≡ length r.entries = count_is w.surveyed.tallied
      ∙ ap (λ (x : Reading). length x.entries) w.same in
      let y : x ≡ space_left (sweep_work image r) = q ∙ ap (λ (v : Reading). space_left (sweep_work image v)) w.same in
      (λ j. carry_out image k (checked (not (e j)) (numbered 28) (give (moving (moves (min 5 (c j)) image r) (y j)))))
      ∙ ap (λ (x : Reading). carry_out image k (sweep_of image x)) (sym w.same)
