-- A planned sweep: from the moves that were handed out to what the definition hands out.
use Rattle.std.specs.Prelude.{ℕ, min, ◌≡◌, Bool, false, not, List, length}
use Rattle.std.proofs.Common.{arith, sym, ap₂, ◌∙◌}
use Rattle.std.proofs.Math.Path.{ap}
use Rattle.std.proofs.Math.Option.{none}
use Rattle.spec.specs.declared.Space.{Space}
use Rattle.spec.specs.Step.{Image, Step}
use Rattle.spec.specs.Basics.{Answer, give, checked, concat, numbered}
use Rattle.spec.specs.Record.{Entry}
use Rattle.spec.specs.Chain.{Reading, reading_from}
use Rattle.spec.specs.Sweep.{no_room, sweep_moves}
use Rattle.spec.specs.Door.{admitted}
use Rattle.spec.specs.Space.{space_left, sweep_work}
use Rattle.spec.specs.Numbers.{of_sweep}
use Rattle.spec.specs.Answers.{Plan, sweeping, sweep_of}
use Rattle.spec.specs.Planner.{hand_out}
use Rattle.laws.specs.Door.{admitted_gives}
use Rattle.planning.specs.Planned.{walked}
use Rattle.planning.specs.Walked.{sweep_as_walked}
use Rattle.chain.specs.declared.Cursor.{Cursor}
use Rattle.reading.specs.declared.Survey.{Survey}
use Rattle.chain.specs.Rest.{rest}
use Rattle.reading.specs.Read.{first_cursor, reading_of}
use Rattle.reading.specs.RuleLaws.{count_is}
use Rattle.reading.specs.Accepted.{Accepted}
use Rattle.window.specs.declared.Emitter.{Emitter}
use Rattle.window.specs.Handed.{held}
use Rattle.planner.specs.Sweep.{MovesHanded}
use Rattle.calls.specs.Sweep.{moving}
use Rattle.plans.specs.Planned.{handing, count_in, planned_out}

-- the moves of a sweep, all of them
swept_out : {w r : Emitter} {n : ℕ} {x : Space} (ms : List (List Step)) → w.passed ≡ 0 → MovesHanded w ms n r
    → handing (of_sweep 0 n x r.passed) (count_in r) (held r) ≡ hand_out (give (moving ms x)) w.first (held w)
swept_out {w} {r} {n} {x} ms z h =
    let steps : r.passed ≡ length (concat ms) = omega (arith, h.handed.count) in
    ap₂ (λ (i k : ℕ). handing (of_sweep 0 i x k) (count_in r) (held r)) h.count steps ∙ planned_out (moving ms x) z h.handed

module _ (image : Image) (s : Survey) (w : Accepted image s) where
  abbrev all : List Entry
  all = (rest image (first_cursor image s.place.head)).entries

  -- the engine's moves are the definition's
  walked_is : give (reading_of image s) ≡ admitted image
      → walked (min 5 s.tally.records) all s.place all none ≡ sweep_moves image (reading_of image s)
  walked_is e =
      let g = admitted_gives image (reading_of image s) (sym e) in
      ap (λ (i : ℕ). walked (min 5 i) all s.place all none) (count_is w.surveyed.tallied)
      ∙ sym (sweep_as_walked image (reading_of image s) g.0 g.1)

  -- 28, or the moves
  pub sweep_out : (t : Bool) → t ≡ no_room (reading_from image s.place.head) (reading_from image s.place.head).entries
      → checked (not t) (numbered 28) (give (sweeping image (reading_of image s))) ≡ sweep_of image (reading_of image s)
  unfolding sweep_of
  sweep_out t e =
      ap (λ (b : Bool). checked (not b) (numbered 28) (give (sweeping image (reading_of image s))))
      (e ∙ ap (λ (x : Reading). no_room x x.entries) (sym w.same))

  -- the moves that were handed out, as the definition hands them out
  pub moves_out : {v r : Emitter} {n k : ℕ} {c : Cursor} {x : Space} → give (reading_of image s) ≡ admitted image
      → x ≡ space_left (sweep_work image (reading_of image s))
      → false ≡ no_room (reading_from image s.place.head) (reading_from image s.place.head).entries
      → k ≡ min 5 s.tally.records → c ≡ first_cursor image s.place.head → v.passed ≡ 0
      → MovesHanded v (walked k (rest image c).entries s.place (rest image c).entries none) n r
      → handing (of_sweep 0 n x r.passed) (count_in r) (held r) ≡ hand_out (sweep_of image (reading_of image s)) v.first (held v)
  moves_out {v} {x = x} e o room most start z h =
      let same = ap₂ (λ (i : ℕ) (d : Cursor). walked i (rest image d).entries s.place (rest image d).entries none) most start in
      swept_out _ z h
      ∙ ap₂ (λ (ms : List (List Step)) (y : Space). hand_out (give (moving ms y)) v.first (held v)) (same ∙ walked_is e) o
      ∙ ap (λ (x : Answer Plan). hand_out x v.first (held v)) (sweep_out false room)
