-- At the end with sectors below; or not.
use Rattle.std.proofs.Common.{arith, sym}
use Rattle.std.proofs.lemmas.Bool.{not-true, not-false}
use Rattle.planner.specs.Place.{round_turned, round_on, round_low, round_short}
use Rattle.planner.proofs.place.come_round.Goals.{else-not-p-via-then-not-p+then-p+else-floor-gt0}
use Rattle.planner.proofs.place.come_round.Goals.{else-not-p-via-then-not-p+else-p, else-not-p-via-else-not-p}
use Rattle.planner.proofs.place.come_round.Goals as goal

pub returns-then-floor-gt0 : goal.returns-then-floor-gt0
returns-then-floor-gt0 c =
    sym (round_on c.args.p (not-true _ c.if-not-p.true) c.if-p.true (omega (arith, c.floor.ensures.0, c.if-floor-gt0.true)))

pub returns : goal.returns
returns c =
    elim c.else-not-p.branch [
      | else-not-p-via-then-not-p+then-p+else-floor-gt0 w ↦
          sym (round_low c.args.p (not-true _ w.if-not-p.true) w.if-p.true (omega (arith, w.floor.ensures.0, w.if-floor-gt0.false)))
      | else-not-p-via-then-not-p+else-p w ↦ sym (round_short c.args.p (not-true _ w.if-not-p.true) w.if-p.false)
      | else-not-p-via-else-not-p w ↦ sym (round_turned c.args.p (not-false _ w.if-not-p.false))
    ]
