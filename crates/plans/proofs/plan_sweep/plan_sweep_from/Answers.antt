-- No room for the first move is 28; else the moves by the entry chain are the definition's.
use Rattle.std.proofs.Common.{sym, ap, ◌∙◌, arith, true}
use Rattle.laws.specs.Flag.{flag}
use Rattle.spec.specs.Refusals.{numbered}
use Rattle.spec.specs.Basics.{Answer}
use Rattle.spec.specs.Answers.{Plan}
use Rattle.spec.specs.Planner.{hand_out}
use Rattle.reading.specs.Standing.{start_sound}
use Rattle.window.specs.Handed.{held, lent_still}
use Rattle.calls.specs.Sweep.{headed}
use Rattle.calls.specs.Space.{countable_admitted, sweep_told}
use Rattle.calls.specs.Walkable.{walkable}
use Rattle.plans.specs.Planned.{refused_out}
use Rattle.plans.specs.PlanSweep.{sweep_out, moves_out}
use Rattle.plans.proofs.plan_sweep.plan_sweep_from.Goals as goal

pub no_room-requires : goal.no_room-requires
no_room-requires c = headed c.args.image.now c.args.s c.requires.0.accepted

pub returns-then-no_room : goal.returns-then-no_room
returns-then-no_room c =
    let a = c.args in
    let w = a.out.now in
    let full = sym (flag c.no_room.ensures c.if-no_room.true) in record {
      told =
          refused_out (numbered 28) w.first (held w)
          ∙ ap (λ (x : Answer Plan). hand_out x w.first (held w)) (sweep_out a.image.now a.s c.requires.0.accepted true full);
      lent = lent_still w;
    }

pub sweep_space-space-requires : goal.sweep_space-space-requires
sweep_space-space-requires c =
    let a = c.args in
    let p = c.requires in
    (countable_admitted p.0.accepted p.1, walkable a.image.now a.s p.0.accepted, p.0.quiet)

pub hand_sweep-moves-requires : goal.hand_sweep-moves-requires
hand_sweep-moves-requires c =
    let a = c.args in
    let w = c.requires.0.accepted in (
      start_sound w.led c.first_cursor-start.ensures,
      walkable a.image.now a.s w,
      omega (arith, c.at_most-most.ensures),
      c.requires.2,
    )

pub returns : goal.returns
returns c =
    let a = c.args in
    let p = c.requires in
    let room = sym (flag c.no_room.ensures c.if-no_room.false) in
    let told = sweep_told a.image.now a.s c.sweep_space-space.result p.0.accepted p.1 c.at_most-most.ensures
    c.sweep_space-space.ensures in record {
      told =
          rw c.handed.ensures (
          moves_out a.image.now a.s p.0.accepted p.1 told room c.at_most-most.ensures c.first_cursor-start.ensures p.2
          c.hand_sweep-moves.ensures
          );
      lent = c.hand_sweep-moves.ensures.handed.lent;
    }
