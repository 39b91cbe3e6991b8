use Rattle.std.proofs.Common.{arith, subst, ◌+◌, ◌-◌}
use Rattle.chain.specs.Rest.{rest}
use Rattle.planner.specs.Moves.{MoveHanded}
use Rattle.planner.specs.Sweep.{walking_end, walking_stop, walking_more}
use Rattle.planner.proofs.sweep.hand_sweep.Goals as goal

pub returns-in_default : goal.returns-in_default
returns-in_default c =
    let a = c.args in
    let l = c.loop-n in
    walking_stop l.invariant (a.most - (l.n + 1)) (omega (arith, c.loop-n-test.true)) c.hand_move.new.out
    (subst (MoveHanded a.image.now (rest a.image.now a.start).entries l.v l.out c.hand_move.new.out) c.in_default.is c.hand_move.ensures)

pub loop-n-preserved : goal.loop-n-preserved
loop-n-preserved c =
    let a = c.args in
    let l = c.loop-n in
    walking_more l.invariant (a.most - (l.n + 1)) (omega (arith, c.loop-n-test.true)) c.in-Some.next c.hand_move.new.out
    (subst (MoveHanded a.image.now (rest a.image.now a.start).entries l.v l.out c.hand_move.new.out) c.in-Some.is c.hand_move.ensures)

pub returns : goal.returns
returns c =
    let l = c.loop-n in
    let g = walking_end l.invariant (omega (arith, c.loop-n-test.false)) in
    record { handed = g.handed; count = omega (arith, g.count, l.auto.n-end, c.loop-n-test.false) }
