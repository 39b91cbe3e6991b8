-- Nothing at the cursor; a live record; or a dead one.
use Rattle.std.proofs.Common.{ap}
use Rattle.laws.specs.Flag.{flag}
use Rattle.chain.specs.Rest.{Run, rest}
use Rattle.chain.specs.Fold.{passes, rest_done}
use Rattle.chain.proofs.Others.{other_step}
use Rattle.planner.specs.Moves.{move_none, move_live, move_dead}
use Rattle.planner.proofs.sweep.hand_move.Goals as goal

pub returns-in_default : goal.returns-in_default
returns-in_default c =
    let a = c.args in
    let i = a.image.now in
    let none = rest_done i a.v.cursor c.advance.result c.advance.ensures.0 (other_step c.advance.result c.in_default.not-Record) in
    move_none i (rest i a.start).entries a.v c.requires.cursor_sound.1 a.out.now (ap (λ (r : Run). r.entries) none)

pub returns-then-is_live : goal.returns-then-is_live
returns-then-is_live c =
    let a = c.args in
    let i = a.image.now in
    let t = passes c.advance.ensures c.in-Record.is in
    move_live i (rest i a.start).entries a.v c.requires.cursor_sound.1 c.in-Record.x c.in-Record.past
    (ap (λ (r : Run). r.entries) t.split) a.out.now _ c.hand_live.result (flag c.is_live.ensures c.if-is_live.true) c.hand_live.ensures

pub returns : goal.returns
returns c =
    let a = c.args in
    let i = a.image.now in
    let t = passes c.advance.ensures c.in-Record.is in
    move_dead i (rest i a.start).entries a.v c.requires.cursor_sound.1 c.in-Record.x c.in-Record.past
    (ap (λ (r : Run). r.entries) t.split) a.out.now _ c.hand_over.result (flag c.is_live.ensures c.if-is_live.false) c.hand_over.ensures
