-- There is a Y.
use Rattle.std.proofs.Common.{sym, ◌∙◌, length}
use Rattle.chain.specs.Rest.{entry_of, rest}
use Rattle.planner.specs.Walk.{over_at, over_steps}
use Rattle.planner.specs.Moves.{led_walkable}
use Rattle.planner.proofs.sweep.hand_over.Goals as goal

pub returns : goal.returns
returns c =
    let a = c.args in
    let i = a.image.now in
    let p = c.requires.cursor_sound in
    let n = length i in
    let y = c.in_ok-y.y in
    let below = rw c.in_ok-y.was at c.find_next.ensures.1 in
    let e = sym c.find_next.ensures.0 ∙ c.in_ok-y.was in
    rw c.led.ensures (record {
      steps = over_steps n (entry_of i a.x) y;
      handed = c.hand_next.ensures.handed;
      moves = λ k all ss. over_at k all n (entry_of i a.x) (rest i a.past).entries a.place a.copy ss y e;
      known = record { cursor = p.0; place = led_walkable n a.place y p.3 below; copy = p.2 };
      few = c.hand_next.ensures.passed_bound;
    })
