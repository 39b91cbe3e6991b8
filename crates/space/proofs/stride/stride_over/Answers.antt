-- There is a Y.
use Rattle.std.proofs.Common.{sym, ◌∙◌, length}
use Rattle.planner.specs.Moves.{led_walkable}
use Rattle.space.specs.Strides.{over_on}
use Rattle.space.proofs.stride.stride_over.Goals as goal

pub returns : goal.returns
returns c =
    let a = c.args in
    let p = c.requires in
    let y = c.in_ok-y.y in
    let below = rw c.in_ok-y.was at c.find_next.ensures.1 in
    rw (c.led_wall.ensures, c.led.ensures)
    (over_on a.image.now a.past a.place a.copy a.wall y (sym c.find_next.ensures.0 ∙ c.in_ok-y.was)
    (record { cursor = p.0; place = led_walkable (length a.image.now) a.place y p.2 below; copy = p.1 }))
