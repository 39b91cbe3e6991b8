-- By the one test.
use Rattle.space.specs.Space.{led_low, led_high}
use Rattle.space.proofs.counting.led_wall.Goals as goal

pub returns-then-y-eq0 : goal.returns-then-y-eq0
returns-then-y-eq0 c = let a = c.args in led_low a.length a.y a.wall c.if-y-eq0.true

pub returns-else-y-eq0 : goal.returns-else-y-eq0
returns-else-y-eq0 c = let a = c.args in led_high a.length a.y a.wall c.if-y-eq0.false
