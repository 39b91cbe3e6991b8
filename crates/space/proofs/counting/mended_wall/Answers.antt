-- The second record is the head, or the first stays.
use Rattle.std.proofs.Common.{sym, ◌∙◌}
use Rattle.space.specs.Space.{mended_led, mended_stays}
use Rattle.space.proofs.counting.mended_wall.Goals as goal

pub returns-then-leads : goal.returns-then-leads
returns-then-leads c =
    c.led_wall.ensures ∙ mended_led c.requires c.args.wall (sym c.leads.ensures ∙ c.if-leads.true)

pub returns : goal.returns
returns c =
    mended_stays c.requires c.args.wall (sym c.leads.ensures ∙ c.if-leads.false)
