-- The second record is the head, or the first stays.
use Rattle.std.proofs.Common.{sym, ◌∙◌}
use Rattle.planner.specs.Mount.{place_led, place_stays}
use Rattle.planner.proofs.mount.mended_place.Goals as goal

pub returns-then-leads : goal.returns-then-leads
returns-then-leads c =
    c.led.ensures ∙ place_led c.requires (sym c.leads.ensures ∙ c.if-leads.true)

pub returns : goal.returns
returns c =
    place_stays c.requires (sym c.leads.ensures ∙ c.if-leads.false)
