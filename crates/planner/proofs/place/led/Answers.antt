-- Turned, unless Y is at 0.
use Rattle.std.proofs.Common.{sym, ap, ◌∙◌, Bool, ◌&&◌, not, eqb}
use Rattle.spec.specs.declared.Place.{Place}
use Rattle.planning.specs.Planned.{come_round, led_place}
use Rattle.planner.specs.Place.{with_head}
use Rattle.planner.proofs.place.led.Goals.{then-p, else-p}
use Rattle.planner.proofs.place.led.Goals as goal

pub returns : goal.returns
unfolding led_place
returns c =
    let p = c.args.p in
    let y = c.args.y in
    let led : Bool → Place = λ t. come_round (with_head p y t) in
    let both : Bool → Bool = λ t. t && not (eqb y 0) in
    elim c.if-p.branch [
      | then-p w ↦ c.come_round.ensures ∙ ap led (w.come_round-is ∙ ap both (sym w.if-p.true))
      | else-p w ↦ c.come_round.ensures ∙ ap led (w.come_round-is ∙ w.if-p.false ∙ ap both (sym w.if-p.false))
    ]
