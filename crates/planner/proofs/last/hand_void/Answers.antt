-- By its status.
use Rattle.std.proofs.Common.{sym, ◌∙◌, eqb-true}
use Rattle.std.proofs.lemmas.Bool.{eqb-false}
use Rattle.recovery.specs.Last.{void_torn, void_reserved, void_finished}
use Rattle.window.specs.Handed.{handed_none}
use Rattle.planner.proofs.last.hand_void.Goals as goal

pub returns-then-eq-clause-handed : goal.returns-then-eq-clause-handed
returns-then-eq-clause-handed c =
    let status = sym c.from_byte-status.ensures ∙ eqb-true _ 0xFF (sym c.if-eq.ensures) in
    rw (void_torn c.args.image.now c.args.e status) c.hand_torn.ensures

pub returns-then-eq-2-clause-handed : goal.returns-then-eq-2-clause-handed
returns-then-eq-2-clause-handed c =
    let status = sym c.from_byte-status.ensures ∙ eqb-true _ 0xFE (sym c.if-eq-2.ensures) in
    rw (void_reserved c.args.image.now c.args.e status) c.hand_reserved.ensures.handed

pub returns-else-eq-2-clause-handed : goal.returns-else-eq-2-clause-handed
returns-else-eq-2-clause-handed c =
    let read = c.from_byte-status.ensures in
    let torn = eqb-false _ 0xFF (sym c.if-eq.ensures) in
    let reserved = eqb-false _ 0xFE (sym c.if-eq-2.ensures) in
    rw (void_finished c.args.image.now c.args.e (λ h. torn (read ∙ h)) (λ h. reserved (read ∙ h))) (handed_none c.args.out.now)
