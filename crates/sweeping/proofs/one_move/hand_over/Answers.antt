-- The first two records from the head on are X and Y of the definition; with fewer there are no steps.
use native.Mathlib.Omega.{arith}
use mathlib.Core.Path.{refl}
use Rattle.chain.proofs.Others.{other_step}
use Rattle.reading.specs.Standing.{taken}
use Rattle.sweeping.specs.Handed.{hand_none, hand_one, hand_two}
use Rattle.sweeping.proofs.one_move.hand_over.Goals as goal

pub returns-in_default : goal.returns-in_default
returns-in_default c =
    hand_none c.requires.led c.args.m c.advance.result c.first_cursor.ensures
    c.advance.ensures.0
    (other_step c.advance.result c.in_default.not-Record)

pub returns-in_default-advance : goal.returns-in_default-advance
returns-in_default-advance c =
    let t = taken c.first_cursor.ensures c.advance.ensures.0 c.advance.ensures.1 c.in-Record.is in
    hand_one c.requires.led c.args.m t c.advance-2.result c.advance-2.ensures.0
    (other_step c.advance-2.result c.in_default-advance.not-Record)

pub returns : goal.returns
returns c =
    let t = taken c.first_cursor.ensures c.advance.ensures.0 c.advance.ensures.1 c.in-Record.is in
    let u = taken refl c.advance-2.ensures.0 c.advance-2.ensures.1 c.in-Record-advance.is in
    hand_two c.requires.led c.args.m t u (omega arith) (omega arith) c.to_clean-a.ensures c.close-b.ensures.fact
    c.close-b.ensures.asked_most
