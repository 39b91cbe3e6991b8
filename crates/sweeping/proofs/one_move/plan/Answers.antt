-- By the first record, whether it is live and fits, and whether a second stands behind it.
use mathlib.Core.Path.{refl, ap, ◌∙◌}
use Rattle.std.proofs.Common.{not}
use Rattle.chain.proofs.Others.{other_step}
use Rattle.reading.specs.Standing.{taken}
use Rattle.sweeping.specs.Planned.{plan_none, plan_full, plan_copy, plan_last, plan_leave}
use Rattle.sweeping.proofs.one_move.plan.Goals as goal

pub returns-in_default : goal.returns-in_default
returns-in_default c =
    plan_none c.requires c.advance.result c.first_cursor-start.ensures c.advance.ensures.0
    (other_step c.advance.result c.in_default.not-Record)

pub returns-then-is_none : goal.returns-then-is_none
returns-then-is_none c =
    let t = taken c.first_cursor-start.ensures c.advance.ensures.0 c.advance.ensures.1 c.in-Record.is in
    plan_full c.requires t c.first_cursor-start.ensures c.is_live.ensures c.if-is_live.true c.size.ensures
    c.after.ensures (c.is_none.ensures ∙ ap not c.if-is_none.true)

pub returns-then-is_live : goal.returns-then-is_live
returns-then-is_live c =
    let t = taken c.first_cursor-start.ensures c.advance.ensures.0 c.advance.ensures.1 c.in-Record.is in
    plan_copy c.requires t c.first_cursor-start.ensures c.is_live.ensures c.if-is_live.true c.size.ensures
    c.after.ensures (c.is_none.ensures ∙ ap not c.if-is_none.false)

pub returns-in_default-advance : goal.returns-in_default-advance
returns-in_default-advance c =
    let t = taken c.first_cursor-start.ensures c.advance.ensures.0 c.advance.ensures.1 c.in-Record.is in
    plan_last c.requires t c.first_cursor-start.ensures c.is_live.ensures c.if-is_live.false
    c.advance-2.result c.advance-2.ensures.0 (other_step c.advance-2.result c.in_default-advance.not-Record)

pub returns : goal.returns
returns c =
    let t = taken c.first_cursor-start.ensures c.advance.ensures.0 c.advance.ensures.1 c.in-Record.is in
    plan_leave c.requires t c.first_cursor-start.ensures c.is_live.ensures c.if-is_live.false
    (taken refl c.advance-2.ensures.0 c.advance-2.ensures.1 c.in-Record-advance.is)
