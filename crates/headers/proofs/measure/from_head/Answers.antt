use mathlib.Core.Path.{◌∙◌}
use Rattle.laws.specs.Flag.{flag}
use Rattle.chain.proofs.Others.{other_step}
use Rattle.headers.specs.Walk.{begin_sound, begun, none_begun, begun_elsewhere, begun_fails, begun_well, shut_past}
use Rattle.headers.proofs.measure.from_head.Goals as goal

pub forward-requires : goal.forward-requires
forward-requires c = begin_sound _ _ c.requires.0 c.requires.1 _ c.first_cursor-c.ensures

pub returns-in_default : goal.returns-in_default
returns-in_default c =
    let p = c.requires in
    none_begun _ _ p.0 p.1 _ c.first_cursor-c.ensures _ c.forward.ensures _
    (other_step c.forward.result c.in_default.not-Record)

pub returns-then-e-h : goal.returns-then-e-h
returns-then-e-h c =
    let p = c.requires in
    begun_elsewhere _ _ p.0 p.1 _ c.first_cursor-c.ensures _ c.forward.ensures _ c.in-Record.is
    c.if-e-h.true

pub stands-requires : goal.stands-requires
stands-requires c =
    let p = c.requires in
    (begun _ _ p.0 p.1 _ c.first_cursor-c.ensures _ c.forward.ensures c.in-Record.is).whole

pub returns-then-not-stands : goal.returns-then-not-stands
returns-then-not-stands c =
    let p = c.requires in
    begun_fails _ _ p.0 p.1 _ c.first_cursor-c.ensures _ c.forward.ensures _ c.in-Record.is c.if-e-h.false
    (flag c.stands.ensures c.if-not-stands.true)

pub noted-requires : goal.noted-requires
noted-requires c =
    let p = c.requires in
    (begun _ _ p.0 p.1 _ c.first_cursor-c.ensures _ c.forward.ensures c.in-Record.is).whole

pub walk_on-requires : goal.walk_on-requires
walk_on-requires c =
    let p = c.requires in
    let t = begun _ _ p.0 p.1 _ c.first_cursor-c.ensures _ c.forward.ensures c.in-Record.is in
    (t.onward.sound, shut_past _ t (flag c.stands.ensures c.if-not-stands.false))

pub returns : goal.returns
returns c =
    let p = c.requires in
    c.walk_on.ensures
    ∙ begun_well _ _ p.0 p.1 _ c.first_cursor-c.ensures _ c.forward.ensures _ c.in-Record.is _ _
    c.noted.ensures
    c.no_sizes.ensures c.if-e-h.false (flag c.stands.ensures c.if-not-stands.false)
