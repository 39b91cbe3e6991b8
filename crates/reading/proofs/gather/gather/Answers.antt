use mathlib.Core.Path.{ap}
use Rattle.chain.specs.Cursor.{left}
use Rattle.chain.specs.Fold.{passes, fold_end}
use Rattle.chain.specs.Tally.{none_yet, passed, end_inside}
use Rattle.reading.specs.Gather.{gathering_start, gathered_repeats, gathered_found}
use Rattle.chain.proofs.Others.{other_step}
use native.Mathlib.Omega.{arith}
use Rattle.reading.proofs.gather.gather.Goals as goal

pub loop-e-init : goal.loop-e-init
loop-e-init c =
    let p = c.requires in
    rw c.nothing_yet-g.ensures (gathering_start p.0 p.1 (omega arith))

pub advance-end-requires : goal.advance-end-requires
advance-end-requires c = c.loop-e.invariant.gone.sound

pub returns-in_default : goal.returns-in_default
returns-in_default c =
    let adv = c.advance-end in
    let inv = c.loop-e.invariant in
    let z = other_step adv.result c.in_default.not-Record in (
      fold_end passed _ _ none_yet _ _ inv.passing.fold adv.result adv.ensures.0 z,
      inv.passing.spots,
      end_inside _ _ adv.result adv.ensures.1,
      gathered_repeats adv.result inv adv.ensures.0 z,
      rw c.found_of.ensures (gathered_found adv.result inv adv.ensures.0 z),
    )

pub gather_one-g-requires : goal.gather_one-g-requires
gather_one-g-requires c =
    let w = passes c.advance-end.ensures c.in-Record.is in
    (c.requires.0, record { state = c.loop-e.invariant; passes = w })

pub gather_plain-g-requires : goal.gather_plain-g-requires
gather_plain-g-requires c =
    (c.requires.0, c.gather_one-g.ensures.0, c.if-g-ge2.true)

pub loop-e-smaller-then-g-ge2 : goal.loop-e-smaller-then-g-ge2
loop-e-smaller-then-g-ge2 c =
    let l = (passes c.advance-end.ensures c.in-Record.is).onward.less in
    let e = ap left c.gather_one-g.ensures.1 in
    omega (arith, c.gather_plain-g.ensures.1, l, e)

pub loop-e-preserved-then-g-ge2 : goal.loop-e-preserved-then-g-ge2
loop-e-preserved-then-g-ge2 c = c.gather_plain-g.ensures.0

pub loop-e-smaller : goal.loop-e-smaller
loop-e-smaller c =
    rw c.gather_one-g.ensures.1 (passes c.advance-end.ensures c.in-Record.is).onward.less

pub loop-e-preserved : goal.loop-e-preserved
loop-e-preserved c = c.gather_one-g.ensures.0
