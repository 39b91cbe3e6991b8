use Rattle.chain.specs.Fold.{passes, fold_end}
use Rattle.chain.specs.Tally.{none_yet, passed, passing_start, passing_step, addable_size, end_inside}
use Rattle.chain.proofs.Others.{other_step}
use native.Mathlib.Omega.{arith}
use Rattle.chain.proofs.scan.pass.Goals as goal

pub loop-e-init : goal.loop-e-init
loop-e-init c = rw c.none_yet.ensures (passing_start c.requires.0 c.requires.1)

pub advance-end-requires : goal.advance-end-requires
advance-end-requires c = c.loop-e.invariant.fold.sound

pub returns-in_default : goal.returns-in_default
returns-in_default c =
    let l = c.loop-e in (
      fold_end passed _ _ none_yet _ _ l.invariant.fold c.advance-end.result c.advance-end.ensures.0
          (other_step c.advance-end.result c.in_default.not-Record),
      l.invariant.spots,
      end_inside c.args.image.now l.g.cursor c.advance-end.result c.advance-end.ensures.1,
    )

pub noted-requires : goal.noted-requires
noted-requires c =
    let p = c.requires in
    let t = passes c.advance-end.ensures c.in-Record.is in
    let inv = c.loop-e.invariant in
    (t.whole, omega (arith, inv.few, p.0.inside, p.0.room, p.0.small), t.onward.pending, inv.files, addable_size p.0 inv t)

pub pass_plain-g-requires : goal.pass_plain-g-requires
pass_plain-g-requires c =
    let q = passing_step c.loop-e.invariant (passes c.advance-end.ensures c.in-Record.is) c.noted.ensures in
    (c.requires.0, q, c.if-g-ge2.true)

pub loop-e-smaller-then-g-ge2 : goal.loop-e-smaller-then-g-ge2
loop-e-smaller-then-g-ge2 c =
    omega (arith, c.pass_plain-g.ensures.1, (passes c.advance-end.ensures c.in-Record.is).onward.less)

pub loop-e-preserved-then-g-ge2 : goal.loop-e-preserved-then-g-ge2
loop-e-preserved-then-g-ge2 c = c.pass_plain-g.ensures.0

pub loop-e-smaller : goal.loop-e-smaller
loop-e-smaller c =
    (passes c.advance-end.ensures c.in-Record.is).onward.less

pub loop-e-preserved : goal.loop-e-preserved
loop-e-preserved c =
    passing_step c.loop-e.invariant (passes c.advance-end.ensures c.in-Record.is) c.noted.ensures
