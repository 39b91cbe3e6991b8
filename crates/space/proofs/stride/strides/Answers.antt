use Rattle.std.proofs.Common.{arith, subst, ◌+◌, ◌-◌}
use Rattle.chain.specs.Rest.{rest}
use Rattle.space.specs.Strides.{StrodeOn, striding_end, striding_stop, striding_more}
use Rattle.space.proofs.stride.strides.Goals as goal

pub returns-in_default : goal.returns-in_default
returns-in_default c =
    let a = c.args in
    let l = c.loop in (
      striding_stop l.invariant (a.most - (l.counter + 1)) (omega (arith, c.loop-test.true))
          (subst (StrodeOn a.image.now (rest a.image.now a.start).entries l.u) c.in_default.is c.stride.ensures),
      l.invariant.known.place,
    )

pub loop-preserved : goal.loop-preserved
loop-preserved c =
    let a = c.args in
    let l = c.loop in
    striding_more l.invariant (a.most - (l.counter + 1)) (omega (arith, c.loop-test.true)) c.in-Some.next
    (subst (StrodeOn a.image.now (rest a.image.now a.start).entries l.u) c.in-Some.is c.stride.ensures)

pub returns : goal.returns
returns c =
    let l = c.loop in
    (striding_end l.invariant (omega (arith, c.loop-test.false)), l.invariant.known.place)
