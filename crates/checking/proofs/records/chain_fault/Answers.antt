use Rattle.laws.specs.Flag.{flag}
use Rattle.chain.specs.Fold.{passes}
use Rattle.chain.proofs.Others.{other_step}
use Rattle.checking.specs.Following.{going_end, going_stop, going_on, front_length}
use Rattle.checking.proofs.records.chain_fault.Goals as goal

pub record_fault-f-requires : goal.record_fault-f-requires
record_fault-f-requires c =
    let t = passes c.advance.ensures c.in-Record.is in
    (c.requires.0, t.whole, c.requires.1, front_length _ _ _ _ c.loop-spot.invariant t)

pub returns-then-is_some : goal.returns-then-is_some
returns-then-is_some c =
    going_stop _ _ _ _ c.loop-spot.invariant (passes c.advance.ensures c.in-Record.is) c.record_fault-f.result
    c.record_fault-f.ensures (flag c.is_some.ensures c.if-is_some.true)

pub loop-spot-preserved : goal.loop-spot-preserved
loop-spot-preserved c =
    going_on _ _ _ _ c.loop-spot.invariant (passes c.advance.ensures c.in-Record.is) c.record_fault-f.result
    c.record_fault-f.ensures (flag c.is_some.ensures c.if-is_some.false)

pub returns : goal.returns
returns c =
    going_end _ _ _ _ c.loop-spot.invariant c.advance.result c.advance.ensures.0
    (other_step c.advance.result c.in_default.not-Record)
