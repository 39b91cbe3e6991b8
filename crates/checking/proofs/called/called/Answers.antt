use Rattle.laws.specs.Flag.{flag}
use Rattle.chain.specs.Fold.{passes}
use Rattle.chain.specs.Seek.{any_over, any_found, any_onward}
use Rattle.checking.specs.Called.{is_called}
use Rattle.chain.proofs.Others.{other_step}
use Rattle.checking.proofs.called.called.Goals as goal

pub returns : goal.returns
returns c =
    any_over (is_called c.args.status.byte c.args.name.now) c.loop-spot.invariant c.advance.result c.advance.ensures.0
    (other_step c.advance.result c.in_default.not-Record)

pub returns-then-is_called : goal.returns-then-is_called
returns-then-is_called c =
    any_found (is_called c.args.status.byte c.args.name.now) c.loop-spot.invariant (passes c.advance.ensures c.in-Record.is)
    (flag c.is_called.ensures c.if-is_called.true)

pub loop-spot-preserved : goal.loop-spot-preserved
loop-spot-preserved c =
    any_onward (is_called c.args.status.byte c.args.name.now) c.loop-spot.invariant (passes c.advance.ensures c.in-Record.is)
    (flag c.is_called.ensures c.if-is_called.false)
