use Rattle.chain.specs.Fold.{passes}
use Rattle.chain.proofs.Others.{other_step}
use Rattle.checking.specs.Records.{second_none, second_is}
use Rattle.checking.proofs.records.second_wrong.Goals as goal

pub returns-in_default : goal.returns-in_default
returns-in_default c =
    second_none _ _ _ _ c.advance.result c.advance.ensures.0 (other_step c.advance.result c.in_default.not-Record)

pub second_ok-requires : goal.second_ok-requires
second_ok-requires c =
    (c.requires.0, (passes c.advance.ensures c.in-Record.is).whole, c.requires.1, c.requires.2)

pub returns : goal.returns
returns c = second_is _ _ _ _ _ _ _ (passes c.advance.ensures c.in-Record.is) c.second_ok.ensures
