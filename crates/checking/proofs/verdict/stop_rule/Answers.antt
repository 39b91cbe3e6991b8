use Rattle.spec.specs.Fault.{stop_rule}
use Rattle.checking.specs.Last.{stop_cut}
use Rattle.checking.proofs.verdict.stop_rule.Goals as goal

pub returns-in-Some : goal.returns-in-Some
returns-in-Some c = rw c.in-Some.is (stop_cut _ c.args.s _ _ _ c.first_cursor.ensures c.cut_name.ensures)

pub returns-in-None : goal.returns-in-None
unfolding stop_rule
returns-in-None c = rw c.in-None.is c.shape_fault.ensures
