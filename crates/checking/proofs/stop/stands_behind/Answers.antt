use Rattle.checking.specs.Stop.{behind_there, behind_turned, behind_low, behind_zero}
use borrow.Author.Rules.{rules}
use Rattle.checking.proofs.stop.stands_behind.Goals as goal
use Rattle.checking.proofs.stop.stands_behind.Goals.{then-p-via-then-p, then-p-via-else-p+then-floor-eq0}

pub returns-then-from-l : goal.returns-then-from-l
returns-then-from-l c = search (behind_there, rules)

pub returns-then-p : goal.returns-then-p
returns-then-p c =
    elim c.then-p.branch [
      | then-p-via-then-p w ↦ search (behind_turned, rules)
      | then-p-via-else-p+then-floor-eq0 w ↦ search (behind_low, rules)
    ]

pub returns : goal.returns
returns c = search (behind_zero, rules)
