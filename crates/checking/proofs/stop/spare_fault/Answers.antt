use Rattle.checking.specs.Stop.{spare_there, spare_last, spare_long, spare_past}
use borrow.Author.Rules.{rules}
use Rattle.checking.proofs.stop.spare_fault.Goals as goal
use Rattle.checking.proofs.stop.spare_fault.Goals.{else-p-l-via-then-p-l+then-size-l+else-stands_behind}
use Rattle.checking.proofs.stop.spare_fault.Goals.{else-p-l-via-then-p-l+else-size-l, else-p-l-via-else-p-l}

pub returns-then-stands_behind : goal.returns-then-stands_behind
returns-then-stands_behind c = search (spare_there, rules)

pub returns : goal.returns
returns c =
    elim c.else-p-l.branch [
      | else-p-l-via-then-p-l+then-size-l+else-stands_behind w ↦ search (spare_last, rules)
      | else-p-l-via-then-p-l+else-size-l w ↦ search (spare_long, rules)
      | else-p-l-via-else-p-l w ↦ search (spare_past, rules)
    ]
