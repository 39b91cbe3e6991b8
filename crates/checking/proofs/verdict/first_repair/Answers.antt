use Rattle.std.proofs.Common.{sym, ◌∙◌}
use Rattle.laws.specs.Tests.{wrong}
use Rattle.reading.specs.RuleLaws.{open_is}
use Rattle.checking.specs.Last.{repair_one, repair_two, repair_open, repair_wrap, repair_four}
use borrow.Author.Rules.{rules}
use Rattle.checking.proofs.verdict.first_repair.Goals as goal
use Rattle.checking.proofs.verdict.first_repair.Goals.{then-s, else-s}

pub returns-then-head_clean : goal.returns-then-head_clean
returns-then-head_clean c = search (repair_one, rules)

pub returns-then-second_marked : goal.returns-then-second_marked
returns-then-second_marked c =
    repair_two c.args.image.now _ _ c.head_clean.ensures c.if-head_clean.false _ c.second_marked.ensures c.if-second_marked.true

pub returns-then-wrap_torn : goal.returns-then-wrap_torn
returns-then-wrap_torn c =
    let s = c.args.image.now in
    elim c.if-s.branch [
      | then-s w ↦
          repair_open s _ _ c.head_clean.ensures c.if-head_clean.false _ c.second_marked.ensures c.if-second_marked.false _
          (open_is c.requires.0.tallied) w.if-s.true
      | else-s w ↦
          repair_wrap s _ _ c.head_clean.ensures c.if-head_clean.false _ c.second_marked.ensures c.if-second_marked.false _
          (open_is c.requires.0.tallied) w.if-s.false _ w.wrap_torn.ensures (sym w.value-is ∙ c.if-wrap_torn.true)
    ]

pub returns-else-wrap_torn : goal.returns-else-wrap_torn
returns-else-wrap_torn c =
    let s = c.args.image.now in
    elim c.if-s.branch [
      | then-s w ↦ wrong (sym c.if-wrap_torn.false ∙ w.value-is ∙ w.if-s.true)
      | else-s w ↦
          repair_four s _ _ c.head_clean.ensures c.if-head_clean.false _ c.second_marked.ensures c.if-second_marked.false _
          (open_is c.requires.0.tallied) w.if-s.false _ w.wrap_torn.ensures (sym w.value-is ∙ c.if-wrap_torn.false) c.requires.1
    ]
