-- settled: a repair has a step exactly if its test says so, and the tests come in the repairs' order.
use mathlib.Core.Path.{sym, ap}
use Rattle.laws.specs.Flag.{flag}
use Rattle.reading.specs.RuleLaws.{open_is, unsettled_1, unsettled_2, unsettled_3, unsettled_wrap, settled_but}
use Rattle.reading.specs.Read.{reading_of}
use Rattle.reading.proofs.rules.settled.Goals as goal

pub head_clean-requires : goal.head_clean-requires
head_clean-requires c = c.requires.surveyed

pub returns-then-head_clean : goal.returns-then-head_clean
returns-then-head_clean c =
    let a = c.args in
    unsettled_1 a.image.now (reading_of a.image.now a.s)
    (flag c.head_clean.ensures c.if-head_clean.true)

pub second_marked-requires : goal.second_marked-requires
second_marked-requires c = c.requires.surveyed

pub returns-then-second_marked : goal.returns-then-second_marked
returns-then-second_marked c =
    let p = c.requires in
    let a = c.args in
    unsettled_2 a.image.now (reading_of a.image.now a.s)
    (flag c.head_clean.ensures c.if-head_clean.false)
    (flag c.second_marked.ensures c.if-second_marked.true)

pub returns-then-s : goal.returns-then-s
returns-then-s c =
    let p = c.requires in
    let a = c.args in
    unsettled_3 a.image.now (reading_of a.image.now a.s)
    (flag c.head_clean.ensures c.if-head_clean.false)
    (flag c.second_marked.ensures c.if-second_marked.false)
    (flag (open_is p.surveyed.tallied) c.if-s.true)

pub returns-then-wrap_torn : goal.returns-then-wrap_torn
returns-then-wrap_torn c =
    let p = c.requires in
    let a = c.args in
    unsettled_wrap a.image.now (reading_of a.image.now a.s) (flag c.head_clean.ensures c.if-head_clean.false)
    (flag c.second_marked.ensures c.if-second_marked.false)
    (flag (open_is p.surveyed.tallied) c.if-s.false) (flag c.wrap_torn.ensures c.if-wrap_torn.true)

pub returns : goal.returns
returns c =
    let p = c.requires in
    let a = c.args in
    settled_but a.image.now (reading_of a.image.now a.s) (flag c.head_clean.ensures c.if-head_clean.false)
    (flag c.second_marked.ensures c.if-second_marked.false) (flag (open_is p.surveyed.tallied) c.if-s.false) _
    (flag c.wrap_torn.ensures c.if-wrap_torn.false) (sym (ap (λ n. n.superseded) (rw p.at_head at p.names)))
