-- legal: the rules one after the other, each test of the code being one of them.
use mathlib.Core.Path.{◌∙◌}
use Rattle.laws.specs.Flag.{flag, flag_not}
use Rattle.chain.specs.Rest.{rest}
use Rattle.reading.specs.Read.{reading_of}
use Rattle.chain.specs.Repeats.{single_by}
use Rattle.reading.specs.RuleLaws.{fine_is, legal_whole, legal_names, legal_single, legal_marks, legal_free}
use Rattle.reading.proofs.rules.legal.Goals as goal

pub returns-then-not-whole : goal.returns-then-not-whole
returns-then-not-whole c =
    let a = c.args in
    legal_whole a.image.now (reading_of a.image.now a.s) (flag c.whole.ensures c.if-not-whole.true)

pub returns-then-n : goal.returns-then-n
returns-then-n c =
    let p = c.requires.0 in
    let a = c.args in
    legal_single a.image.now (reading_of a.image.now a.s) (flag c.whole.ensures c.if-not-whole.false)
    (flag_not (fine_is p.surveyed.tallied) c.if-not-s.false)
    (rw p.at_head at (single_by (rest a.image.now a.start).entries _ p.names c.if-n.true))

pub marks_ok-requires : goal.marks_ok-requires
marks_ok-requires c =
    let p = c.requires.0 in
    rw p.at_head p.surveyed.tallied

pub head_clean-requires : goal.head_clean-requires
head_clean-requires c = c.requires.0.surveyed

pub returns-then-marks_ok : goal.returns-then-marks_ok
returns-then-marks_ok c =
    let p = c.requires.0 in
    let a = c.args in
    legal_free a.image.now (reading_of a.image.now a.s) (flag c.whole.ensures c.if-not-whole.false)
    c.head_clean.result _ (flag_not (fine_is p.surveyed.tallied) c.if-not-s.false)
    (rw p.at_head at (single_by (rest a.image.now a.start).entries _ p.names c.if-n.false))
    (flag (rw p.at_head at c.marks_ok.ensures) c.if-marks_ok.true) c.head_clean.ensures
    c.free_ok.ensures

pub returns-else-marks_ok : goal.returns-else-marks_ok
returns-else-marks_ok c =
    let p = c.requires.0 in
    let a = c.args in
    c.if-marks_ok.false
    ∙ legal_marks a.image.now (reading_of a.image.now a.s) (flag c.whole.ensures c.if-not-whole.false)
    (flag_not (fine_is p.surveyed.tallied) c.if-not-s.false)
    (rw p.at_head at (single_by (rest a.image.now a.start).entries _ p.names c.if-n.false))
    (flag (rw p.at_head at c.marks_ok.ensures) c.if-marks_ok.false)

pub returns-then-not-s : goal.returns-then-not-s
returns-then-not-s c =
    let a = c.args in
    legal_names a.image.now (reading_of a.image.now a.s) (flag c.whole.ensures c.if-not-whole.false)
    (flag_not (fine_is c.requires.0.surveyed.tallied) c.if-not-s.true)
