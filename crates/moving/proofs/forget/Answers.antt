-- X's sector was erased, or was not.
use mathlib.Core.Path.{◌∙◌}
use Rattle.flash.specs.Did.{did_none}
use lib.ListN.{length}
use Rattle.chain.specs.Rest.{entry_of}
use Rattle.moving.specs.Close.{end_is, forget_none, forget_this}
use Rattle.moving.proofs.forget.Goals as goal

pub returns-then-floor-to-clause-fact : goal.returns-then-floor-to-clause-fact
returns-then-floor-to-clause-fact c =
    let a = c.args in
    let s = a.image.now in
    let ends = c.vacated_end-to.ensures.0 ∙ end_is (length s) (entry_of s a.y) in
    rw (forget_none (length s) (entry_of s a.x) (entry_of s a.y) c.floor.ensures.0 ends c.if-floor-to.true) (did_none s a.m)

pub returns-clause-fact : goal.returns-clause-fact
returns-clause-fact c =
    let a = c.args in
    let s = a.image.now in
    let ends = c.vacated_end-to.ensures.0 ∙ end_is (length s) (entry_of s a.y) in
    rw (forget_this (length s) (entry_of s a.x) (entry_of s a.y) c.floor.ensures.0 ends c.if-floor-to.false) c.program.ensures
