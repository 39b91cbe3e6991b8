-- noted_as: each field of the new tally is the definition's.
use mathlib.Core.Path.{ap, ap₂, ◌∙◌}
use native.Mathlib.Omega.{arith}
use Rattle.chain.specs.Tally.{count_with, sums_with, noted_is}
use Rattle.chain.proofs.scan.noted_as.Goals as goal

pub overflow_add-result : goal.overflow_add-result
overflow_add-result c =
    omega (arith, c.requires.1)

pub returns : goal.returns
returns c =
    let p = c.requires in
    let a = c.args in
    let sums = c.sums_with.ensures ∙ ap₂ (sums_with a.t.sums) c.size.ensures p.5 in
    noted_is a.t a.e c.count_with.result c.sums_with.result c.spot_if.result c.spot_if-2.result
    a.fine c.further_with.result a.pending p.0
    (c.count_with.ensures ∙ ap (count_with a.t.files) p.5) sums
    c.spot_if.ensures c.spot_if-2.ensures p.6 c.further_with.ensures p.2
