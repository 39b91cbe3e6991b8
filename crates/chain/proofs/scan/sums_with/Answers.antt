-- sums_with: by its one test.
use mathlib.Core.Path.{sym, ap}
use Rattle.chain.specs.Tally.{sums_with}
use Rattle.chain.proofs.scan.sums_with.Goals as goal

pub returns-then-file : goal.returns-then-file
returns-then-file c = let a = c.args in sym (ap (sums_with a.s a.size) c.if-file.true)

pub returns : goal.returns
returns c = let a = c.args in sym (ap (sums_with a.s a.size) c.if-file.false)
