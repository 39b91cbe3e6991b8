-- added: by its one test.
use mathlib.Core.Path.{sym, ap}
use Rattle.chain.specs.Sums.{added}
use Rattle.chain.proofs.live.added.Goals as goal

-- src/space.rt:23:9
pub returns-then-counts : goal.returns-then-counts
returns-then-counts c = let a = c.args in sym (ap (added a.sum a.size) c.if-counts.true)

-- src/space.rt:18:1
pub returns : goal.returns
returns c = let a = c.args in sym (ap (added a.sum a.size) c.if-counts.false)
