-- spot_if: a struct is its fields.
use Rattle.chain.proofs.scan.spot_if.Goals as goal

pub returns-then-fresh : goal.returns-then-fresh
returns-then-fresh c = rw c.if-fresh.true

pub returns : goal.returns
returns c = rw c.if-fresh.false
