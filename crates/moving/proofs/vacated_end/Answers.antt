-- Y at 0, or elsewhere.
use native.Mathlib.Omega.{arith}
use Rattle.moving.specs.Close.{end_at_zero, end_at_floor}
use Rattle.moving.proofs.vacated_end.Goals as goal

pub returns-then-at-eq0 : goal.returns-then-at-eq0
returns-then-at-eq0 c =
    (end_at_zero _ _ c.if-at-eq0.true, omega arith)

pub returns : goal.returns
returns c =
    (rw c.floor.ensures.0 (end_at_floor _ _ c.if-at-eq0.false), omega arith)
