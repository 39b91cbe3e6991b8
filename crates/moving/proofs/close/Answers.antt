-- The four steps one after another.
use native.Mathlib.Omega.{arith}
use Rattle.moving.specs.Close.{closed}
use Rattle.moving.proofs.close.Goals as goal

pub returns-clause-fact : goal.returns-clause-fact
returns-clause-fact c =
    let a = c.args in
    closed a.image.now a.x a.y a.low (omega arith) (omega arith) c.clean_data-a.ensures.fact
    c.vacate-b.ensures.fact c.to_start-c.ensures.did c.forget.ensures.fact
