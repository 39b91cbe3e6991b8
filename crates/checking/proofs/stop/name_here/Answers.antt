use native.Mathlib.Omega.{arith}
use Rattle.checking.specs.Stop.{here_is, here_none}
use Rattle.checking.proofs.stop.name_here.Goals as goal

pub returns-then-from-image : goal.returns-then-from-image
returns-then-from-image c = let a = c.args in
    let q = here_is a.image.now a.at a.reserved _ c.name_len.ensures.0 in (q.0, c.name_len.ensures.1, q.1)

pub returns : goal.returns
returns c = let a = c.args in (
  here_none a.image.now a.at a.reserved
      (omega (arith, c.if-from-image.false)),
  omega arith,
  λ l. absurd (omega arith),
)
