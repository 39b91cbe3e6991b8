-- advance: a plain record is what stands there; anything else is looked at by the general way.
use Rattle.chain.proofs.walk.advance.Goals as goal

pub returns-in-Some : goal.returns-in-Some
returns-in-Some c =
    let w = rw c.in-Some.is at c.near.ensures in
    (w.0.step, w.0.onward)
