-- blank_beside: in a run of FF that is known, all up to its end.
use Rattle.chain.specs.HeadSkip.{part_known}
use Rattle.chain.proofs.free.blank_beside.Goals as goal

pub returns-then-a-known : goal.returns-then-a-known
returns-then-a-known c =
    let a = c.args in
    part_known a.image.now a.known a.a a.b c.requires.0 c.if-known-a.true c.if-a-known.true
    c.requires.1
