-- settle: arm by arm; only a record needs its bounds.
use Rattle.chain.proofs.walk.settle.Goals as goal

pub record_at-requires : goal.record_at-requires
record_at-requires c =
    let p = c.requires in
    (p.0, rw c.in-Record.is at p.1)

pub returns-in-Record : goal.returns-in-Record
returns-in-Record c = rw c.in-Record.is c.record_at.ensures

pub returns-in-TornWrap : goal.returns-in-TornWrap
returns-in-TornWrap c = rw c.in-TornWrap.is c.torn_end.ensures
