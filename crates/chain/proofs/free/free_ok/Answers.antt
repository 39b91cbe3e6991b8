-- free_ok: by whether the head is CLEAN.
use Rattle.chain.proofs.free.free_ok.Goals as goal

pub returns-then-clean : goal.returns-then-clean
returns-then-clean c = rw c.if-clean.true c.tail_blank.ensures

pub returns : goal.returns
returns c = rw c.if-clean.false c.free_blank.ensures
