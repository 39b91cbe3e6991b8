-- unfinished: the status byte against FF and FE.
use borrow.Author.Tests.{eq-eqb, ne_eqb}
use Rattle.spec.specs.Bytes.{is_erased, is_reserved, is_unfinished}
use lib.Seq.{get_or-drop}
use Rattle.chain.proofs.walk.unfinished.Goals as goal

pub returns-then-status : goal.returns-then-status
unfolding is_unfinished is_erased is_reserved
returns-then-status c = rw (get_or-drop, eq-eqb _ 0xFF c.if-status.true)

pub returns-else-status : goal.returns-else-status
unfolding is_unfinished is_erased is_reserved
returns-else-status c = rw (get_or-drop, ne_eqb _ 0xFF c.if-status.false)
