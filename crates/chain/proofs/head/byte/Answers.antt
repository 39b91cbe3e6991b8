-- byte: past the end a list reads as 0 too.
use lib.ListN.{get_or-eq_default}
use lib.Seq.{get_or-drop}
use Rattle.chain.proofs.head.byte.Goals as goal

pub returns-then-a-image : goal.returns-then-a-image
returns-then-a-image c = rw get_or-drop

pub returns : goal.returns
returns c = rw (get_or-drop, get_or-eq_default c.args.image.now 0 c.if-a-image.false)
