-- live_bytes: the sum so far and the live sizes of the rest make the whole; a record's size goes from what is left to the sum, so that it
-- doesn't wrap.
use Rattle.spec.specs.Files.{live}
use Rattle.chain.specs.Cursor.{left}
use Rattle.chain.specs.Rest.{rest}
use Rattle.chain.specs.Sums.{Summed}
use Rattle.chain.proofs.live.live_bytes.Given as goal

abbrev pub invariant-loop-e : goal.invariant-loop-e
invariant-loop-e l = Summed (live (rest l.image l.start).entries) l.image l.start l.c l.live

abbrev pub decreases-loop-e : goal.decreases-loop-e
decreases-loop-e l = left l.c
