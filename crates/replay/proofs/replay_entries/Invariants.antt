-- The invariant: the whole replay is that from the entry i on, over the image that the entries before it left.
use Rattle.std.proofs.Common.{◌≡◌}
use Rattle.spec.specs.Trace.{replay_on}
use Rattle.replay.specs.Told.{replay_from}
use Rattle.replay.proofs.replay_entries.Given as goal

abbrev pub invariant-loop-i : goal.invariant-loop-i
invariant-loop-i l =
    replay_on 0 l.initial.image l.kinds l.addresses l.bytes ≡ replay_from l.i l.image l.kinds l.addresses l.bytes
