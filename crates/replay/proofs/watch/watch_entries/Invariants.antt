-- The invariant: the whole search is that from the entry i on; where the image has not changed, mount would take it.
use Rattle.std.proofs.Common.{◌≡◌, false}
use Rattle.spec.specs.Trace.{mount_refuses, watch_on}
use Rattle.replay.specs.Watching.{watch_from}
use Rattle.replay.proofs.watch.watch_entries.Given as goal

abbrev pub invariant-loop-i : goal.invariant-loop-i
invariant-loop-i l =
    (watch_on 0 l.initial.image l.kinds l.addresses l.bytes ≡ watch_from l.i l.image l.kinds l.addresses l.bytes)
    × (l.changed ≡ false → mount_refuses l.image ≡ false)
