-- The invariant: the steps of the first i bytes are done; the next byte to read is still as it was at entry.
use Prim.Native.Nat.{◌≤◌}
use mathlib.Core.Path.{◌≡◌}
use lib.ListN.{length, take, drop}
use Rattle.spec.specs.Step.{bytes_at}
use Rattle.flash.specs.Did.{Did}
use Rattle.moving.proofs.copy.copy_bytes.Given as goal

abbrev pub invariant-loop-i : goal.invariant-loop-i
invariant-loop-i l =
    (l.i ≤ l.n) × (length l.image ≡ length l.initial.image)
    × Did l.initial.image l.initial.q (bytes_at l.to (take l.i (take l.n (drop l.from l.initial.image)))) l.image l.q
