-- The invariant: the first i bytes were asked for.
use mathlib.Core.Path.{◌≡◌}
use lib.ListN.{length, take}
use Rattle.spec.specs.Step.{bytes_at}
use Rattle.flash.specs.Did.{Did}
use Rattle.flash.proofs.program_bytes.Given as goal

abbrev pub invariant-loop-i : goal.invariant-loop-i
invariant-loop-i l = (length l.image ≡ length l.initial.image)
    × Did l.initial.image l.initial.q (bytes_at l.at (take l.i l.bytes)) l.image l.q
