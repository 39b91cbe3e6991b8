-- Live bytes, place and wall that the repairs leave.
use Rattle.std.proofs.Common.{arith}
use Rattle.space.specs.Space.{behind_small}
use Rattle.space.proofs.counting.mount_space.Goals as goal

pub filled-requires : goal.filled-requires
filled-requires c =
    (rw c.mended_place-p.ensures (behind_small c.requires.0.surveyed), omega (arith, c.count_any-c.ensures.few))
