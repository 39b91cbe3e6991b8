-- The two arms are the two cases of with-size.
use Rattle.room.specs.Room.{size_placed, size_compared}
use Rattle.laws.specs.Flag.{flag}
use Rattle.room.proofs.stow_file.Goals as goal

pub returns-then-in_head_sector : goal.returns-then-in_head_sector
returns-then-in_head_sector c =
    size_placed _ _ _ _ c.max-largest.ensures _ c.stow-next.ensures
    (flag c.in_head_sector.ensures c.if-in_head_sector.true)

pub returns : goal.returns
returns c = size_compared _ _ _ _ c.max-largest.ensures (flag c.in_head_sector.ensures c.if-in_head_sector.false)
