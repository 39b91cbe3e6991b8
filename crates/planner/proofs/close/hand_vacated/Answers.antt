-- The sectors from the start of X's, then the rest.
use Rattle.window.specs.Handed.{handed_both}
use Rattle.planner.proofs.close.hand_vacated.Goals as goal

pub returns-clause-handed : goal.returns-clause-handed
returns-clause-handed c =
    let e = rw c.floor.ensures.0 at c.erase_sectors.ensures.handed in
    handed_both e c.hand_over.ensures.handed
