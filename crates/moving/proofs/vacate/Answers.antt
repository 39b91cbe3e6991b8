-- The sectors from the start of X's.
use mathlib.Core.Path.{◌∙◌}
use lib.ListN.{length}
use Rattle.chain.specs.Rest.{entry_of}
use Rattle.moving.specs.Close.{end_is}
use Rattle.moving.proofs.vacate.Goals as goal

pub returns-clause-fact : goal.returns-clause-fact
returns-clause-fact c =
    let a = c.args in
    let ends = c.vacated_end-to.ensures.0 ∙ end_is (length a.image.now) (entry_of a.image.now a.y) in
    rw (c.floor.ensures.0, ends) at c.erase_sectors.ensures.0
