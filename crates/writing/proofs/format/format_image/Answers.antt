-- The phases one after another.
use Rattle.flash.specs.Did.{did_both}
use Rattle.spec.specs.Write.{format_steps}
use Rattle.writing.proofs.format.format_image.Goals as goal

pub returns : goal.returns
unfolding format_steps
returns c =
    did_both c.erase_sectors-a.ensures.0 c.write_first.ensures
