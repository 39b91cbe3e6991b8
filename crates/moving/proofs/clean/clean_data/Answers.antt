-- X's data by its address and length.
use Rattle.moving.specs.Clean.{cleaned_is}
use Rattle.moving.proofs.clean.clean_data.Goals as goal

pub returns-clause-fact : goal.returns-clause-fact
returns-clause-fact c =
    rw (cleaned_is c.args.image.now c.args.x c.requires.whole c.up_8.ensures) c.clean_bytes.ensures.fact
