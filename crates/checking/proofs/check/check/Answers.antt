use Rattle.laws.specs.Flag.{flag}
use Rattle.door.specs.Door.{workable}
use Rattle.checking.proofs.check.check.Goals as goal

pub verdict-requires : goal.verdict-requires
verdict-requires c = workable c.args.image.now (flag c.good_length.ensures c.if-good_length.true)
