use Rattle.chain.specs.FileLaws.{name_part}
use Rattle.checking.proofs.CutOff.name.Goals as goal

pub returns : goal.returns
returns c = name_part c.args.image.now c.args.self.at c.args.self.n
