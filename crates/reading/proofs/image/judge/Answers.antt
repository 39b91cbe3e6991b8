-- judge: nothing is wanted.
use Rattle.reading.proofs.image.judge.Goals as goal

pub returns : goal.returns
returns c = (c.judge_for.ensures.0, c.judge_for.ensures.1)
