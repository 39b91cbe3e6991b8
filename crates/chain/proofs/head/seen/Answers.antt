-- seen: at the end of the image there is no run.
use mathlib.Core.Path.{refl}
use Rattle.chain.specs.HeadSkip.{blank_none}
use native.Mathlib.Omega.{arith}
use Rattle.chain.proofs.head.seen.Goals as goal

pub returns : goal.returns
returns c = (refl, blank_none _ _ (omega arith))
