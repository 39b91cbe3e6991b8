-- Two numbers that tell of neighbours, together.
use native.Mathlib.Omega.{arith}
use Rattle.flash.specs.Words.{tells_both}
use Rattle.flash.proofs.eight_words.Goals as goal

pub returns : goal.returns
returns c =
    tells_both c.args.part.now c.args.i 32 c.four_words.result c.four_words-2.result (omega arith) (omega arith)
    c.four_words.ensures c.four_words-2.ensures
