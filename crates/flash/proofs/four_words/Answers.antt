-- Two numbers that tell of neighbours, together.
use native.Mathlib.Omega.{arith}
use Rattle.flash.specs.Words.{tells_both}
use Rattle.flash.proofs.four_words.Goals as goal

pub returns : goal.returns
returns c =
    tells_both c.args.part.now c.args.i 16 c.two_words.result c.two_words-2.result (omega arith) (omega arith)
    c.two_words.ensures c.two_words-2.ensures
