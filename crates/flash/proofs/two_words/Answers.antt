-- Two numbers that tell of neighbours, together.
use native.Mathlib.Omega.{arith}
use Rattle.flash.specs.Words.{tells_both}
use Rattle.flash.proofs.two_words.Goals as goal

pub returns : goal.returns
returns c =
    tells_both c.args.part.now c.args.i 8 c.word_at.result c.word_at-2.result (omega arith) (omega arith)
    c.word_at.ensures c.word_at-2.ensures
