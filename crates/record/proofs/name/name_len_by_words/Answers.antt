use native.Mathlib.Omega.{arith}
use Rattle.record.specs.NameWords.{passed_end, passed_word}
use Rattle.record.proofs.name.name_len_by_words.Goals as goal

pub returns-then-k-lt8 : goal.returns-then-k-lt8
returns-then-k-lt8 c =
    let l = c.loop-i in
    let w = c.word_at in
    let k = c.first_zero-k in
    let e =
    passed_end c.args.part.now l.i k.result w.result l.invariant.3 (omega (arith, l.invariant.1)) (omega (arith, l.invariant.0))
    w.ensures.0 k.ensures c.if-k-lt8.true in
    (omega (arith, l.invariant.1), λ h. e)

pub loop-i-preserved : goal.loop-i-preserved
loop-i-preserved c =
    let l = c.loop-i in
    let w = c.word_at in
    let k = c.first_zero-k in (
      l.invariant.0,
      l.invariant.1,
      omega arith,
      passed_word c.args.part.now l.i k.result w.result l.invariant.3 (omega (arith, l.invariant.1)) (omega (arith, l.invariant.0))
          w.ensures.0 k.ensures (omega arith),
    )
