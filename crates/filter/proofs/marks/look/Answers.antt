-- look: the k lowest bytes of the first word are the first k bytes; filled up, they tell whether these can be read.
use Prim.Native.Nat.{ℕ}
use mathlib.Core.Path.{ap, ◌∙◌}
use native.Mathlib.Omega.{arith}
use lib.ListN.{take}
use lib.Seq.{take-take}
use Rattle.spec.specs.Basics.{all}
use Rattle.laws.specs.Spaces.{is_readable}
use Rattle.record.specs.Digits.{number, digits}
use Rattle.record.specs.Filled.{filled, low_readable}
use Rattle.filter.specs.Hash.{mixed}
use Rattle.filter.proofs.marks.look.Goals as goal

pub returns : goal.returns
returns c =
    let a = c.args in
    let w = c.word_at in
    let k = a.k in
    let t = ap (take k) w.ensures.0 ∙ take-take k 8 a.part.now (omega arith) in
    let low = c.low_bytes-w.ensures.0 in
    let f = c.filled.ensures ∙ ap (λ (x : ℕ). filled x k) low in (
      c.mixed.ensures.0 ∙ ap (mixed 0) (low ∙ ap number t),
      c.mixed.ensures.1,
      c.all_readable.ensures ∙ ap (λ (x : ℕ). all is_readable (digits 8 x)) f ∙ low_readable k w.result (omega arith)
          ∙ ap (all is_readable) t,
    )
