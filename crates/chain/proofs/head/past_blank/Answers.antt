-- past_blank: the boundaries in a run of FF, or only the one at hand.
use mathlib.Core.Path.{sym, subst}
use Prim.Native.Nat.{ℕ, ◌+◌}
use Rattle.chain.specs.HeadSkip.{Skips, skips_run, skips_one, run_of_stretch}
use native.Mathlib.Omega.{arith}
use Rattle.chain.proofs.head.past_blank.Goals as goal

pub returns-then-image-at : goal.returns-then-image-at
returns-then-image-at c =
    let a = c.args in
    let s = a.image.now in
    let e = c.blank_from-run.ensures in
    let n = run_of_stretch s c.blank_from-run.result a.at e.0 e.1 in
    subst (λ (k : ℕ). Skips s a.at (a.at + k)) (sym c.up_8.ensures)
    (skips_run s a.at _ c.if-image-at.true (omega arith) n (omega arith))

pub returns : goal.returns
returns c = skips_one _ _ c.requires.1
