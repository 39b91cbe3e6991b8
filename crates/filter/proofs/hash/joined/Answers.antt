-- joined: the fold pushes the bytes in from the last of them down.
use native.Mathlib.Omega.{arith}
use mathlib.Core.Path.{◌∙◌}
use Rattle.std.proofs.Common.{rules}
use Rattle.std.proofs.lemmas.Iterator.Adapters.{YieldsList-from_rev_slice}
use Rattle.std.proofs.lemmas.Iterator.Consumers.{fold_from_yields_List}
use Rattle.filter.specs.Hash.{pushed, pushed_all}
use Rattle.filter.proofs.hash.joined.Goals as goal

pub returns : goal.returns
returns c =
    let s = c.args.bytes.now in
    fold_from_yields_List _ pushed 0 c.fold.result c.fold.ensures.ran (YieldsList-from_rev_slice s cc) (λ a x b q k. search rules)
    ∙ (pushed_all s (λ i. omega (arith, c.type_inv.bytes i)) c.requires).0
