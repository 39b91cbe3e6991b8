-- low_of: the byte at the record's address.
use mathlib.Core.Path.{sym, ap, ◌∙◌}
use native.Mathlib.Nat.{add-zero}
use lib.ListN.{get_or}
use lib.Seq.{get_or-drop}
use Rattle.chain.proofs.scan.low_of.Goals as goal

pub returns : goal.returns
returns c = let a = c.args in sym (get_or-drop a.e.at a.image.now 0 0
    ∙ ap (λ n. get_or a.image.now n 0) (add-zero a.e.at))
