use Rattle.std.proofs.Common.{ℕ, List, ap, ◌∙◌}
use Rattle.spec.specs.Files.{has_name}
use Rattle.chain.specs.Rest.{entry_of}
use Rattle.checking.specs.Records.{cut_other_status, cut_nameless, cut_same}
use borrow.Author.Rules.{rules}
use Rattle.checking.proofs.records.cut_named.Goals as goal
use Rattle.checking.proofs.records.cut_named.Goals.{then-image-cut-via-then-image-cut, then-image-cut-via-else-image-cut+then-cut-eq0}

pub returns-then-image-cut : goal.returns-then-image-cut
returns-then-image-cut c =
    elim c.then-image-cut.branch [
      | then-image-cut-via-then-image-cut w ↦ cut_other_status _ _ _ _ w.if-image-cut.true
      | then-image-cut-via-else-image-cut+then-cut-eq0 w ↦ cut_nameless _ _ _ _ w.if-image-cut.false w.if-cut-eq0.true
    ]

pub returns : goal.returns
returns c =
    cut_same _ _ _ _ c.requires.1 _ (search rules) c.if-cut-eq0.false
    (c.has_name.ensures ∙ ap (λ (l : List ℕ). has_name l (entry_of c.args.image.now c.args.e)) c.name.ensures)
