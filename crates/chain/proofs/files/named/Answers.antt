-- named: the status byte, and a name that is not empty.
use mathlib.Core.Path.{◌∙◌}
use borrow.Author.Tests.{ne_eqb}
use Rattle.chain.specs.FileLaws.{named_no, named_is}
use Rattle.chain.proofs.files.named.Goals as goal

pub returns-then-image-e : goal.returns-then-image-e
returns-then-image-e c =
    let a = c.args in
    named_is a.image.now a.status.byte a.e c.requires c.if-image-e.true

pub returns-else-image-e : goal.returns-else-image-e
returns-else-image-e c =
    let a = c.args in
    ne_eqb _ _ c.if-image-e.false ∙ named_no a.image.now a.status.byte a.e c.if-image-e.false
