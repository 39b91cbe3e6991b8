-- blank_part: the part that is lent is the definition's; with b not past a there is none.
use mathlib.Core.Path.{◌∙◌}
use borrow.Author.Tests.{le-leb}
use Rattle.chain.specs.FreeLaws.{part_blank, part_empty}
use Rattle.chain.proofs.free.blank_part.Goals as goal

pub returns-else-b-a : goal.returns-else-b-a
returns-else-b-a c =
    let a = c.args in
    part_blank a.image.now a.a a.b _ c.if-b-a.false c.is_blank.ensures

pub returns-then-b-a : goal.returns-then-b-a
returns-then-b-a c = le-leb c.args.b c.args.a c.if-b-a.true ∙ part_empty c.args.image.now c.args.a c.args.b c.if-b-a.true
