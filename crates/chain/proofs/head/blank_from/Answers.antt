-- blank_from: the part that is lent goes to the end of the image.
use mathlib.Core.Path.{refl}
use borrow.Author.Rules.{part_to_end}
use Rattle.chain.specs.HeadLaws.{length_part}
use Rattle.chain.specs.HeadSkip.{blank_at, blank_none}
use native.Mathlib.Omega.{arith}
use Rattle.chain.proofs.head.blank_from.Goals as goal

pub returns-then-at-image : goal.returns-then-at-image
returns-then-at-image c =
    let a = c.args in
    let s = a.image.now in
    let e = c.first_written-run.ensures in
    (blank_at s _ a.at _ e.place (part_to_end s a.at), refl, omega (arith, e.inside, length_part s a.at))

pub returns : goal.returns
returns c = (blank_none _ _ c.if-at-image.false, refl, omega arith)
