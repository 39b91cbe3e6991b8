-- noted_plain: count and sums are the definition's, the other fields stand.
use Rattle.chain.proofs.scan.noted_plain.Goals as goal

pub returns : goal.returns
returns c =
    rw (c.count_with.ensures, c.sums_with.ensures, c.size.ensures)
