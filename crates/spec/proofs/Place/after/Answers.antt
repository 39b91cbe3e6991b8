-- By the definition's cases.
use Rattle.std.proofs.Common.{rules}
use Rattle.spec.specs.Place.{fits_at_tail, fits, address, with_marker, place_after}
use Rattle.spec.specs.Placed.{placed}
use Rattle.spec.proofs.Place.after.Goals as goal

pub returns-then-fits_at_tail : goal.returns-then-fits_at_tail
unfolding placed fits fits_at_tail address with_marker place_after
returns-then-fits_at_tail c = search rules

pub returns-then-self : goal.returns-then-self
unfolding placed fits fits_at_tail address with_marker place_after
returns-then-self c = search rules

pub returns : goal.returns
unfolding placed fits fits_at_tail address with_marker place_after
returns c = search rules
