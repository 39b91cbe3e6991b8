-- hash_of: of the record's name.
use mathlib.Core.Path.{ap, ◌∙◌}
use Rattle.filter.specs.Hash.{name_hash}
use Rattle.reading.proofs.marks.hash_of.Goals as goal

pub returns : goal.returns
returns c = (c.hash.ensures.0 ∙ ap name_hash c.name.ensures, c.hash.ensures.1)
