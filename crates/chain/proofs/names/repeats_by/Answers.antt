-- repeats_by: the record's own status, and what stands before it.
use mathlib.Core.Path.{ap₂, ◌∙◌}
use Rattle.chain.specs.Repeats.{repeats_with}
use Rattle.chain.proofs.names.repeats_by.Goals as goal

pub returns : goal.returns
returns c = c.repeats_with.ensures ∙ ap₂ (repeats_with _) c.named.ensures c.earlier-f.ensures
