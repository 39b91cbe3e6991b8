-- The numbers are those of the reading that the repairs leave.
use mathlib.Core.Path.{ap, ◌∙◌}
use lib.ListN.{length}
use Rattle.spec.specs.Files.{files}
use Rattle.chain.specs.Rest.{rest}
use Rattle.recovery.specs.Counted.{counted_done}
use Rattle.recovery.proofs.mend.Goals as goal

pub returns : goal.returns
returns c =
    counted_done c.repair-p.ensures.mends c.survey.result c.count_files.result c.if-meter.false c.survey.ensures
    (c.count_files.ensures ∙ ap (λ k. length (files (rest c.repair-p.new.image k).entries)) c.first_cursor.ensures)
