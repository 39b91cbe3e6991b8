-- All is FF if the run of FF is as long as the part.
use Rattle.flash.specs.Blank.{run_blank}
use mathlib.Core.Path.{ap, ◌∙◌}
use lib.ListN.{length}
use lib.Dec.{eqb}
use Rattle.flash.proofs.is_blank.Goals as goal

pub returns : goal.returns
returns c =
    let s = c.args.part.now in
    ap (λ n. eqb n (length s)) c.first_written.ensures.place ∙ run_blank s
