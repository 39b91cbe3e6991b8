-- X's data, then the rest by addresses.
use Rattle.std.proofs.Common.{◌∙◌, length}
use Rattle.moving.specs.Close.{end_is}
use Rattle.chain.specs.Rest.{entry_of}
use Rattle.window.specs.Handed.{handed_both}
use Rattle.planner.specs.Close.{standing, close_at}
use Rattle.planner.proofs.close.hand_close.Goals as goal

pub returns-clause-handed : goal.returns-clause-handed
returns-clause-handed c =
    let a = c.args in
    let s = a.image.now in
    let e = c.vacated_end.ensures.0 ∙ end_is (length s) (standing a.y) in
    rw (close_at (length s) (entry_of s a.x) (standing a.y) a.low)
    (handed_both c.hand_cleaned.ensures.handed (rw e at c.hand_vacated.ensures.handed))
