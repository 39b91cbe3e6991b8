use Rattle.std.proofs.Common.{arith}
use Rattle.std.proofs.lemmas.Grind.{common_steps}
use Rattle.spec.specs.Fault.{first_fault}
use Rattle.checking.specs.Last.{chain_is}
use Rattle.checking.proofs.verdict.first_fault.Goals as goal

pub returns : goal.returns
unfolding first_fault
returns c =
    let start = c.first_cursor-start in
    let cut = c.cut_off-cut in
    let e = chain_is c.args.image.now c.args.s start.result cut.result start.ensures cut.ensures.0 in
    grind (arith, common_steps, e)
