use Rattle.laws.specs.Flag.{flag}
use Rattle.checking.specs.Stop.{cut_told, none_told}
use Rattle.checking.proofs.stop.cut_off_at.Goals as goal

pub returns-then-is_cut_off : goal.returns-then-is_cut_off
returns-then-is_cut_off c =
    let n = c.name_here-n.ensures in
    cut_told c.args.image.now c.args.at _ n.0 n.2 (flag c.is_cut_off.ensures c.if-is_cut_off.true)

pub returns : goal.returns
returns c = (none_told c.args.image.now c.args.at (flag c.is_cut_off.ensures c.if-is_cut_off.false), tt)
