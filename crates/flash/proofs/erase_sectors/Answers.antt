use Prim.Native.Nat.{◌+◌}
use mathlib.Core.Path.{ap}
use native.Mathlib.Omega.{arith}
use mathlib.Core.List.{map}
use Rattle.spec.specs.Step.{erase}
use Rattle.flash.specs.Toward.{toward_more, toward_end}
use Rattle.laws.specs.Sectors.{sectors_none, sectors_more}
use Rattle.flash.proofs.erase_sectors.Goals as goal

pub loop-a-preserved : goal.loop-a-preserved
loop-a-preserved c =
    let more = toward_more c.loop-a.invariant.4 (ap (map erase) (sectors_more c.loop-a.a c.args.to (omega arith))) c.erase-q.ensures in
    (omega arith, omega arith, omega arith, omega arith, more)

pub returns : goal.returns
returns c =
    (toward_end c.loop-a.invariant.4 (ap (map erase) (sectors_none c.loop-a.a c.args.to (omega arith))), omega arith)

-- the last sector is done: the loop adds no more to the address
pub returns-2 : goal.returns-2
returns-2 c =
    let a = c.loop-a.a in
    let to = c.args.to in
    let more = toward_more c.loop-a.invariant.4 (ap (map erase) (sectors_more a to (omega arith))) c.erase-q.ensures in
    (toward_end more (ap (map erase) (sectors_none (a + 4096) to (omega arith))), omega arith)
