use Rattle.std.proofs.Common.{arith, ap, map, ◌+◌}
use Rattle.spec.specs.Step.{erase}
use Rattle.laws.specs.Sectors.{sectors_none, sectors_more}
use Rattle.window.specs.Handed.{leads_more, leads_end}
use Rattle.window.proofs.Emitter.erase_sectors.Goals as goal

pub loop-a-preserved : goal.loop-a-preserved
loop-a-preserved c = (
  omega arith,
  omega arith,
  omega arith,
  leads_more c.loop-a.invariant.3 (ap (map erase) (sectors_more c.loop-a.a c.args.to (omega arith))) c.erase.ensures,
)

pub returns-clause-handed : goal.returns-clause-handed
returns-clause-handed c =
    leads_end c.loop-a.invariant.3 (ap (map erase) (sectors_none c.loop-a.a c.args.to (omega arith)))

-- the last sector is done: the loop adds no more to the address
pub returns-2-clause-handed : goal.returns-2-clause-handed
returns-2-clause-handed c =
    let a = c.loop-a.a in
    let to = c.args.to in
    leads_end (leads_more c.loop-a.invariant.3 (ap (map erase) (sectors_more a to (omega arith))) c.erase.ensures)
    (ap (map erase) (sectors_none (a + 4096) to (omega arith)))
