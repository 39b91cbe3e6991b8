-- The bytes of the name, then its end.
use Rattle.std.proofs.Common.{arith, ◌+◌}
use Rattle.laws.specs.Steps.{length_bytes}
use Rattle.window.specs.Handed.{handed_both}
use Rattle.window.specs.Build.{name_at}
use Rattle.window.proofs.Emitter.name.Goals as goal

pub name_end-requires-clause-counts : goal.name_end-requires-clause-counts
name_end-requires-clause-counts c =
    omega (arith, c.program_bytes.ensures.count, length_bytes (c.args.at + 8) c.args.name.now)

pub returns : goal.returns
returns c =
    rw (name_at c.args.at c.args.name.now) (handed_both c.program_bytes.ensures c.name_end.ensures)
