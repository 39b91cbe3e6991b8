-- The data, then the commit.
use Rattle.std.proofs.Common.{arith, ◌+◌}
use Rattle.laws.specs.Steps.{length_bytes}
use Rattle.window.specs.Handed.{handed_both}
use Rattle.window.specs.Build.{closing_at}
use Rattle.window.proofs.Emitter.closing.Goals as goal

pub status-requires-clause-counts : goal.status-requires-clause-counts
status-requires-clause-counts c =
    omega (arith, c.program_bytes.ensures.count, length_bytes (c.args.at + (8 + c.up_8.result)) c.args.content.now)

pub returns : goal.returns
returns c =
    let content = rw c.up_8.ensures at c.program_bytes.ensures in
    rw (closing_at c.args.at c.args.n c.args.content.now) (handed_both content c.status.ensures)
