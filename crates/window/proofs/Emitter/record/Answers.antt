-- What goes before the data, then the rest.
use Rattle.std.proofs.Common.{arith, length}
use Rattle.window.specs.Handed.{handed_both}
use Rattle.window.specs.Build.{record_at, opening_count}
use Rattle.window.proofs.Emitter.record.Goals as goal

pub closing-requires-clause-counts : goal.closing-requires-clause-counts
closing-requires-clause-counts c =
    omega (arith, c.opening.ensures.count, opening_count c.args.at (length c.args.content.now) c.args.name.now)

pub returns : goal.returns
returns c =
    rw (record_at c.args.at c.args.name.now c.args.content.now) (handed_both c.opening.ensures c.closing.ensures)
