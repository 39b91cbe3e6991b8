-- The record, then the status of the old one.
use Rattle.std.proofs.Common.{arith}
use Rattle.writing.specs.WriteSteps.{record_count}
use Rattle.window.specs.Handed.{handed_both}
use Rattle.window.proofs.Emitter.new_record.Goals as goal

pub delete-requires-clause-counts : goal.delete-requires-clause-counts
delete-requires-clause-counts c =
    omega (arith, c.record.ensures.count, record_count c.args.at c.args.name.now c.args.content.now)

pub returns : goal.returns
returns c =
    handed_both c.record.ensures c.delete.ensures
