-- The one step, within an allowance of one.
use Rattle.std.proofs.Common.{arith, ◌<◌}
use Rattle.replay.specs.Entry.{erase_room, program_room, program_byte}
use Rattle.replay.proofs.entry.Entry.carry.Goals as goal

pub erase-requires : goal.erase-requires
erase-requires c = (erase_room _ _ _ _ c.requires.0 c.requires.1 c.if-self-eq-ERASE.true, omega arith)

pub overflow_cast-self : goal.overflow_cast-self
overflow_cast-self c =
    let l : c.args.self.byte < 256 = program_byte _ _ _ _ c.requires.0 c.requires.1 c.if-self-eq-ERASE.false in omega arith

pub program-requires : goal.program-requires
program-requires c = (program_room _ _ _ _ c.requires.0 c.requires.1, omega arith)
