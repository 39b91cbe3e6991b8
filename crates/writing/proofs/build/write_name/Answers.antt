-- The phases one after another.
use Rattle.laws.specs.Steps.{length_bytes}
use Rattle.flash.specs.Did.{did_both}
use native.Mathlib.Omega.{arith}
use Rattle.writing.proofs.build.write_name.Goals as goal

pub write_end-requires : goal.write_end-requires
write_end-requires c = omega (arith, length_bytes 8 c.args.name.now)

pub returns : goal.returns
returns c =
    did_both c.program_bytes-a.ensures c.write_end.ensures
