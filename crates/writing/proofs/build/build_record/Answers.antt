-- The phases one after another.
use lib.ListN.{length}
use Prim.Native.Nat.{◌+◌}
use Rattle.spec.specs.Geometry.{up8}
use Rattle.laws.specs.Steps.{length_bytes}
use Rattle.writing.specs.WriteSteps.{length_name}
use Rattle.flash.specs.Did.{did_both}
use native.Mathlib.Omega.{arith}
use Rattle.writing.proofs.build.build_record.Goals as goal

pub write_data-c-requires : goal.write_data-c-requires
write_data-c-requires c =
    omega (arith, length_name c.args.name.now)

pub set_status-requires : goal.set_status-requires
set_status-requires c =
    let a = c.args in
    omega (arith, length_name a.name.now, length_bytes (8 + up8 (length a.name.now + 1)) a.content.now)

pub returns : goal.returns
returns c =
    did_both c.write_header-a.ensures
    (did_both c.write_name-b.ensures
    (did_both c.write_data-c.ensures
    c.set_status.ensures))
