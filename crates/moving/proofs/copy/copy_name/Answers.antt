-- The same steps, counted from the record's start.
use lib.ListN.{take, drop}
use Prim.Native.Nat.{◌+◌}
use Rattle.moving.specs.Copied.{copied_name}
use Rattle.moving.specs.Untouched.{length_part}
use Rattle.laws.specs.Steps.{length_bytes}
use Rattle.flash.specs.Did.{did_both}
use native.Mathlib.Omega.{arith}
use Rattle.moving.proofs.copy.copy_name.Goals as goal

pub write_end-requires-clause-can_count : goal.write_end-requires-clause-can_count
write_end-requires-clause-can_count c =
    let a = c.args in
    let w = take a.n (drop (a.from + 8) a.image.now) in
    omega (arith, length_bytes (a.to + 8) w, length_part (a.from + 8) a.n a.image.now (omega arith))

pub returns : goal.returns
returns c =
    let a = c.args in
    rw (← copied_name a.image.now a.from a.to a.n (omega arith))
    (did_both c.copy_bytes-a.ensures c.write_end.ensures)
