-- signature_by: words and bits are those of the hash.
use native.Mathlib.Omega.{arith}
use Rattle.filter.specs.Table.{signature_by}
use Rattle.filter.proofs.table.signature_by.Goals as goal

pub returns : goal.returns
unfolding signature_by
returns c = (rw c.three_bits.ensures, record { first = omega arith; second = omega arith; third = omega arith })
