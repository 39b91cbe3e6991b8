-- Each phase leaves the record that is copied as it was.
use Rattle.moving.specs.Copied.{name_count, data_count, copied_record}
use native.Mathlib.Omega.{arith}
use Rattle.moving.proofs.copy.copy_record.Goals as goal

pub copy_data-c-requires-clause-can_count : goal.copy_data-c-requires-clause-can_count
copy_data-c-requires-clause-can_count c =
    let a = c.args in
    omega (arith, name_count c.reserve-a.new.image a.from a.to a.n (omega arith))

pub set_status-requires-clause-can_count : goal.set_status-requires-clause-can_count
set_status-requires-clause-can_count c =
    let a = c.args in
    omega (
      arith,
      name_count c.reserve-a.new.image a.from a.to a.n (omega arith),
      data_count c.copy_name-b.new.image a.from a.to a.n a.d (omega arith),
    )

pub returns : goal.returns
returns c =
    let a = c.args in
    copied_record a.from a.to a.n a.d (omega arith) c.requires.copyable.3 c.reserve-a.ensures c.copy_name-b.ensures
    c.copy_data-c.ensures c.set_status.ensures
