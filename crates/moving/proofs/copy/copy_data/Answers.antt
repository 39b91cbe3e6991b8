-- The same steps, counted from the record's start.
use Rattle.moving.specs.Copied.{copied_data}
use Rattle.moving.proofs.copy.copy_data.Goals as goal

pub returns : goal.returns
returns c =
    let a = c.args in
    rw (← copied_data a.image.now a.from a.to a.n a.d)
    (rw c.up_8-start.ensures at c.copy_bytes.ensures)
