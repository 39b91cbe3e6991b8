-- marks: all bytes can be read, and the ends are fine; the hash is that of all words.
use lib.ListN.{take}
use native.Mathlib.Omega.{arith}
use Rattle.filter.specs.Marks.{size, told_readable, told_hash, name_ok_by}
use Rattle.filter.proofs.marks.marks.Goals as goal

pub returns : goal.returns
returns c =
    let a = c.args in
    let s = take a.n a.part.now in
    let x = c.look_all-x in
    let h = told_hash a.part.now a.n (omega arith) x.result x.ensures in
    let ends = c.ends_fine in
    record {
      fine =
          name_ok_by s x.result.readable ends.result (omega (arith, size a.part.now a.n (omega arith)))
          (told_readable a.part.now a.n (omega arith) x.result x.ensures) ends.ensures;
      hash = h;
      small = omega arith;
    }
