-- What was done to the part is done to the image, further on.
use Rattle.flash.specs.Did.{did_tail}
use native.Mathlib.Omega.{arith}
use Rattle.writing.proofs.build.write_record.Goals as goal

pub returns : goal.returns
returns c =
    let a = c.args in
    did_tail a.image.now a.at (omega arith) c.build_record.ensures
