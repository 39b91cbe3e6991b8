-- The walk's answer in the outcome's numbers.
use Rattle.calls.specs.Length.{length_told}
use Rattle.calls.proofs.length.file_length.Goals as goal

pub returns : goal.returns
returns c =
    let a = c.args in
    length_told a.image.now a.head a.name.now c.asked.result c.asked.ensures
