-- larger: what is not larger moves nothing, whatever it is.
use native.Mathlib.Omega.{arith}
use Rattle.laws.specs.Flag.{flag}
use Rattle.spec.specs.Files.{has_name}
use Rattle.chain.specs.Rest.{entry_of}
use Rattle.chain.specs.FileLaws.{is_file}
use Rattle.room.specs.Room.{larger_not}
use Rattle.room.proofs.larger.Goals as goal

pub returns-then-size-largest : goal.returns-then-size-largest
returns-then-size-largest c =
    let a = c.args in
    let x = entry_of a.image.now a.x in
    larger_not (is_file x) (has_name a.name.now x) a.size a.largest c.if-size-largest.true

pub returns-then-has_name : goal.returns-then-has_name
returns-then-has_name c =
    rw (flag c.is_file.ensures c.if-is_file.true, flag c.has_name.ensures c.if-has_name.true)

pub returns-then-is_file : goal.returns-then-is_file
returns-then-is_file c =
    rw (flag c.is_file.ensures c.if-is_file.true, flag c.has_name.ensures c.if-has_name.false) (omega arith)

pub returns : goal.returns
returns c = rw (flag c.is_file.ensures c.if-is_file.false)
