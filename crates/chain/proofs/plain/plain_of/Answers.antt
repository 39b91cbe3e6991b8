-- plain_of: the kind is a record's, so what `plain_record_of` reads stands there.
use Rattle.chain.specs.Plain.{plain_front}
use native.Mathlib.Omega.{arith}
use Rattle.chain.proofs.plain.plain_of.Goals as goal

pub returns-then-plain_header : goal.returns-then-plain_header
returns-then-plain_header c =
    plain_front c.args.part.now c.plain_record_of.result (omega arith)
    (rw c.if-plain_header.true at c.plain_header.ensures) c.plain_record_of.ensures
