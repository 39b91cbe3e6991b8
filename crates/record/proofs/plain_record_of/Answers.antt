-- plain_record_of: the name's end is known where it is found.
use Rattle.std.specs.Prelude.{false}
use Rattle.std.proofs.Common.{ap, ◌∙◌}
use borrow.Author.Rules.{part_to_end}
use Rattle.spec.specs.Record.{name_length}
use Rattle.record.specs.Within.{record_if}
use Rattle.record.proofs.plain_record_of.Goals as goal

pub returns : goal.returns
returns c =
    let s = c.args.part.now in
    let n = c.name_len_by_words in
    record_if s n.result c.sized.result c.sized.ensures (λ h. n.ensures.1 h ∙ ap (name_length 64 false) (part_to_end s 8))
