use Rattle.laws.specs.Flag.{flag}
use Rattle.spec.specs.Length.{own_name_ok, stands}
use Rattle.chain.specs.FileLaws.{is_file}
use Rattle.chain.specs.Tally.{name_fine}
use Rattle.headers.proofs.stands.stands.Goals as goal

pub returns-then-right_header : goal.returns-then-right_header
unfolding stands own_name_ok name_fine is_file
returns-then-right_header c = rw (stands, flag c.right_header.ensures c.if-right_header.true, c.name_fine.ensures)

pub returns-else-right_header : goal.returns-else-right_header
unfolding stands
returns-else-right_header c = rw (stands, flag c.right_header.ensures c.if-right_header.false) c.if-right_header.false
