-- is_file_named: the status, then the name.
use Rattle.laws.specs.Flag.{flag}
use Rattle.chain.proofs.skip.is_file_named.Goals as goal

pub returns-then-is_file : goal.returns-then-is_file
returns-then-is_file c = rw (flag c.is_file.ensures c.if-is_file.true) c.has_name.ensures

pub returns : goal.returns
returns c = rw (flag c.is_file.ensures c.if-is_file.false)
