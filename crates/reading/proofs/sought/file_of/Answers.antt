-- file_of: no file of the hash, none of the name; the first of the hash is it, or the chain is searched.
use Rattle.laws.specs.Flag.{flag}
use Rattle.reading.specs.Sought.{named_none, named_some}
use Rattle.reading.proofs.sought.file_of.Goals as goal

pub returns-in_err-e : goal.returns-in_err-e
returns-in_err-e c = rw c.from_residual.ensures (named_none c.args.name.now (rw c.in_err-e.was at c.requires.1), tt)

pub has_name-requires : goal.has_name-requires
has_name-requires c = (rw c.in_ok-e.was at c.requires.1).whole

pub returns-then-has_name : goal.returns-then-has_name
returns-then-has_name c =
    let w = rw c.in_ok-e.was at c.requires.1 in
    (named_some c.args.name.now w (flag c.has_name.ensures c.if-has_name.true), w.whole)

pub returns : goal.returns
returns c = c.file_named.ensures
