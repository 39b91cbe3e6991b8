-- Only a live head is copied; the copy leaves the head's first byte alone.
use mathlib.Core.Path.{subst}
use Rattle.sweeping.specs.Planned.{Going, ready, copied}
use Rattle.sweeping.proofs.one_move.copy.Goals as goal

pub copy_head-requires-clause-ready : goal.copy_head-requires-clause-ready
copy_head-requires-clause-ready c =
    ready c.requires.place_of c.args.m (subst (Going c.args.image.now c.args.place) c.in-Copy.is c.requires.going) c.requires.can_count

pub returns-in-Copy : goal.returns-in-Copy
returns-in-Copy c =
    let going = subst (Going c.args.image.now c.args.place) c.in-Copy.is c.requires.going in
    let done = copied c.requires.place_of going c.copy_head.ensures in
    record { fact = done.0; asked_most = done.1.0; head_unchanged = done.1.1 }
