-- repeats_signed: a name whose bits were not all set stands nowhere before; else the records before it tell.
use mathlib.Core.Path.{refl}
use Rattle.laws.specs.Flag.{flag}
use Rattle.chain.specs.Rest.{entry_of}
use Rattle.chain.specs.Held.{carried_new, carried_more}
use Rattle.chain.proofs.names.repeats_signed.Goals as goal

pub returns-then-add : goal.returns-then-add
returns-then-add c =
    let e = entry_of c.args.image.now c.args.e in
    let f = c.requires.3 in
    rw c.add.ensures.1
    (carried_more e c.requires.2 c.args.s f.inside f.bits f.file _ _ _ c.repeats_by.ensures refl refl)

pub returns : goal.returns
returns c =
    let e = entry_of c.args.image.now c.args.e in
    let f = c.requires.3 in
    rw c.add.ensures.1
    (carried_new e c.requires.2 c.args.s f.inside f.bits f.file (flag c.add.ensures.0 c.if-add.false))
