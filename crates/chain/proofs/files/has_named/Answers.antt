use Rattle.laws.specs.Flag.{flag}
use Rattle.chain.specs.Fold.{passes}
use Rattle.chain.specs.Seek.{any_over, any_found, any_onward}
use Rattle.spec.specs.Files.{named_as, has_named}
use Rattle.chain.specs.Rest.{entry_of}
use Rattle.chain.proofs.Others.{other_step}
use Rattle.chain.proofs.files.has_named.Goals as goal

pub returns : goal.returns
unfolding has_named
returns c =
    let a = c.args in
    let p = named_as a.status.byte (entry_of a.image.now a.e) in
    any_over p c.loop-f.invariant c.advance.result c.advance.ensures.0
    (other_step c.advance.result c.in_default.not-Record)

pub returns-then-named_as : goal.returns-then-named_as
unfolding has_named
returns-then-named_as c =
    let a = c.args in
    let p = named_as a.status.byte (entry_of a.image.now a.e) in
    let t = passes c.advance.ensures c.in-Record.is in
    any_found p c.loop-f.invariant t (flag c.named_as.ensures c.if-named_as.true)

pub loop-f-preserved : goal.loop-f-preserved
loop-f-preserved c =
    let a = c.args in
    let p = named_as a.status.byte (entry_of a.image.now a.e) in
    let t = passes c.advance.ensures c.in-Record.is in
    any_onward p c.loop-f.invariant t (flag c.named_as.ensures c.if-named_as.false)
