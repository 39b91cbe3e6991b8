use Rattle.laws.specs.Flag.{flag}
use Rattle.chain.specs.Fold.{passes}
use Rattle.chain.specs.Seek.{count_over, count_one, count_none}
use Rattle.spec.specs.Files.{live}
use Rattle.chain.specs.Rest.{rest}
use Rattle.chain.proofs.Others.{other_step}
use Rattle.chain.proofs.files.count_files.Goals as goal

pub returns : goal.returns
returns c =
    let a = c.args in
    count_over (live (rest a.image.now a.start).entries) c.loop-e.invariant c.advance.result
    c.advance.ensures.0 (other_step c.advance.result c.in_default.not-Record)

pub loop-e-preserved-then-is_live : goal.loop-e-preserved-then-is_live
loop-e-preserved-then-is_live c =
    let a = c.args in
    let t = passes c.advance.ensures c.in-Record.is in
    count_one (live (rest a.image.now a.start).entries) c.loop-e.invariant t (flag c.is_live.ensures c.if-is_live.true)

pub loop-e-preserved : goal.loop-e-preserved
loop-e-preserved c =
    let a = c.args in
    let t = passes c.advance.ensures c.in-Record.is in
    count_none (live (rest a.image.now a.start).entries) c.loop-e.invariant t (flag c.is_live.ensures c.if-is_live.false)
