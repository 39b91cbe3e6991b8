use mathlib.Core.Path.{ap, ◌∙◌}
use Rattle.chain.specs.declared.Tally.{Tally}
use Rattle.chain.specs.Tally.{passing_step, noted_plain_is, addable_size}
use native.Mathlib.Omega.{arith}
use Rattle.chain.proofs.scan.pass_plain.Goals as goal

pub loop-e-init : goal.loop-e-init
loop-e-init c = (λ start s h. h, c.requires.2, omega arith)

pub near-requires : goal.near-requires
near-requires c =
    (c.loop-e.invariant.0 c.args.start c.requires.0 c.requires.1).fold.sound

pub returns : goal.returns
returns c =
    let l = c.loop-e in
    (l.invariant.0 c.args.start c.requires.0 c.requires.1, l.invariant.2)

pub is_file-file-requires : goal.is_file-file-requires
is_file-file-requires c = (rw c.in-Some.is at c.near.ensures).0.whole

pub fine_with-fine-requires : goal.fine_with-fine-requires
fine_with-fine-requires c =
    (rw c.in-Some.is at c.near.ensures).0.whole

pub noted_plain-requires : goal.noted_plain-requires
noted_plain-requires c =
    let p = c.requires in
    let w = c.loop-e.invariant.0 c.args.start p.0 p.1 in
    let t = (rw c.in-Some.is at c.near.ensures).0 in
    (omega (arith, w.few, p.0.inside, p.0.room, p.0.small), w.files, addable_size p.0 w t)

pub loop-e-smaller : goal.loop-e-smaller
loop-e-smaller c =
    (rw c.in-Some.is at c.near.ensures).0.onward.less

pub loop-e-preserved : goal.loop-e-preserved
loop-e-preserved c =
    let l = c.loop-e in
    let t = rw c.in-Some.is at c.near.ensures in
    let u =
    c.noted_plain.ensures
    ∙ noted_plain_is l.g.tally c.in-Some.e c.is_file-file.result c.fine_with-fine.result
    c.in-Some.next.pending t.0.whole l.invariant.1 t.1 c.is_file-file.ensures c.fine_with-fine.ensures
    t.0.onward.pending in
    let more = ap (λ (x : Tally). x.records) c.noted_plain.ensures in (
      λ start s h. passing_step (l.invariant.0 start s h) t.0 u,
      omega (arith, more, l.invariant.1),
      omega (arith, l.invariant.2, t.0.onward.less),
    )
