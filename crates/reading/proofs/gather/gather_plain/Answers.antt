use mathlib.Core.Path.{◌∙◌}
use borrow.Author.Tests.{ne_eqb}
use Rattle.laws.specs.Flag.{flag, flag_not}
use Rattle.chain.specs.Tally.{addable_size}
use Rattle.reading.specs.Gather.{gathering_dead}
use native.Mathlib.Omega.{arith}
use Rattle.reading.proofs.gather.gather_plain.Goals as goal

pub loop-e-init : goal.loop-e-init
loop-e-init c =
    let p = c.requires in
    (p.0, p.1, p.2, omega arith)

pub near-requires : goal.near-requires
near-requires c = c.loop-e.invariant.1.gone.sound

pub returns : goal.returns
returns c =
    let inv = c.loop-e.invariant in
    (inv.1, inv.3)

pub is_file-requires : goal.is_file-requires
is_file-requires c = (rw c.in-Some.is at c.near.ensures).0.whole

pub marks_of-name-requires : goal.marks_of-name-requires
marks_of-name-requires c =
    let w = rw c.in-Some.is at c.near.ensures in
    (w.0.whole, w.0.onward.name)

pub returns-then-name-wanted : goal.returns-then-name-wanted
returns-then-name-wanted c =
    let inv = c.loop-e.invariant in
    (inv.1, inv.3)

pub returns-then-not-name : goal.returns-then-not-name
returns-then-not-name c =
    let inv = c.loop-e.invariant in
    (inv.1, inv.3)

pub gather_file-g-requires : goal.gather_file-g-requires
gather_file-g-requires c =
    let inv = c.loop-e.invariant in
    let w = rw c.in-Some.is at c.near.ensures in
    let m = c.marks_of-name.ensures in (
      inv.0,
      record { state = inv.1; passes = w.0 },
      record {
        two = inv.2;
        unmarked = w.1;
        file = flag c.is_file.ensures c.if-is_file.true;
        fine = flag_not m.fine c.if-not-name.false;
      },
      m.hash,
      m.small,
      ne_eqb _ _ (λ q. c.if-name-wanted.false (m.hash ∙ q)),
    )

pub loop-e-smaller-then-is_file : goal.loop-e-smaller-then-is_file
loop-e-smaller-then-is_file c =
    let w = rw c.in-Some.is at c.near.ensures in
    rw c.gather_file-g.ensures.1 w.0.onward.less

pub loop-e-preserved-then-is_file : goal.loop-e-preserved-then-is_file
loop-e-preserved-then-is_file c =
    let inv = c.loop-e.invariant in
    let w = rw c.in-Some.is at c.near.ensures in
    let e = c.gather_file-g.ensures in
    (inv.0, e.0, e.2, rw e.1 (omega (arith, inv.3, w.0.onward.less)))

pub noted_plain-requires : goal.noted_plain-requires
noted_plain-requires c =
    let inv = c.loop-e.invariant in
    let w = inv.1.passing in
    let t = (rw c.in-Some.is at c.near.ensures).0 in
    (omega (arith, w.few, inv.0.inside, inv.0.room, inv.0.small), w.files, addable_size inv.0 w t)

pub loop-e-smaller : goal.loop-e-smaller
loop-e-smaller c =
    (rw c.in-Some.is at c.near.ensures).0.onward.less

pub loop-e-preserved : goal.loop-e-preserved
loop-e-preserved c =
    let inv = c.loop-e.invariant in
    let w = rw c.in-Some.is at c.near.ensures in
    let g =
    gathering_dead (record { state = inv.1; passes = w.0 }) inv.2 w.1
    (flag c.is_file.ensures c.if-is_file.false) c.noted_plain.ensures in
    (inv.0, g.0, g.1, omega (arith, inv.3, w.0.onward.less))
