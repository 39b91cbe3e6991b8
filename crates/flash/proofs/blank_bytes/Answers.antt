use lib.ListN.{length}
use Rattle.flash.specs.Blank.{run_on, run_stop, run_over}
use Rattle.flash.specs.Words.{run_of}
use borrow.Author.Tests.{lt-ltb, le-ltb}
use native.Mathlib.Omega.{arith}
use Rattle.flash.proofs.blank_bytes.Goals as goal

pub returns-then-part-at : goal.returns-then-part-at
returns-then-part-at c =
    let s = c.args.part.now in
    let at = c.loop-at.at in
    let stop = run_stop s at (omega arith) c.if-part-at.true in
    run_of at _ c.requires (omega arith) (omega arith) (rw (lt-ltb at (length s) (omega arith)) (omega arith))

pub loop-at-preserved : goal.loop-at-preserved
loop-at-preserved c =
    let s = c.args.part.now in
    let on = run_on s c.loop-at.at (omega arith) c.if-part-at.false in
    omega arith

pub returns : goal.returns
returns c =
    let s = c.args.part.now in
    let at = c.loop-at.at in
    let over = run_over s at (omega arith) in
    run_of at _ c.requires (omega arith) (omega arith) (rw (le-ltb at (length s) (omega arith)) (omega arith))
