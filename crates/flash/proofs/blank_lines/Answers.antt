use Prim.Native.Nat.{◌+◌}
use native.Mathlib.Omega.{arith}
use mathlib.Core.Path.{sym, ap, ◌∙◌}
use lib.ListN.{length, drop, length-drop}
use lib.Seq.{drop-drop}
use borrow.Author.Tests.{le-leb, lt-leb, eq-eqb, ne_eqb}
use Rattle.flash.specs.Blank.{blank_run}
use Rattle.flash.specs.Words.{run_past, run_short, run_inside}
use Rattle.flash.proofs.blank_lines.Goals as goal

pub loop-at-preserved : goal.loop-at-preserved
loop-at-preserved c =
    let s = c.args.part.now in
    let at = c.loop-at.at in
    let test = sym c.eight_words.ensures ∙ eq-eqb _ 0xFFFF_FFFF_FFFF_FFFF c.if-eight_words.true in
    let past = run_past 64 (drop at s) (rw length-drop (omega arith)) test in
    (omega arith, omega (arith, ap blank_run (drop-drop 64 at s)), omega arith)

pub returns-else-eight_words : goal.returns-else-eight_words
returns-else-eight_words c =
    let s = c.args.part.now in
    let at = c.loop-at.at in
    let inv = c.loop-at.invariant in
    let test = sym c.eight_words.ensures ∙ ne_eqb _ 0xFFFF_FFFF_FFFF_FFFF c.if-eight_words.false in
    record {
      inside = inv.0;
      even = omega arith;
      whole = inv.1;
      left = run_short 64 (drop at s) test;
      turns = rw (le-leb (at + 64) (length s) (omega arith)) (omega arith);
      few = omega arith;
    }

pub returns : goal.returns
returns c =
    let s = c.args.part.now in
    let at = c.loop-at.at in
    let inv = c.loop-at.invariant in
    record {
      inside = inv.0;
      even = omega arith;
      whole = inv.1;
      left = omega (arith, run_inside (drop at s), length-drop at s);
      turns = rw (lt-leb (at + 64) (length s) (omega arith)) (omega arith);
      few = omega arith;
    }
