use Prim.Native.Nat.{◌+◌}
use native.Mathlib.Omega.{arith}
use mathlib.Core.Path.{sym, ap, ◌∙◌}
use lib.ListN.{length, drop, length-drop}
use lib.Seq.{drop-drop}
use borrow.Author.Tests.{le-leb, lt-leb, eq-eqb, ne_eqb}
use Rattle.flash.specs.Blank.{blank_run}
use Rattle.flash.specs.Words.{run_past, run_short, run_inside, by_words}
use Rattle.flash.proofs.blank_words.Goals as goal

pub loop-at-init : goal.loop-at-init
loop-at-init c = let w = c.requires in (w.inside, omega arith, omega (arith, w.even), w.whole, omega arith)

pub loop-at-preserved : goal.loop-at-preserved
loop-at-preserved c =
    let s = c.args.part.now in
    let at = c.loop-at.at in
    let test = sym c.word_at.ensures ∙ eq-eqb _ 0xFFFF_FFFF_FFFF_FFFF c.if-word_at.true in
    let past = run_past 8 (drop at s) (rw length-drop (omega arith)) test in
    (omega arith, omega arith, omega arith, omega (arith, ap blank_run (drop-drop 8 at s)), omega arith)

pub returns-else-word_at : goal.returns-else-word_at
returns-else-word_at c =
    let s = c.args.part.now in
    let at = c.loop-at.at in
    let inv = c.loop-at.invariant in
    let test = sym c.word_at.ensures ∙ ne_eqb _ 0xFFFF_FFFF_FFFF_FFFF c.if-word_at.false in
    by_words at _ c.requires inv.0 inv.2 inv.3 (run_short 8 (drop at s) test) inv.1
    (rw (le-leb (at + 8) (length s) (omega arith)) (omega arith))

pub returns : goal.returns
returns c =
    let s = c.args.part.now in
    let at = c.loop-at.at in
    let inv = c.loop-at.invariant in
    by_words at _ c.requires inv.0 inv.2 inv.3 (omega (arith, run_inside (drop at s), length-drop at s)) inv.1
    (rw (lt-leb (at + 8) (length s) (omega arith)) (omega arith))
