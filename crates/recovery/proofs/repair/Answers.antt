-- Each repair follows those before it, or the allowance is used up and the others change nothing.
use native.Mathlib.Omega.{arith}
use Rattle.recovery.specs.Mending.{mending_start}
use Rattle.recovery.specs.Mended.{repaired_1, repaired_2, repaired_3, repaired_4, skipped_2, skipped_3, skipped_4, all_four}
use Rattle.recovery.proofs.repair.Goals as goal

pub returns-then-a : goal.returns-then-a
returns-then-a c =
    let l = c.if-a.true in
    let h = c.args.head in record {
      mends = all_four (skipped_4 (skipped_3
          (skipped_2 (repaired_1 (mending_start c.args.image.now c.args.head c.args.m) c.requires.enough
          (omega (arith, c.requires.readable.0))
          c.erase_free-a.ensures.fact) l h) l h) l h);
      head_in_bounds = c.requires.readable.0;
    }

pub returns-then-b : goal.returns-then-b
returns-then-b c =
    let l = c.if-b.true in
    let h = c.finish_move-p.result.head in record {
      mends = all_four (skipped_4 (skipped_3
          (repaired_2 (repaired_1 (mending_start c.args.image.now c.args.head c.args.m) c.requires.enough
          (omega (arith, c.requires.readable.0))
          c.erase_free-a.ensures.fact) c.if-a.false (omega (arith, c.requires.readable.0)) c.finish_move-p.result.head
          c.finish_move-p.ensures.move_finished) l h) l
          h);
      head_in_bounds = omega (arith, c.finish_move-p.ensures.head_in_bounds);
    }

pub returns-then-c : goal.returns-then-c
returns-then-c c =
    let l = c.if-c.true in
    let h = c.finish_move-p.result.head in record {
      mends = all_four (skipped_4 (repaired_3
          (repaired_2 (repaired_1 (mending_start c.args.image.now c.args.head c.args.m) c.requires.enough
          (omega (arith, c.requires.readable.0))
          c.erase_free-a.ensures.fact) c.if-a.false (omega (arith, c.requires.readable.0)) c.finish_move-p.result.head
          c.finish_move-p.ensures.move_finished)
          c.if-b.false (omega (arith, c.finish_move-p.ensures.head_in_bounds)) c.void_last-c.ensures.fact) l h);
      head_in_bounds = omega (arith, c.finish_move-p.ensures.head_in_bounds);
    }

pub drop_superseded-d-requires : goal.drop_superseded-d-requires
drop_superseded-d-requires c =
    record {
      readable = (omega (arith, c.finish_move-p.ensures.head_in_bounds), (omega (arith, c.requires.readable.1.0), omega (arith, c.requires.readable.1.1)));
      can_count = omega (
        arith,
        c.void_last-c.ensures.asked_most,
        c.finish_move-p.ensures.asked_most,
        c.erase_free-a.ensures.asked_most,
        c.requires.can_count,
        c.requires.readable.1.1,
      );
    }

pub returns : goal.returns
returns c =
    record {
      mends = all_four (repaired_4 (repaired_3
          (repaired_2 (repaired_1 (mending_start c.args.image.now c.args.head c.args.m) c.requires.enough
          (omega (arith, c.requires.readable.0))
          c.erase_free-a.ensures.fact) c.if-a.false (omega (arith, c.requires.readable.0)) c.finish_move-p.result.head
          c.finish_move-p.ensures.move_finished)
          c.if-b.false (omega (arith, c.finish_move-p.ensures.head_in_bounds)) c.void_last-c.ensures.fact) c.if-c.false
          (omega (arith, c.finish_move-p.ensures.head_in_bounds)) c.drop_superseded-d.ensures);
      head_in_bounds = omega (arith, c.finish_move-p.ensures.head_in_bounds);
    }
