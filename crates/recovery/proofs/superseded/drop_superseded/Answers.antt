use Rattle.chain.specs.Rest.{rest}
use native.Mathlib.Omega.{arith}
use mathlib.Core.Path.{refl, sym, ap, ◌∙◌}
use Rattle.chain.specs.Cursor.{left}
use Rattle.chain.specs.Fold.{passes}
use Rattle.reading.specs.Survey.{first_sound}
use Rattle.chain.proofs.Others.{other_step}
use Rattle.recovery.specs.Drop.{dropping_start, dropping_more, dropping_end, tidy_first, sound_same}
use Rattle.reading.specs.Standing.{entries_from}
use Rattle.recovery.proofs.superseded.drop_superseded.Goals as goal

pub loop-spot-init : goal.loop-spot-init
loop-spot-init c =
    let a = c.args in (
      refl,
      rw c.first_cursor-start.ensures (first_sound a.image.now a.h (omega arith) c.requires.readable.1.1),
      omega arith,
      dropping_start a.image.now c.first_cursor-start.result a.m,
    )

pub advance-requires : goal.advance-requires
advance-requires c = c.loop-spot.invariant.1

pub returns : goal.returns
returns c =
    let a = c.args in
    rw (ap (λ k. (rest a.image.now k).entries) c.first_cursor-start.ensures ∙ sym (entries_from a.image.now a.h (omega arith))) at
    (dropping_end c.loop-spot.invariant.3 c.advance.result c.advance.ensures.0
    (other_step c.advance.result c.in_default.not-Record))

pub drop_one-q-requires : goal.drop_one-q-requires
drop_one-q-requires c =
    let t = passes c.advance.ensures c.in-Record.is in
    let a = c.args in record {
      cursor_sound = sound_same a.image.now c.loop-spot.image c.first_cursor-start.result
          (rw c.first_cursor-start.ensures (first_sound a.image.now a.h (omega (arith, c.requires.readable.0)) c.requires.readable.1.1))
          c.loop-spot.invariant.0;
      whole = t.whole;
      can_count = omega (arith, c.loop-spot.invariant.2, ap left c.first_cursor-start.ensures, t.onward.less, c.requires.can_count);
    }

pub loop-spot-smaller : goal.loop-spot-smaller
loop-spot-smaller c =
    let t = passes c.advance.ensures c.in-Record.is in
    t.onward.less

pub loop-spot-preserved : goal.loop-spot-preserved
loop-spot-preserved c =
    let t = passes c.advance.ensures c.in-Record.is in
    let a = c.args in (
      omega (arith, c.loop-spot.invariant.0),
      sound_same c.loop-spot.image c.drop_one-q.new.image c.in-Record.next t.onward.sound (omega arith),
      omega (arith, c.loop-spot.invariant.2, t.onward.less, c.drop_one-q.ensures.asked_most),
      dropping_more c.loop-spot.invariant.3 c.in-Record.spot
          c.in-Record.next (rw c.first_cursor-start.ensures (tidy_first a.image.now a.h (omega (arith, c.requires.readable.0))))
          (sym c.advance.ensures.0 ∙ c.in-Record.is) t.whole.fits c.drop_one-q.ensures.fact,
    )
