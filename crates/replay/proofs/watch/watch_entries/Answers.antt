use Rattle.std.proofs.Common.{ℕ, Bool, ◌≡◌, refl, sym, ap, ap₂, ◌∙◌, length, arith}
use Rattle.std.proofs.lemmas.Bool.{false≢true}
use Rattle.laws.specs.Flag.{flag}
use Rattle.spec.specs.Geometry.{good_length}
use Rattle.spec.specs.Trace.{mount_refuses, refusing}
use Rattle.replay.specs.Told.{went, replayable_gives}
use Rattle.replay.specs.Watching.{watch_refused, watch_next, watch_stop, watch_end}
use Rattle.replay.proofs.watch.watch_entries.Goals as goal

pub loop-i-init : goal.loop-i-init
loop-i-init c = (refl, λ q. absurd (false≢true (sym q)))

pub refused_now-requires : goal.refused_now-requires
refused_now-requires c = c.loop-i.invariant.1

pub returns-then-refused_now : goal.returns-then-refused_now
returns-then-refused_now c =
    let g = replayable_gives _ _ _ _ c.requires in
    sym (c.loop-i.invariant.0
    ∙ watch_refused c.loop-i.i c.loop-i.image c.args.kinds.now c.args.addresses.now c.args.bytes.now c.loop-i-test.true
    (omega (arith, g.1)) (omega (arith, g.1, g.2)) (flag c.refused_now.ensures c.if-refused_now.true))

pub at-entry-requires : goal.at-entry-requires
at-entry-requires c =
    let g = replayable_gives _ _ _ _ c.requires in
    (c.loop-i-test.true, omega (arith, g.1), omega (arith, g.1, g.2))

pub carry_out-requires : goal.carry_out-requires
carry_out-requires c = ap good_length c.loop-i.auto.image ∙ (replayable_gives _ _ _ _ c.requires).0

pub returns-then-is_err : goal.returns-then-is_err
returns-then-is_err c =
    let g = replayable_gives _ _ _ _ c.requires in
    let e = rw c.at-entry.ensures at c.carry_out.ensures in
    watch_stop c.loop-i.i c.loop-i.image c.args.kinds.now c.args.addresses.now c.args.bytes.now c.loop-i-test.true
    (omega (arith, g.1)) (omega (arith, g.1, g.2)) (flag c.refused_now.ensures c.if-refused_now.false) _ e.1 c.carry_out.result e.0
    (flag c.is_err.ensures.value c.if-is_err.true)
    ∙ sym c.loop-i.invariant.0

pub loop-i-preserved : goal.loop-i-preserved
loop-i-preserved c =
    let g = replayable_gives _ _ _ _ c.requires in
    let e = rw c.at-entry.ensures at c.carry_out.ensures in
    let w = rw c.at-entry.ensures at c.changes-changed.ensures in
    let calm = flag c.refused_now.ensures c.if-refused_now.false in (
      c.loop-i.invariant.0
          ∙ watch_next c.loop-i.i c.loop-i.image c.args.kinds.now c.args.addresses.now c.args.bytes.now c.loop-i-test.true
          (omega (arith, g.1)) (omega (arith, g.1, g.2)) calm _ e.1
          (sym (went c.carry_out.result (flag c.is_err.ensures.value c.if-is_err.false)) ∙ e.0),
      λ q. ap mount_refuses (e.1 ∙ w q) ∙ calm,
    )

pub refused_now-requires-2 : goal.refused_now-requires-2
refused_now-requires-2 c = c.loop-i.invariant.1

pub returns : goal.returns
returns c =
    let l = c.loop-i in
    let a = c.args in
    let e : length a.kinds.now ≡ l.i = omega arith in
    ap₂ (λ (t : Bool) (n : ℕ). refusing 0 t n l.image) c.refused_now-2.ensures e
    ∙ sym (l.invariant.0 ∙ watch_end l.i l.image a.kinds.now a.addresses.now a.bytes.now (omega arith))
