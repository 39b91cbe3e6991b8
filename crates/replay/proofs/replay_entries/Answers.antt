use Rattle.std.proofs.Common.{ℕ, ◌≡◌, refl, sym, ap, ◌∙◌, length, arith}
use Rattle.spec.specs.Geometry.{good_length}
use Rattle.spec.specs.Trace.{replayed}
use Rattle.replay.specs.Told.{from_next, from_stop, from_end, replayable_gives}
use Rattle.replay.proofs.replay_entries.Goals as goal

pub loop-i-init : goal.loop-i-init
loop-i-init c = refl

pub at-requires : goal.at-requires
at-requires c =
    let g = replayable_gives _ _ _ _ c.requires in
    (c.loop-i-test.true, omega (arith, g.1), omega (arith, g.1, g.2))

pub carry_out-requires : goal.carry_out-requires
carry_out-requires c = ap good_length c.loop-i.auto.image ∙ (replayable_gives _ _ _ _ c.requires).0

pub returns-in-Err : goal.returns-in-Err
returns-in-Err c =
    let g = replayable_gives _ _ _ _ c.requires in
    let e = rw c.at.ensures at c.in-Err.ensures in
    from_stop c.loop-i.i c.loop-i.image c.args.kinds.now c.args.addresses.now c.args.bytes.now c.loop-i-test.true
    (omega (arith, g.1)) (omega (arith, g.1, g.2)) _ e.1 c.in-Err.stop e.0
    ∙ sym c.loop-i.invariant

pub loop-i-preserved : goal.loop-i-preserved
loop-i-preserved c =
    let g = replayable_gives _ _ _ _ c.requires in
    let e = rw c.at.ensures at c.in_default.ensures in
    c.loop-i.invariant
    ∙ from_next c.loop-i.i c.loop-i.image c.args.kinds.now c.args.addresses.now c.args.bytes.now c.loop-i-test.true
    (omega (arith, g.1)) (omega (arith, g.1, g.2)) _ e.1 e.0

pub returns : goal.returns
returns c =
    let l = c.loop-i in
    let a = c.args in
    let e : length a.kinds.now ≡ l.i = omega arith in
    ap (λ (n : ℕ). replayed 0 n 0 l.image) e
    ∙ sym (l.invariant ∙ from_end l.i l.image a.kinds.now a.addresses.now a.bytes.now (omega arith))
