-- A step in the window, or before it or behind it.
use Rattle.std.proofs.Common.{arith, refl, sym, rules}
use Rattle.window.specs.Handed.{held, shown, one_before, one_inside, one_behind, lent_past}
use Rattle.window.proofs.Emitter.hand.Goals.{in_default-via-in-None-1, in_default-via-in-Some+else-i-slots}
use Rattle.window.proofs.Emitter.hand.Goals as goal

pub returns-then-i-slots : goal.returns-then-i-slots
returns-then-i-slots c =
    let a = c.args in
    let w = a.self.now in
    let i = c.in-Some.ensures in
    let inside = one_inside w.first w.passed (shown a.kind a.address a.byte) (held w) (omega (arith, i)) (omega (arith, i)) in
    record {
      slots = sym (rw (← i.1) at inside);
      count = refl;
      same = refl;
      lent = record { kinds = refl; addresses = refl; bytes = refl };
    }

pub returns-in_default : goal.returns-in_default
returns-in_default c =
    let a = c.args in
    let w = a.self.now in
    let x = shown a.kind a.address a.byte in
    elim c.in_default.branch [
      | in_default-via-in-None-1 u ↦
          let before = one_before w.first w.passed x (held w) (search rules) in
          record { slots = sym before; count = refl; same = refl; lent = lent_past w 1 }
      | in_default-via-in-Some+else-i-slots u ↦
          let behind = one_behind w.first w.passed x (held w) (omega (arith, u.in-Some.ensures)) in
          record { slots = sym behind; count = refl; same = refl; lent = lent_past w 1 }
    ]
