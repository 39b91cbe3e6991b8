use mathlib.Core.Path.{ap, ◌∙◌}
use Rattle.spec.specs.Basics.{keep}
use Rattle.spec.specs.Mount.{dirty}
use native.Mathlib.Omega.{arith}
use Prim.Native.Nat.{◌+◌}
use mathlib.Core.List.{map}
use Rattle.spec.specs.Step.{erase}
use Rattle.flash.specs.Toward.{toward_more, toward_end}
use Rattle.laws.specs.Sectors.{sectors_none}
use Rattle.moving.specs.Untouched.{later_on}
use Rattle.recovery.specs.DirtySectors.{dirty_more}
use Rattle.recovery.proofs.sectors.erase_dirty.Goals as goal

pub loop-a-preserved : goal.loop-a-preserved
loop-a-preserved c =
    let s = c.args.image.now in
    let to = c.args.to in
    let a = c.loop-a.a in
    let inv = c.loop-a.invariant in
    let e = c.erase_if_dirty-q.ensures in (
      omega arith,
      omega arith,
      omega arith,
      omega arith,
      e.by_index (a + 4096) (omega arith)
          ∙ later_on a (a + 4096) s c.loop-a.image (omega arith) inv.4,
      e.by_index to (omega arith)
          ∙ inv.5,
      toward_more inv.6 (dirty_more s c.loop-a.image a to (omega arith) inv.4) e.fact,
    )

pub returns : goal.returns
returns c =
    let inv = c.loop-a.invariant in record {
      fact = toward_end inv.6 (ap (λ l. map erase (keep (dirty c.args.image.now) l))
          (sectors_none c.loop-a.a c.args.to (omega arith)));
      asked_most = omega arith;
      image_unchanged = inv.5;
    }

-- the last sector is done: the loop adds no more to the address
pub returns-2 : goal.returns-2
returns-2 c =
    let s = c.args.image.now in
    let to = c.args.to in
    let a = c.loop-a.a in
    let inv = c.loop-a.invariant in
    let e = c.erase_if_dirty-q.ensures in
    let more = toward_more inv.6 (dirty_more s c.loop-a.image a to (omega arith) inv.4) e.fact in record {
      fact = toward_end more (ap (λ l. map erase (keep (dirty s) l)) (sectors_none (a + 4096) to (omega arith)));
      asked_most = omega arith;
      image_unchanged = e.by_index to (omega arith) ∙ inv.5;
    }
