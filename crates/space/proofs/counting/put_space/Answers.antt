-- Live bytes, place and wall behind the new record.
-- Its size fits, so that it is placed and the sums are small.
use Rattle.std.proofs.Common.{arith, sym, ap, ◌∙◌, length, is_some}
use Rattle.spec.specs.Record.{size_of}
use Rattle.spec.specs.Placed.{placed}
use Rattle.writing.specs.Placing.{placed_parts, placed_fits, placed_inside}
use Rattle.planning.specs.PutCounts.{replaced_bytes}
use Rattle.planning.specs.Walls.{space_filled}
use Rattle.space.specs.Space.{first_small, put_filled_as, round_small}
use Rattle.space.proofs.counting.put_space.Goals as goal

pub size-z-requires : goal.size-z-requires
size-z-requires c =
    let a = c.args in
    let p = c.requires in
    (p.2, omega (arith, placed_inside a.s.place (size_of (length a.name.now) a.d) p.1 p.3, p.1.short))

pub unwrap-next-requires : goal.unwrap-next-requires
unwrap-next-requires c =
    let p = c.args.s.place in
    ap is_some (c.after.ensures ∙ ap (placed p) c.size-z.ensures) ∙ placed_fits p _ ∙ c.requires.3

pub overflow_add-c : goal.overflow_add-c
overflow_add-c c =
    let a = c.args in
    let p = c.requires in
    omega (
      arith,
      c.size-z.ensures,
      c.count-c.ensures.few,
      placed_inside a.s.place (size_of (length a.name.now) a.d) p.1 p.3,
      p.1.short,
    )

pub filled-requires : goal.filled-requires
filled-requires c =
    let a = c.args in
    let p = c.requires in
    let z = size_of (length a.name.now) a.d in
    let parts = placed_parts a.s.place z _ _ _ (rw c.size-z.ensures at (sym c.after.ensures ∙ c.unwrap-next.ensures)) in (
      round_small a.s.place z 0 0 0 parts.3 c.come_round.ensures (first_small p.0.surveyed),
      omega (arith, c.saturating_sub.ensures, c.size-z.ensures, c.count-c.ensures.few, placed_inside a.s.place z p.1 p.3, p.1.short),
    )

pub returns : goal.returns
returns c =
    let a = c.args in
    let n = c.count-c.ensures in
    let z = size_of (length a.name.now) a.d in
    let parts = placed_parts a.s.place z _ _ _ (rw c.size-z.ensures at (sym c.after.ensures ∙ c.unwrap-next.ensures)) in
    c.filled.ensures
    ∙ ap (λ k. space_filled k c.come_round.result c.put_wall.result) c.saturating_sub.ensures
    ∙ put_filled_as a.s.place z _ _ _ n.live_is c.size-z.ensures
    (c.replaced-old.ensures ∙ ap replaced_bytes c.requires.5.first) n.wall_is parts.3 parts.2
    c.come_round.ensures c.put_wall.ensures
