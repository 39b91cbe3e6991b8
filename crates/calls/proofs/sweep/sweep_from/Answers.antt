-- No room for the first move is 28; else moves and steps are read off what the sweep counted.
use Rattle.std.proofs.Common.{refl, sym, ◌∙◌, arith, true, false}
use Rattle.laws.specs.Flag.{flag}
use Rattle.spec.specs.declared.Refusal.{Refusal}
use Rattle.spec.specs.Refusals.{numbered}
use Rattle.calls.specs.Numbers.{refusal_told}
use Rattle.calls.specs.Carry.{refused}
use Rattle.calls.specs.Space.{countable_admitted, sweep_told}
use Rattle.calls.specs.Walkable.{walkable}
use Rattle.calls.specs.Sweep.{swept_done, swept_cut, sweep_room, headed}
use Rattle.calls.proofs.sweep.sweep_from.Goals as goal

pub no_room-requires : goal.no_room-requires
no_room-requires c = headed c.args.image.now c.args.s c.requires.0.accepted

pub returns-then-no_room : goal.returns-then-no_room
returns-then-no_room c =
    let a = c.args in (
      refused a.image.now a.allowance (numbered 28)
          ∙ sweep_room a.image.now a.allowance a.s true _ c.requires.0.accepted
          (sym (flag c.no_room.ensures c.if-no_room.true)) refl,
      refusal_told Refusal.NoRoom,
    )

pub sweep_space-space-requires : goal.sweep_space-space-requires
sweep_space-space-requires c =
    let a = c.args in
    let p = c.requires in
    (countable_admitted p.0.accepted p.1, walkable a.image.now a.s p.0.accepted, p.0.quiet)

pub sweep-r-requires : goal.sweep-r-requires
sweep-r-requires c =
    record { place_of = headed c.args.image.now c.args.s c.requires.0.accepted; asked_bound = omega arith }

pub returns-then-q : goal.returns-then-q
returns-then-q c =
    let a = c.args in
    let p = c.requires in
    let x = c.sweep_space-space.result in
    let told = sweep_told a.image.now a.s x p.0.accepted p.1 c.at_most.ensures c.sweep_space-space.ensures in (
      swept_done a.allowance refl refl c.sweep-r.ensures x c.if-q.true
          ∙ sweep_room a.image.now a.allowance a.s false x p.0.accepted
          (sym (flag c.no_room.ensures c.if-no_room.false)) told,
      tt,
    )

pub returns : goal.returns
returns c =
    let a = c.args in
    let p = c.requires in
    let x = c.sweep_space-space.result in
    let told = sweep_told a.image.now a.s x p.0.accepted p.1 c.at_most.ensures c.sweep_space-space.ensures in (
      swept_cut a.allowance refl refl c.sweep-r.ensures x c.if-q.false
          ∙ sweep_room a.image.now a.allowance a.s false x p.0.accepted
          (sym (flag c.no_room.ensures c.if-no_room.false)) told,
      tt,
    )
