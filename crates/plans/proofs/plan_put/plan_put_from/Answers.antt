-- With room, the steps are handed out; without, 28.
use Rattle.std.proofs.Common.{sym, ap, ◌∙◌, arith, true, false, length}
use Rattle.laws.specs.Flag.{flag}
use Rattle.spec.specs.declared.Space.{Space}
use Rattle.spec.specs.Refusals.{numbered}
use Rattle.spec.specs.Basics.{Answer, give}
use Rattle.spec.specs.Files.{file_named}
use Rattle.spec.specs.Write.{put_steps}
use Rattle.spec.specs.Answers.{Plan}
use Rattle.spec.specs.Planner.{hand_out}
use Rattle.reading.specs.Read.{reading_of}
use Rattle.reading.specs.Accepted.{place_sound}
use Rattle.window.specs.Handed.{held, lent_still}
use Rattle.calls.specs.Stored.{writing}
use Rattle.calls.specs.Space.{countable_named, put_told}
use Rattle.calls.specs.Put.{room_fits, room_plan}
use Rattle.plans.specs.Planned.{stored_out, refused_out}
use Rattle.plans.proofs.plan_put.plan_put_from.Goals as goal

pub has_room-requires : goal.has_room-requires
has_room-requires c =
    (record { surveyed = c.requires.0.accepted.surveyed; quiet = c.requires.0.quiet }, c.requires.1)

pub returns-then-not-has_room : goal.returns-then-not-has_room
returns-then-not-has_room c =
    let a = c.args in
    let w = a.out.now in
    let full = sym (flag c.has_room.ensures c.if-not-has_room.true) in record {
      told =
          refused_out (numbered 28) w.first (held w)
          ∙ ap (λ (p : Answer Plan). hand_out p w.first (held w))
          (room_plan a.name.now a.content.now a.image.now (reading_of a.image.now a.s) false full);
      lent = lent_still w;
    }

pub put_space-space-requires : goal.put_space-space-requires
put_space-space-requires c =
    let a = c.args in
    let p = c.requires in
    let roomy = flag c.has_room.ensures c.if-not-has_room.false in (
      countable_named a.name.now p.0.accepted p.2,
      place_sound a.image.now a.s p.0.accepted,
      omega (arith, p.1),
      room_fits (reading_of a.image.now a.s) a.name.now (length a.content.now) roomy,
      p.0.quiet,
      p.3,
    )

pub plan_replace-requires : goal.plan_replace-requires
plan_replace-requires c =
    let a = c.args in
    let p = c.requires in
    let roomy = flag c.has_room.ensures c.if-not-has_room.false in
    (p.0, p.1, room_fits (reading_of a.image.now a.s) a.name.now (length a.content.now) roomy, p.4, p.3)

pub returns : goal.returns
returns c =
    let a = c.args in
    let p = c.requires in
    let i = a.image.now in
    let w = a.out.now in
    let ss = put_steps a.s.place (file_named a.name.now (reading_of i a.s).entries) a.name.now a.content.now in
    let roomy = flag c.has_room.ensures c.if-not-has_room.false in
    let told = put_told i a.s c.put_space-space.result a.name.now a.content.now p.0 p.2 roomy c.put_space-space.ensures in record {
      told =
          rw c.handed.ensures (
          stored_out _ p.4 c.plan_replace.ensures
          ∙ ap (λ (x : Space). hand_out (give (writing x ss)) w.first (held w)) told
          ∙ ap (λ (q : Answer Plan). hand_out q w.first (held w))
          (room_plan a.name.now a.content.now i (reading_of i a.s) true (sym roomy))
          );
      lent = c.plan_replace.ensures.lent;
    }
