-- With room, the answer is read off the meter that replace leaves; without, 28 and the image as it was.
use Rattle.std.proofs.Common.{refl, sym, ap, ◌∙◌, arith, true, false, length}
use Rattle.laws.specs.Flag.{flag}
use Rattle.spec.specs.declared.Refusal.{Refusal}
use Rattle.spec.specs.declared.Space.{Space}
use Rattle.spec.specs.Refusals.{numbered}
use Rattle.spec.specs.Basics.{give}
use Rattle.spec.specs.Files.{file_named}
use Rattle.spec.specs.Write.{put_steps}
use Rattle.spec.specs.Answers.{carry_out}
use Rattle.reading.specs.Read.{reading_of}
use Rattle.reading.specs.Accepted.{place_sound}
use Rattle.calls.specs.Numbers.{refusal_told}
use Rattle.calls.specs.Carry.{refused}
use Rattle.calls.specs.Stored.{put_carried, writing}
use Rattle.calls.specs.Space.{countable_named, put_told}
use Rattle.calls.specs.Put.{room_fits, put_room}
use Rattle.calls.proofs.put.put_from.Goals as goal

pub has_room-requires : goal.has_room-requires
has_room-requires c =
    let p = c.requires in
    (record { surveyed = p.0.accepted.surveyed; quiet = p.0.quiet }, p.1)

pub returns-then-not-has_room : goal.returns-then-not-has_room
returns-then-not-has_room c =
    let a = c.args in
    let full = sym (flag c.has_room.ensures c.if-not-has_room.true) in (
      refused a.image.now a.allowance (numbered 28)
          ∙ put_room a.name.now a.content.now a.image.now a.allowance (reading_of a.image.now a.s) false full,
      refusal_told Refusal.NoRoom,
    )

pub put_space-space-requires : goal.put_space-space-requires
put_space-space-requires c =
    let a = c.args in
    let p = c.requires in
    let roomy = flag c.has_room.ensures c.if-not-has_room.false in (
      countable_named a.name.now p.0.accepted p.2,
      place_sound a.image.now a.s p.0.accepted,
      omega (arith, p.1),
      room_fits (reading_of a.image.now a.s) a.name.now (length a.content.now) roomy,
      p.0.quiet,
      p.3,
    )

pub replace-requires : goal.replace-requires
replace-requires c =
    let a = c.args in
    let p = c.requires in
    let roomy = flag c.has_room.ensures c.if-not-has_room.false in
    (p.0, p.1, room_fits (reading_of a.image.now a.s) a.name.now (length a.content.now) roomy, refl, p.3)

pub returns : goal.returns
returns c =
    let a = c.args in
    let p = c.requires in
    let i = a.image.now in
    let ss = put_steps a.s.place (file_named a.name.now (reading_of i a.s).entries) a.name.now a.content.now in
    let roomy = flag c.has_room.ensures c.if-not-has_room.false in
    let told = put_told i a.s c.put_space-space.result a.name.now a.content.now p.0 p.2 roomy c.put_space-space.ensures in
    rw c.put_ended.ensures (
      put_carried c.put_space-space.result a.allowance refl refl c.replace.ensures
          ∙ ap (λ (x : Space). carry_out i a.allowance (give (writing x ss))) told
          ∙ put_room a.name.now a.content.now i a.allowance (reading_of i a.s) true (sym roomy),
      tt,
    )
