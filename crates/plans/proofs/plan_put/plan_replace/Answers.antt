-- The old file is the one that the definition replaces, so that the defined steps were handed out.
use Rattle.std.proofs.Common.{ap, ◌∙◌, length}
use Rattle.writing.specs.Old.{lies_same, old_of}
use Rattle.calls.specs.Put.{old_named, ready_place}
use Rattle.plans.proofs.plan_put.plan_replace.Goals as goal

pub old_file-old-requires : goal.old_file-old-requires
old_file-old-requires c =
    let p = c.requires in
    (p.4.whole, p.0.accepted.led.small)

pub file-requires : goal.file-requires
file-requires c =
    let a = c.args in
    let p = c.requires in
    let n = length a.image.now in
    let whole = p.0.accepted.surveyed.place.whole in record {
      ready = ready_place a.image.now a.s (length a.name.now) (length a.content.now) a.out.now.passed p.0 p.1 p.2 p.3;
      lies = lies_same c.old_file-old.result n a.s.place.length c.old_file-old.ensures.1 whole;
    }

pub returns : goal.returns
returns c =
    let a = c.args in
    let old = c.old_file-old.ensures.0 ∙ ap old_of c.requires.4.first in
    rw (old_named a.image.now a.s a.s.place c.old_file-old.result a.name.now a.content.now c.requires.0 old) at c.file.ensures
