-- The old file is the one that the definition replaces, so that write_file did the defined steps.
use Rattle.std.proofs.Common.{ap, ◌∙◌, length}
use Rattle.writing.specs.Old.{old_of}
use Rattle.calls.specs.Put.{old_named, ready}
use Rattle.calls.proofs.put.replace.Goals as goal

pub old_file-old-requires : goal.old_file-old-requires
old_file-old-requires c =
    let p = c.requires in
    (p.4.whole, p.0.accepted.led.small)

pub write_file-requires : goal.write_file-requires
write_file-requires c =
    let a = c.args in
    let p = c.requires in record {
      ready = ready a.image.now a.s (length a.name.now) (length a.content.now) a.m.asked p.0 p.1 p.2 p.3;
      lies = c.old_file-old.ensures.1;
    }

pub returns : goal.returns
returns c =
    let a = c.args in
    let old = c.old_file-old.ensures.0 ∙ ap old_of c.requires.4.first in
    rw (old_named a.image.now a.s a.s.place c.old_file-old.result a.name.now a.content.now c.requires.0 old) at
    c.write_file.ensures
