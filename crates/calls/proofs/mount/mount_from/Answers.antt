-- A settled image is reported as it was read; else the repairs tell. The record is counted before either.
use Rattle.std.proofs.Common.{sym, ◌∙◌}
use Rattle.calls.specs.Space.{countable_legal, mount_told}
use Rattle.calls.specs.Mount.{mount_settled}
use Rattle.calls.proofs.mount.mount_from.Goals as goal

pub mount_space-space-requires : goal.mount_space-space-requires
mount_space-space-requires c = let p = c.requires in (countable_legal p.0 p.2, p.1)

pub returns-then-j : goal.returns-then-j
returns-then-j c =
    let a = c.args in
    let p = c.requires in
    let told = mount_told a.image.now a.j.survey _ p.2 c.mount_space-space.ensures in
    rw c.unchanged.ensures (mount_settled a.image.now a.allowance a.j.survey _ p.0 (sym p.1 ∙ c.if-j.true) told)

pub mount_repaired-requires : goal.mount_repaired-requires
mount_repaired-requires c =
    (c.requires.0, mount_told c.args.image.now c.args.j.survey _ c.requires.2 c.mount_space-space.ensures)
