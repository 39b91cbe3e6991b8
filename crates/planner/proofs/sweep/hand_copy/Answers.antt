-- Name and content are parts of the image, the status is the byte that is read.
use Rattle.std.proofs.Common.{arith}
use Rattle.moving.specs.Copy.{copy_few}
use Rattle.chain.specs.Rest.{entry_of}
use Rattle.chain.specs.Fold.{name_length_is, content_length_is}
use Rattle.planner.specs.Copy.{copy_is}
use Rattle.planner.proofs.sweep.hand_copy.Goals as goal

pub returns-clause-fact : goal.returns-clause-fact
returns-clause-fact c =
    let a = c.args in
    rw (copy_is a.image.now a.x a.place c.from_byte.result c.up_8.result c.from_byte.ensures c.up_8.ensures) at c.file.ensures

pub returns-clause-passed_bound_2 : goal.returns-clause-passed_bound_2
returns-clause-passed_bound_2 c =
    let a = c.args in
    let i = a.image.now in
    let p = c.requires.whole in
    let h = rw (copy_is i a.x a.place c.from_byte.result c.up_8.result c.from_byte.ensures c.up_8.ensures) at c.file.ensures in
    let n = name_length_is i a.x p.0 in
    let d = content_length_is i a.x p.0 in
    omega (arith, h.count, copy_few a.place (entry_of i a.x), n, d, p.0.fits, p.2.sound.short, p.2.whole)
