-- The part is where get_place says, which lies inside the image.
use Rattle.std.proofs.Common.{refl, ap, ◌+◌}
use Rattle.spec.specs.Numbers.{Outcome}
use Rattle.calls.specs.Look.{part_is, place_of}
use Rattle.calls.specs.Numbers.{located}
use Rattle.calls.proofs.get.get.Goals as goal

pub returns : goal.returns
returns c =
    let image = c.args.image in
    let r = c.get_place in
    rw (place_of r.result c.unwrap_or-x.ensures) (
      part_is image.now (located r.result) _ r.ensures.0,
      ap (λ (o : Outcome). (image.ref_ptr.0, o.numbers.extent.offset + image.ref_ptr.1)) r.ensures.0,
      refl,
    )
