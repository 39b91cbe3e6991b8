-- The part is where list_place says, which lies inside the image.
use Rattle.std.proofs.Common.{refl, ap, ◌+◌}
use Rattle.spec.specs.Numbers.{Outcome}
use Rattle.calls.specs.Look.{part_is, name_of}
use Rattle.calls.specs.Numbers.{listed}
use Rattle.calls.proofs.list.list_name.Goals as goal

pub returns : goal.returns
returns c =
    let image = c.args.image in
    let r = c.list_place in
    rw (name_of r.result c.unwrap_or-l.ensures) (
      part_is image.now (listed r.result) _ r.ensures.0,
      ap (λ (o : Outcome). (image.ref_ptr.0, o.numbers.extent.offset + image.ref_ptr.1)) r.ensures.0,
      refl,
    )
