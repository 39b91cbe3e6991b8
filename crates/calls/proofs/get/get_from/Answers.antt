-- Nothing found is 2; what is found lies inside the image, and its data begins behind the padded name.
use Rattle.std.proofs.Common.{sym, ap, arith}
use Rattle.chain.specs.Seek.{found_in}
use Rattle.spec.specs.Answers.{getting}
use Rattle.calls.specs.Look.{found_none, found_get}
use Rattle.calls.proofs.get.get_from.Goals as goal

pub returns-in_default : goal.returns-in_default
returns-in_default c =
    let s = c.args.image.now in
    (found_none s _ getting (sym (ap (found_in s) c.in_default.is)), omega arith)

pub returns : goal.returns
returns c =
    let s = c.args.image.now in
    let w = rw c.in-Some.is at c.requires.0 in (
      found_get s _ c.in-Some.e w (sym (ap (found_in s) c.in-Some.is)) _ (rw c.up_8.ensures),
      omega (arith, w.fits, c.up_8.ensures),
    )
