-- Nothing found is 2; what is found lies inside the image, and its name begins behind the header.
use Rattle.std.proofs.Common.{sym, ap, ◌∙◌, arith}
use Rattle.chain.specs.Seek.{found_in}
use Rattle.spec.specs.Answers.{listing}
use Rattle.calls.specs.Look.{found_none, found_listed, indexed_file}
use Rattle.calls.proofs.list.list_from.Goals as goal

pub returns-in_default : goal.returns-in_default
returns-in_default c =
    let a = c.args in
    let s = a.image.now in
    let f = c.file_indexed in
    let q = indexed_file s a.s c.requires f.result a.index (rw c.first_cursor.ensures at f.ensures.0) in
    (found_none s _ listing (sym (ap (found_in s) c.in_default.is) ∙ q), omega arith)

pub returns : goal.returns
returns c =
    let a = c.args in
    let s = a.image.now in
    let f = c.file_indexed in
    let q = indexed_file s a.s c.requires f.result a.index (rw c.first_cursor.ensures at f.ensures.0) in
    let w = rw c.in-Some.is at f.ensures.1 in
    (found_listed s _ c.in-Some.e w (sym (ap (found_in s) c.in-Some.is) ∙ q), omega (arith, w.fits))
