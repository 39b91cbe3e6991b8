-- Head and tail that the repairs leave; the files are counted in the image as it is.
use Rattle.std.proofs.Common.{ap, ◌∙◌, length}
use Rattle.spec.specs.Files.{files}
use Rattle.chain.specs.Rest.{rest}
use Rattle.reading.specs.Read.{reading_of}
use Rattle.planner.specs.Mount.{report_told}
use Rattle.planner.proofs.mount.planned_report.Goals as goal

pub returns : goal.returns
returns c =
    let im = c.args.image.now in
    report_told (reading_of im c.args.s) c.requires.s_value c.mended_place-head.ensures
    (c.count_files.ensures ∙ ap (λ k. length (files (rest im k).entries)) c.first_cursor.ensures)
