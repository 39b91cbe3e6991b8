-- named_of: the file by its hash, the reading by its flag.
use Rattle.std.proofs.lemmas.Result.{err_from_is_err_and}
use Rattle.reading.specs.Read.{settled_is}
use Rattle.reading.proofs.image.named_of.Goals as goal

pub file_of-file-requires : goal.file_of-file-requires
file_of-file-requires c =
    let p = c.requires in
    rw (c.first_cursor.ensures, settled_is c.args.j.survey c.args.j.settled c.in_ok-survey.survey (c.in_ok-survey.ensures))
    (p.0.0.tallied.sound, p.1)

pub returns : goal.returns
returns c =
    let f = c.file_of-file.ensures in
    (c.in_ok-survey.ensures, record { first = rw c.first_cursor.ensures at f.0; whole = f.1 })

pub returns-in_err-survey : goal.returns-in_err-survey
returns-in_err-survey c =
    let p = err_from_is_err_and c.from_residual.result c.from_residual.ensures.1 in
    rw (p.1, p.2) (c.in_err-survey.ensures, tt)
