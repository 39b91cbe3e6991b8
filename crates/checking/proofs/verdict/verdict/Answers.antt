use Rattle.std.proofs.Common.{sym, ap, ◌∙◌}
use Rattle.reading.specs.Read.{judged_as}
use Rattle.checking.specs.Last.{refused_is, lawful}
use Rattle.checking.proofs.verdict.verdict.Goals as goal

pub broken-requires : goal.broken-requires
broken-requires c =
    (c.requires, refused_is _ _ (sym (ap (judged_as c.args.image.now) c.in-Err.is) ∙ c.judge.ensures.0))

pub returns-in-Ok : goal.returns-in-Ok
returns-in-Ok c =
    c.sound.ensures ∙ lawful _ _ (sym (ap (judged_as c.args.image.now) c.in-Ok.is) ∙ c.judge.ensures.0)
