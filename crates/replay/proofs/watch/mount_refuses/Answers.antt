-- Mount's door refuses, or nothing does.
use Rattle.std.proofs.Common.{sym, ◌∙◌}
use Rattle.replay.specs.Watching.{refuses_by}
use Rattle.replay.proofs.watch.mount_refuses.Goals as goal

pub returns : goal.returns
returns c = c.is_err.ensures.value ∙ sym (refuses_by c.args.image.now c.accepted.result c.accepted.ensures.0)
