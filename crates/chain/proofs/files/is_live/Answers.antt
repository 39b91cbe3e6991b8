-- is_live: by status; an F8 record is live if no FC record has its name.
use mathlib.Core.Path.{sym, ◌∙◌}
use Rattle.laws.specs.Flag.{flag}
use Rattle.chain.specs.FileLaws.{live_fc, live_none, live_f8}
use Rattle.chain.proofs.files.is_live.Goals as goal

pub returns-then-named : goal.returns-then-named
returns-then-named c = c.if-named.true ∙ live_fc _ _ (flag c.named.ensures c.if-named.true)

pub returns-then-named-2 : goal.returns-then-named-2
returns-then-named-2 c =
    live_f8 _ _ _ (flag c.named.ensures c.if-named.false) (flag c.named-else-named.ensures c.if-named-2.true)
    (sym c.has_named.ensures)

pub returns-else-named-2 : goal.returns-else-named-2
returns-else-named-2 c =
    c.if-named-2.false
    ∙ live_none _ _ (flag c.named.ensures c.if-named.false) (flag c.named-else-named.ensures c.if-named-2.false)
