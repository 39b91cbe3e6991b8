use Rattle.laws.specs.Flag.{flag}
use Rattle.reading.specs.Read.{reading_of}
use Rattle.reading.specs.RuleLaws.{open_is}
use Rattle.checking.specs.Stop.{cut_none_whole, cut_none_open, cut_is_there}
use Rattle.checking.proofs.stop.cut_off.Goals as goal
use Rattle.checking.proofs.stop.cut_off.Goals.{then-whole-via-then-whole, then-whole-via-else-whole+then-s}

pub returns-then-whole : goal.returns-then-whole
returns-then-whole c =
    let s = c.args.image.now in
    let r = reading_of s c.args.s in
    elim c.then-whole.branch [
      | then-whole-via-then-whole w ↦ (cut_none_whole s r (flag c.whole.ensures w.if-whole.true), tt)
      | then-whole-via-else-whole+then-s w ↦
          (cut_none_open s r (flag c.whole.ensures w.if-whole.false) (flag (open_is c.requires.tallied) w.if-s.true), tt)
    ]

pub returns : goal.returns
returns c =
    let s = c.args.image.now in
    let e = c.cut_off_at.ensures in (
      cut_is_there s (reading_of s c.args.s) _ e.0 (flag c.whole.ensures c.if-whole.false)
          (flag (open_is c.requires.tallied) c.if-s.false),
      e.1,
    )
