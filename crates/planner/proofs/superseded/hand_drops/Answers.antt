use Rattle.std.proofs.Common.{arith}
use Rattle.chain.specs.Rest.{entry_of, rest}
use Rattle.chain.specs.Fold.{passes}
use Rattle.chain.proofs.Others.{other_step}
use Rattle.window.specs.Handed.{leads_more, leads_end}
use Rattle.planner.specs.Superseded.{entries_on, entries_end, drops_on, drops_end}
use Rattle.planner.proofs.superseded.hand_drops.Goals as goal

pub loop-spot-preserved : goal.loop-spot-preserved
loop-spot-preserved c =
    let s = c.args.image.now in
    let l = c.loop-spot in
    let e = c.in-Record.spot in
    let t = passes c.advance.ensures c.in-Record.is in
    let h = c.hand_drop.ensures in (
      t.onward.sound,
      omega (arith, t.onward.less, h.passed_bound),
      leads_more l.invariant.2 (drops_on (rest s c.args.start).entries (entry_of s e) (entries_on s l.c e c.in-Record.next t)) h.handed,
    )

pub returns : goal.returns
returns c =
    let s = c.args.image.now in
    let r = c.advance in
    let l = c.loop-spot in
    let none = entries_end s l.c r.result r.ensures.0 (other_step r.result c.in_default.not-Record) in
    leads_end l.invariant.2 (drops_end (rest s c.args.start).entries none)
