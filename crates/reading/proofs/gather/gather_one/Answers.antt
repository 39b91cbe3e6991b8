-- gather_one: a file is noted with its name, another record without.
use mathlib.Core.Path.{refl, sym}
use Rattle.laws.specs.Flag.{flag}
use Rattle.chain.specs.Tally.{addable_size}
use Rattle.reading.specs.Gather.{fine_other, gathering_other}
use native.Mathlib.Omega.{arith}
use Rattle.reading.proofs.gather.gather_one.Goals as goal

pub gather_named-requires : goal.gather_named-requires
gather_named-requires c =
    let p = c.requires in
    (p.0, p.1, flag c.is_file.ensures c.if-is_file.true)

pub noted_as-requires : goal.noted_as-requires
noted_as-requires c =
    let p = c.requires in
    let y = flag c.is_file.ensures c.if-is_file.false in
    let w = p.1.state.passing in
    let t = p.1.passes in (
      t.whole,
      omega (arith, w.few, p.0.inside, p.0.room, p.0.small),
      t.onward.pending,
      w.files,
      addable_size p.0 w t,
      sym y,
      fine_other p.1 y,
    )

pub returns : goal.returns
returns c =
    let p = c.requires in
    (gathering_other p.1 (flag c.is_file.ensures c.if-is_file.false) c.noted_as.ensures, refl)
