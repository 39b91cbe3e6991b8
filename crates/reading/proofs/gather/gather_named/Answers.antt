-- gather_named: the record is noted, its name and its hash.
use mathlib.Core.Path.{refl, sym, ap, ◌∙◌}
use mathlib.Core.Bool.{Bool, ◌&&◌}
use Rattle.chain.specs.Tally.{addable_size}
use Rattle.filter.specs.Table.{signature_by}
use Rattle.reading.specs.Gather.{gathering_named}
use native.Mathlib.Omega.{arith}
use Rattle.reading.proofs.gather.gather_named.Goals as goal

pub signature_by-s-requires : goal.signature_by-s-requires
signature_by-s-requires c = c.hash_of-h.ensures.1

pub repeats_signed-repeats-requires : goal.repeats_signed-repeats-requires
repeats_signed-repeats-requires c =
    let p = c.requires in
    let s = c.signature_by-s in (
      p.0,
      p.1.passes.whole,
      p.1.state.carried,
      record {
        file = p.2;
        bits = s.ensures.0 ∙ ap signature_by c.hash_of-h.ensures.0;
        inside = s.ensures.1;
      },
    )

pub noted_as-requires : goal.noted_as-requires
noted_as-requires c =
    let p = c.requires in
    let w = p.1.state.passing in
    let t = p.1.passes in (
      t.whole,
      omega (arith, w.few, p.0.inside, p.0.room, p.0.small),
      t.onward.pending,
      w.files,
      addable_size p.0 w t,
      sym p.2,
      ap (λ (ok : Bool). c.args.g.tally.fine && ok) c.name_fine-fine.ensures,
    )

pub returns : goal.returns
returns c =
    let p = c.requires in
    let h = c.hash_of-h in (
      gathering_named p.1 h.result p.2 h.ensures.0 c.noted_as.ensures c.repeats_signed-repeats.ensures c.seen_or-sight.ensures,
      refl,
    )
