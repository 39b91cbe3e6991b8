-- A record behind X, or none.
use Rattle.std.proofs.Common.{arith, sym, ap, ◌∙◌}
use Rattle.planning.specs.Planned.{next_of}
use Rattle.chain.specs.Rest.{Run}
use Rattle.chain.specs.Fold.{passes, rest_done}
use Rattle.chain.proofs.Others.{other_step}
use Rattle.planner.specs.Walk.{copy_entry, address_of, address_copy}
use Rattle.planner.proofs.sweep.find_next.Goals as goal

pub returns-in_default : goal.returns-in_default
returns-in_default c =
    let a = c.args in
    let none = rest_done a.image.now a.past c.advance.result c.advance.ensures.0 (other_step c.advance.result c.in_default.not-Record) in
    (sym (ap (λ (r : Run). address_of (next_of r.entries (copy_entry a.copy))) none ∙ address_copy a.copy), c.requires.1)

pub returns-in-Record : goal.returns-in-Record
returns-in-Record c =
    let t = passes c.advance.ensures c.in-Record.is in (
      sym (ap (λ (r : Run). address_of (next_of r.entries (copy_entry c.args.copy))) t.split),
      omega (arith, t.whole.fits),
    )
