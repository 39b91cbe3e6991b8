-- Nothing found is 2; else the one step.
use Rattle.std.proofs.Common.{sym, ap, ◌∙◌, arith, [], ◌∷◌}
use Rattle.spec.specs.Refusals.{numbered}
use Rattle.spec.specs.Write.{status_step}
use Rattle.spec.specs.Answers.{found, removing}
use Rattle.spec.specs.Planner.{hand_out}
use Rattle.chain.specs.Answers.{Found}
use Rattle.chain.specs.Rest.{entry_of}
use Rattle.chain.specs.Seek.{found_in}
use Rattle.window.specs.Handed.{held, lent_still}
use Rattle.plans.specs.Planned.{written_out, refused_out}
use Rattle.plans.proofs.plan_remove.plan_remove_from.Goals as goal

pub returns-in_default : goal.returns-in_default
returns-in_default c =
    let i = c.args.image.now in
    let w = c.args.out.now in record {
      told =
          refused_out (numbered 2) w.first (held w)
          ∙ ap (λ (f : Found). hand_out (found removing (found_in i f)) w.first (held w)) (sym c.in_default.is);
      lent = lent_still w;
    }

pub status-requires : goal.status-requires
status-requires c =
    let p = c.requires in
    let w = rw c.in-Some.is at p.0 in
    record { at_bound = omega (arith, w.fits, p.1); counts = omega (arith, p.2) }

pub returns : goal.returns
returns c =
    let i = c.args.image.now in
    let w = c.args.out.now in record {
      told =
          rw c.handed.ensures (
          written_out (status_step (entry_of i c.in-Some.e) 0x00 ∷ []) c.requires.2 c.status.ensures
          ∙ ap (λ (f : Found). hand_out (found removing (found_in i f)) w.first (held w)) (sym c.in-Some.is)
          );
      lent = c.status.ensures.lent;
    }
