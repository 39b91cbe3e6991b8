-- A planned mount (02, K1): what the first reading plans is the definition's plan.
use Rattle.std.specs.Prelude.{◌≡◌, true, [], length}
use Rattle.std.proofs.Common.{arith, sym, ap, ◌∙◌}
use Rattle.spec.specs.declared.Report.{Report}
use Rattle.spec.specs.declared.Space.{Space}
use Rattle.spec.specs.Step.{Image}
use Rattle.spec.specs.Basics.{Answer}
use Rattle.spec.specs.Chain.{Reading}
use Rattle.spec.specs.Reading.{marks_ok}
use Rattle.spec.specs.Mount.{mended}
use Rattle.spec.specs.Space.{space_left}
use Rattle.spec.specs.Numbers.{of_mount}
use Rattle.spec.specs.Answers.{Plan, report_of, mount_of}
use Rattle.spec.specs.Planner.{hand_out}
use Rattle.planning.specs.Planned.{planned_mend, mended_reading}
use Rattle.planning.specs.Known.{accepted_known}
use Rattle.planning.specs.Spaces.{space_read, mount_leaves, mount_as_planned}
use Rattle.reading.specs.declared.Survey.{Survey}
use Rattle.reading.specs.Read.{reading_of}
use Rattle.window.specs.declared.Emitter.{Emitter}
use Rattle.window.specs.Handed.{held, Handed}
use Rattle.calls.specs.Space.{Legal}
use Rattle.plans.specs.Planned.{handing, count_in, planned_out}

module _ {image : Image} {v : Survey} (l : Legal image v) where
  abbrev r : Reading
  r = reading_of image v

  pub marks_are : marks_ok r.entries ≡ true
  marks_are = (accepted_known image r l.read).marks

  pub mount_out : {w q : Emitter} {report : Report} {x : Space} → report ≡ report_of (mended_reading r) → x ≡ space_left (mended image r)
      → w.passed ≡ 0 → Handed w (planned_mend image r) q
      → handing (of_mount 0 report x q.passed) (count_in q) (held q) ≡ hand_out (mount_of image r) w.first (held w)
  mount_out {w} {q} e o z h =
      let p : Plan = record {
        steps = planned_mend image r;
        moves = [];
        done = of_mount 0 (report_of (mended_reading r)) (space_read (mended_reading r)) (length (planned_mend image r));
      } in
      let n : q.passed ≡ length (planned_mend image r) = omega (arith, h.count) in
      let told = o ∙ (mount_leaves image r l.sized l.read).told in
      (λ i. handing (of_mount 0 (e i) (told i) (n i)) (count_in q) (held q))
      ∙ planned_out p z h
      ∙ ap (λ (a : Answer Plan). hand_out a w.first (held w)) (sym (mount_as_planned image r l.sized l.read))
