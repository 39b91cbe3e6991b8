-- The repairs that the first reading plans are the definition's, and so is the report.
use Rattle.std.proofs.Common.{arith}
use Rattle.planner.specs.Mount.{torn_told}
use Rattle.calls.specs.Space.{countable_legal, mount_told}
use Rattle.plans.specs.PlanMount.{marks_are, mount_out}
use Rattle.plans.proofs.plan_mount.plan_mount_from.Goals as goal

pub planned_report-report-requires : goal.planned_report-report-requires
planned_report-report-requires c =
    let p = c.requires in
    record { surveyed = p.0.surveyed; s_value = marks_are p.1 }

pub mount_space-space-requires : goal.mount_space-space-requires
mount_space-space-requires c =
    let p = c.requires in
    (countable_legal p.0 p.1, p.2)

pub hand_mend-requires : goal.hand_mend-requires
hand_mend-requires c =
    let a = c.args in
    let p = c.requires in record {
      surveyed = (p.0.surveyed, torn_told a.image.now a.j.survey p.0, omega (arith, p.3, p.0.led.small));
      s_value = marks_are p.1;
    }

pub returns : goal.returns
returns c =
    let a = c.args in
    let p = c.requires in
    let space = mount_told a.image.now a.j.survey _ p.1 c.mount_space-space.ensures in record {
      told = rw c.handed.ensures (mount_out p.1 c.planned_report-report.ensures space p.3 c.hand_mend.ensures);
      lent = c.hand_mend.ensures.lent;
    }
