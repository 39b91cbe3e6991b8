-- The invariant: the bytes that are left, put into the slots behind, give what all of them give.
use Rattle.std.proofs.Common.{◌≡◌, ◌+◌}
use Rattle.spec.specs.Step.{bytes_at}
use Rattle.spec.specs.Planner.{shortest}
use Rattle.window.specs.Handed.{slices}
use Rattle.window.specs.Windows.{into}
use Rattle.window.specs.Bytes.{left}
use Rattle.window.proofs.fill_slots.Given as goal

abbrev pub invariant-loop-i : goal.invariant-loop-i
invariant-loop-i l =
    (shortest (slices l.kinds l.addresses l.bytes) ≡ shortest (slices l.initial.kinds l.initial.addresses l.initial.bytes))
    × (into l.slot (bytes_at l.at l.source) (slices l.initial.kinds l.initial.addresses l.initial.bytes)
    ≡ into (l.slot + l.i) (left l.at l.source l.i) (slices l.kinds l.addresses l.bytes))
