-- first_bad: the first bad byte is the first from here on.
use Rattle.std.specs.Prelude.{◌≡◌, length, drop}
use Rattle.spec.specs.Record.{first_bad}
use Rattle.record.proofs.name.first_bad.Given as goal

abbrev pub invariant-loop-i : goal.invariant-loop-i
invariant-loop-i l = first_bad (length l.name) 0 l.name ≡ first_bad (length l.name) l.i (drop l.i l.name)
