-- What a planned sweep carries along, under names of its own.
use Rattle.std.specs.Prelude.{ℕ, Option}
use Rattle.planner.specs.declared.Walk.{Walk}

-- the address of the first copy that it makes, if it has made one
abbrev pub Copied : Type 0
Copied = Option ℕ

-- where the sweep goes on behind a move that was handed out
abbrev pub Moved : Type 0
Moved = Option Walk
