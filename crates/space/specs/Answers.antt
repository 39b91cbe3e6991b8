-- What a sweep that is only walked leaves, under a name of its own.
use Rattle.std.specs.Prelude.{Option}
use Rattle.space.specs.declared.Course.{Course}

-- a move: where the sweep goes on
abbrev pub Strode : Type 0
Strode = Option Course
