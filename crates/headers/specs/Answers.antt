-- What this crate's functions answer, under names of their own.
use Rattle.std.specs.Prelude.{ℕ, Option, Result}
use Rattle.spec.specs.declared.Refusal.{Refusal}

-- a length that was found
abbrev pub Size : Type 0
Size = Option ℕ

-- a file's length
abbrev pub Measured : Type 0
Measured = Result ℕ Refusal
