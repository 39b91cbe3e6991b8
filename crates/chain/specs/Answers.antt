-- What the searches of this crate answer, under names of their own.
use Rattle.std.specs.Prelude.{ℕ, Option, Result}
use Rattle.spec.specs.declared.Refusal.{Refusal}
use Rattle.chain.specs.declared.Spot.{Spot}
use Rattle.chain.specs.declared.Cursor.{Cursor}

-- the file that was looked for
abbrev pub Found : Type 0
Found = Option Spot

-- the head's address
abbrev pub Headed : Type 0
Headed = Result ℕ Refusal

-- a plain record, with the cursor past it
abbrev pub Nearby : Type 0
Nearby = Option (Spot × Cursor)
