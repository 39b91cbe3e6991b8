-- What a put is told of the file that it replaces, under a name of its own.
use Rattle.std.specs.Prelude.{ℕ, Option, Some}
use Rattle.spec.specs.declared.Status.{Status}
use Rattle.writing.specs.declared.OldFile.{OldFile}

-- the file, or none
abbrev pub Old : Type 0
Old = Option OldFile

-- the file at this address, with this status
abbrev pub old_at : ℕ → Status → Old
old_at a st = Some (record { at = a; status = st })
