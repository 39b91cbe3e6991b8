-- "Live files", and how they are found. A file is dead, live, or superseded: an F8 record that has an FC record of its name.
use Rattle.std.specs.Prelude.{ℕ, Bool, true, false, ◌&&◌, ◌||◌, not, List, [], ◌∷◌, eqb}
use Rattle.spec.specs.Prelude.{Option, get_elem?}
use Rattle.spec.specs.Basics.{empty, same, any, keep, first_such}
use Rattle.spec.specs.Record.{Entry, name_of}

-- two records have one name
abbrev pub same_name : Entry → Entry → Bool
same_name e f = same (name_of e) (name_of f)

-- a record of this status, FC or F8, that counts: "An FC or F8 record with an empty name, and any of status E0, is never a file and counts as dead in every rule"
unfoldable pub named : ℕ → Entry → Bool
named st e = eqb e.it.status st && not (empty (name_of e))

-- f is such a record, of e's name
abbrev pub named_as : ℕ → Entry → Entry → Bool
named_as st e f = named st f && same_name e f

-- among the records es there is such a one of e's name
unfoldable pub has_named : ℕ → List Entry → Entry → Bool
has_named st es e = any (named_as st e) es

-- "Live files: every other FC record, and every other F8 record with no FC record of its name"
unfoldable pub live : List Entry → Entry → Bool
live es e = named 0xFC e || (named 0xF8 e && not (has_named 0xFC es e))

-- an "F8 record with an FC record of its name"
unfoldable pub superseded : List Entry → Entry → Bool
superseded es e = named 0xF8 e && has_named 0xFC es e

-- the live files, in chain order
abbrev pub files : List Entry → List Entry
files es = keep (live es) es

-- the live file of this name
abbrev pub has_name : List ℕ → Entry → Bool
has_name n e = same (name_of e) n

unfoldable pub file_named : List ℕ → List Entry → Option Entry
file_named n es = first_such (has_name n) (files es)

-- the live file with this index
abbrev pub file_indexed : ℕ → List Entry → Option Entry
file_indexed i es = get_elem? (files es) i

-- two of the records of this status have one name
unfoldable pub doubled : ℕ → List Entry → Bool
doubled st [] = false
doubled st (e ∷ es) = elim (named st e && has_named st es e) [ true ↦ true | false ↦ doubled st es ]
