-- The file that a put replaces, as the code has it.
use Rattle.std.specs.Prelude.{ℕ, Some, None, ◌+◌, ◌≤◌, ◌<◌, ◌≡◌, refl, List, [], ◌∷◌, length}
use Rattle.std.proofs.Math.Option.{Option, none, some}
use Rattle.spec.specs.declared.Place.{Place}
use Rattle.spec.specs.declared.Status.{Status}
use Rattle.std.proofs.Common.{arith}
use Rattle.spec.specs.Bytes.{is_committed}
use Rattle.spec.specs.Step.{Step}
use Rattle.spec.specs.Record.{Entry}
use Rattle.spec.specs.Write.{status_step, migrate_steps, put_steps}
use Rattle.writing.specs.Answers.{Old, old_at}
use Rattle.laws.specs.Tests.{either}

-- address and status are all that the steps ask of an entry
abbrev pub old_of : Option Entry → Old
old_of none = None
old_of (some e) = old_at e.at (record { byte = e.it.status })

-- an entry with this address and status
abbrev pub bare : ℕ → Status → Entry
bare a st = record { at = a; it = record { low = 0; status = st.byte; name = []; content = [] } }

abbrev pub old_entry : Old → Option Entry
old_entry None = none
old_entry (Some f) = some (bare f.at f.status)

pub put_old : (p : Place) (o : Option Entry) (name content : List ℕ)
    → put_steps p (old_entry (old_of o)) name content ≡ put_steps p o name content
unfolding put_steps
put_old p none name content = refl
put_old p (some e) name content = refl

-- its status byte lies in an image of this length
abbrev pub Lies : Old → ℕ → Type 0
Lies None N = Unit {0}
Lies (Some f) N = f.at + 2 < N

-- at most one step
pub migrate_few : (o : Option Entry) → length (migrate_steps o) ≤ 1
migrate_few none = omega arith
migrate_few (some e) =
    either (λ (ss : List Step). length ss ≤ 1) (is_committed e.it.status) (status_step e 0xF8 ∷ []) [] (omega arith) (omega arith)

pub lies_same : (o : Old) (N M : ℕ) → Lies o N → M ≡ N → Lies o M
lies_same o N M l e = rw e l
