-- Sweep: up to five moves.
use Rattle.std.specs.Prelude.{ℕ, zero, suc, min, Bool, true, false, ◌&&◌, not, List, [], ◌∷◌, length}
use Rattle.spec.specs.Step.{Image, Step}
use Rattle.spec.specs.Record.{Entry, size}
use Rattle.spec.specs.Chain.{Reading}
use Rattle.spec.specs.Files.{live}
use Rattle.spec.specs.Place.{fits}
use Rattle.spec.specs.Move.{begin, move}

-- the head "is live and doesn't fit"
unfoldable pub no_room : Reading → List Entry → Bool
no_room r [] = false
no_room r (x ∷ es) = live (x ∷ es) x && not (fits r.place (size x))

-- "the head is not live and is the last record"
unfoldable pub at_end : List Entry → Bool
at_end [] = true
at_end (x ∷ []) = not (live (x ∷ []) x)
at_end (x ∷ (y ∷ es)) = false

-- no further move: "stopping early if the head is not live and is the last record, or is live and doesn't fit"
unfoldable pub stuck : Reading → Bool
stuck r = elim (at_end r.entries) [ true ↦ true | false ↦ no_room r r.entries ]

-- the moves, at most k of them, each with its steps
unfoldable pub moves : ℕ → Image → Reading → List (List Step)
moves zero image r = []
moves (suc k) image r =
    elim (stuck r) [
      | true ↦ []
      | false ↦ let w = move (begin image r) in w.steps ∷ moves k w.image w.reading
    ]

-- "Sweep makes min(5, records at entry) moves (markers aren't records)"
abbrev pub sweep_moves : Image → Reading → List (List Step)
sweep_moves image r = moves (min 5 (length r.entries)) image r
