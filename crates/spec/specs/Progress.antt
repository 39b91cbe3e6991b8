-- What the room rule gives sweeps, a statement that crate history proves: "In a history of demand 3, after any put with answer 0 that
-- leaves r records beginning in the head's sector, r/5 uncut plain sweeps (rounded up) with nothing between them get past all of these,
-- without 28".
use Rattle.std.specs.Prelude.{ℕ, ◌+◌, ◌/◌, ◌≤◌, ◌<◌, ◌≡◌, List, [], ◌∷◌, length}
use Rattle.spec.specs.Step.{Image}
use Rattle.spec.specs.Basics.{give, keep, Each}
use Rattle.spec.specs.Chain.{Reading}
use Rattle.spec.specs.Place.{begins_there}
use Rattle.spec.specs.Answers.{format, put, sweep, sweep_plan}
use Rattle.spec.specs.Door.{settled_reading}
use Rattle.spec.specs.History.{Call, replay, steps_of}
use Rattle.spec.specs.Demand.{BytesPut}

-- the "records beginning in the head's sector", live or not
abbrev pub to_pass : Reading → ℕ
to_pass r = length (keep (begins_there r.place) r.entries)

-- "r/5 (rounded up)"
abbrev pub fifths : ℕ → ℕ
fifths r = (r + 4) / 5

-- sweeps "with nothing between them", with these allowances; "uncut": each allowance is at least the sweep's need
abbrev pub Uncut : Image → List ℕ → Type 0
Uncut image [] = Unit {0}
Uncut image (k ∷ ks) = (length (steps_of (sweep_plan image)) ≤ k) × Uncut (sweep image k).image ks

-- "without 28": each answers 0
abbrev pub Answers0 : Image → List ℕ → Type 0
Answers0 image [] = Unit {0}
Answers0 image (k ∷ ks) = ((sweep image k).numbers.answer ≡ 0) × Answers0 (sweep image k).image ks

-- their finished moves: each leaves one record behind, the first of the chain
abbrev pub moves_made : Image → List ℕ → ℕ
moves_made image [] = 0
moves_made image (k ∷ ks) = (sweep image k).numbers.moves + moves_made (sweep image k).image ks

-- a settled image, on which so many sweeps get past all records that begin in the head's sector
pub record Passes (image : Image) : Type 0 where
  pub read : Reading
  pub settled : settled_reading image ≡ give read
  pub passes : (ks : List ℕ) → length ks ≡ fifths (to_pass read) → Uncut image ks
      → Answers0 image ks × (to_pass read ≤ moves_made image ks)

abbrev pub Progress : Type 0
Progress =
    (raw : Image) (k : ℕ) (calls : List Call) (name content : List ℕ) (m : ℕ) → (format raw k).numbers.answer ≡ 0 →
    Each (λ c. BytesPut c.request) calls → Each (λ b. b < 256) content →
    let image = replay (format raw k).image calls in
    (put image name content m).numbers.answer ≡ 0 → Passes (put image name content m).image
