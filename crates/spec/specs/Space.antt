-- Document 02, K3: "Fuller mount report". The bytes of an image by what they are good for, read from the head that a call left on the image
-- that it left. "Each is counted by its own rule": none is what the others leave of N.
use Rattle.std.specs.Prelude.{ℕ, zero, suc, ◌+◌, ◌-◌, min, true, false, not, List, [], ◌∷◌, length, eqb}
use Rattle.spec.specs.Prelude.{Option, none, some}
use Rattle.spec.specs.declared.Next.{Next}
use Rattle.spec.specs.declared.Place.{Place}
use Rattle.spec.specs.declared.Space.{Space}
use Rattle.spec.specs.Step.{Image}
use Rattle.spec.specs.Basics.{keep}
use Rattle.spec.specs.Geometry.{floor}
use Rattle.spec.specs.Record.{Entry, size}
use Rattle.spec.specs.Chain.{Chain, from_head, Reading, reading_from}
use Rattle.spec.specs.Files.{live, files, file_named}
use Rattle.spec.specs.Write.{put_steps}
use Rattle.spec.specs.Move.{Work, begin, after, move}
use Rattle.spec.specs.Sweep.{stuck}

abbrev pub no_space : Space
no_space = record { live = 0; dead = 0; free = 0; lost = 0 }

-- ---- what is counted

abbrev pub sizes : List Entry → ℕ
sizes [] = 0
sizes (e ∷ es) = size e + sizes es

-- "live bytes (sizes of live records)"
abbrev pub live_bytes : List Entry → ℕ
live_bytes es = sizes (files es)

-- "other chain records"
abbrev pub others : List Entry → List Entry
others es = keep (λ e. not (live es e)) es

-- the wrap marker of the chain c that is read from the head h up to the turn: where it stands. "With floor(h) = 0" the chain does not turn
unfoldable pub marker_of : ℕ → Chain → Option ℕ
marker_of h c =
    elim (eqb (floor h) 0) [
      | true ↦ none
      | false ↦
          elim c.last [
            | Next.Record n d ↦ none
            | Next.Wrap ↦ some c.tail
            | Next.TornWrap ↦ none
            | Next.Clear ↦ none
            | Next.Over ↦ none
            | Next.Bad ↦ none
          ]
    ]

-- "8 for a wrap marker"
abbrev pub marker_bytes : Option ℕ → ℕ
marker_bytes none = 0
marker_bytes (some m) = 8

-- "dead bytes (other chain records, plus 8 for a wrap marker)"
abbrev pub dead_bytes : List Entry → Option ℕ → ℕ
dead_bytes es marker = sizes (others es) + marker_bytes marker

-- "free bytes (the free run)": "before the turn [T, N) and [0, floor(h)), after it [T, floor(h))"
unfoldable pub free_bytes : Place → ℕ
free_bytes p = elim p.turned [ true ↦ floor p.head - p.tail | false ↦ (p.length - p.tail) + floor p.head ]

-- "what lies after a wrap marker up to N"
abbrev pub behind_marker : ℕ → Option ℕ → ℕ
behind_marker N none = 0
behind_marker N (some m) = N - (m + 8)

-- "lost bytes (head's sector below the head, plus what lies after a wrap marker up to N)"
abbrev pub lost_bytes : Place → Option ℕ → ℕ
lost_bytes p marker = (p.head - floor p.head) + behind_marker p.length marker

-- of what is read, with its wrap marker if it has one
abbrev pub space_by : Reading → Option ℕ → Space
space_by r marker =
    record {
      live = live_bytes r.entries;
      dead = dead_bytes r.entries marker;
      free = free_bytes r.place;
      lost = lost_bytes r.place marker;
    }

-- of an image, on from the head h
abbrev pub space_of : Image → ℕ → Space
space_of image h = space_by (reading_from image h) (marker_of h (from_head image h))

-- ---- "on the image mount leaves"; "Sweep and put return the same record on success, for the image they leave"

unfoldable pub space_left : Work → Space
space_left w = space_of w.image w.reading.place.head

-- put's work: its steps, in one phase
abbrev pub put_work : List ℕ → List ℕ → Image → Reading → Work
put_work name content image r =
    after (begin image r) (put_steps r.place (file_named name r.entries) name content) r.place.head

-- what at most k moves leave, the last one's work
unfoldable pub swept : ℕ → Image → Reading → Work
swept zero image r = begin image r
swept (suc k) image r = elim (stuck r) [ true ↦ begin image r | false ↦ let w = move (begin image r) in swept k w.image w.reading ]

-- what a sweep leaves
abbrev pub sweep_work : Image → Reading → Work
sweep_work image r = swept (min 5 (length r.entries)) image r
