-- The chain by a cursor: what stands at it, and where the next one is.
use Rattle.std.specs.Prelude.{ℕ, ◌+◌, ◌-◌, ◌≤◌, ◌<◌, ◌^◌, ◌≡◌, Bool, true, false, List, length, drop, ltb}
use Rattle.spec.specs.declared.Next.{Next}
use Rattle.spec.specs.Basics.{part}
use Rattle.spec.specs.Bytes.{is_unfinished}
use Rattle.spec.specs.Record.{size_of, status_of}
use Rattle.spec.specs.Next.{next}
use Rattle.spec.specs.Chain.{allowed}
use Rattle.laws.specs.Length.{InRange}
use Rattle.chain.specs.declared.Cursor.{Cursor}
use Rattle.chain.specs.declared.Spot.{Spot}
use Rattle.chain.specs.declared.Item.{Item}

-- at the head h, whose sector starts at low, of an image of this length
abbrev pub start : ℕ → ℕ → ℕ → Cursor
start h low N = record { at = h; end = N; room = low; turned = false; pending = false }

-- the stretch that is left
abbrev pub window : List ℕ → Cursor → List ℕ
window image c = part c.at c.end image

-- what stands there
unfoldable pub look : List ℕ → Cursor → Next
look image c = allowed c.pending (next (window image c))

-- "After a wrap marker, or at N, the chain goes on at 0, if floor(h) > 0"
abbrev pub goes_on : ℕ → Next → Bool
goes_on room (Next.Record n d) = false
goes_on room Next.Wrap = ltb 0 room
goes_on room Next.TornWrap = false
goes_on room Next.Clear = false
goes_on room Next.Over = ltb 0 room
goes_on room Next.Bad = false

abbrev pub turn : ℕ → Bool → Cursor
turn room pending = record { at = 0; end = room; room = 0; turned = true; pending = pending }

-- past a record of size s, which is unfinished or not
abbrev pub past : Cursor → ℕ → Bool → Cursor
past c s pending = record { at = c.at + s; end = c.end; room = c.room; turned = c.turned; pending = pending }

-- "Torn wrap: legal only before the turn with floor(h) > 0"
unfoldable pub torn_end : ℕ → Bool → ℕ → Item
torn_end room turned at = elim (ltb 0 room) [ true ↦ Item.TornWrap at | false ↦ Item.Broken at turned ]

-- where the chain stops at x
abbrev pub stops : ℕ → Bool → ℕ → Next → Item
stops room turned at (Next.Record n d) = Item.Broken at turned
stops room turned at Next.Wrap = Item.Broken at turned
stops room turned at Next.TornWrap = torn_end room turned at
stops room turned at Next.Clear = Item.End at turned
stops room turned at Next.Over = Item.End at turned
stops room turned at Next.Bad = Item.Broken at turned

-- the record at address at of the image is unfinished
abbrev pub unfinished_at : List ℕ → ℕ → Bool
unfinished_at image at = is_unfinished (status_of (drop at image))

abbrev pub settle : List ℕ → Cursor → Next → Item
settle image c (Next.Record n d) = Item.Record (record { at = c.at; n = n; d = d }) (past c (size_of n d) (unfinished_at image c.at))
settle image c Next.Wrap = stops c.room c.turned c.at Next.Wrap
settle image c Next.TornWrap = stops c.room c.turned c.at Next.TornWrap
settle image c Next.Clear = stops c.room c.turned c.at Next.Clear
settle image c Next.Over = stops c.room c.turned c.at Next.Over
settle image c Next.Bad = stops c.room c.turned c.at Next.Bad

-- what stands at c, the turn made where it is due
unfoldable pub advance : List ℕ → Cursor → Item
advance image c =
    elim (goes_on c.room (look image c)) [
      | true ↦ settle image (turn c.room c.pending) (look image (turn c.room c.pending))
      | false ↦ settle image c (look image c)
    ]

-- ---- bounds

-- a cursor that lies in the image
pub record CursorSound (image : List ℕ) (c : Cursor) : Type 0 where
  pub ordered : c.at ≤ c.end
  pub inside : c.end ≤ length image
  pub room : c.room ≤ length image
  pub small : InRange (length image)

-- what is left to read: the measure of every loop over the chain
abbrev pub left : Cursor → ℕ
left c = c.end - c.at + c.room

-- a record and the cursor past it
pub record Onward (image : List ℕ) (c : Cursor) (e : Spot) (next : Cursor) : Type 0 where
  pub sound : CursorSound image next
  pub less : left next < left c
  pub name : e.n < 64
  pub data_len : e.d < 2 ^ 32
  pub fits : e.at + size_of e.n e.d ≤ length image
  pub pending : next.pending ≡ unfinished_at image e.at

abbrev pub Inside : List ℕ → Cursor → Item → Type 0
Inside image c (Item.Record e next) = Onward image c e next
Inside image c (Item.End t w) = t ≤ length image
Inside image c (Item.TornWrap t) = t ≤ length image
Inside image c (Item.Broken t w) = t ≤ length image
