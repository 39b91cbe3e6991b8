-- "Chain and tail T" and "Last thing in the chain only". Before the turn the chain reads the image from h on, after it the image up to floor(h),
-- so that "records before the turn end at N at most, after it at floor(h) at most".
use Rattle.std.specs.Prelude.{ℕ, zero, suc, ◌+◌, Bool, true, false, List, [], ◌∷◌, ◌++◌, length, take, drop, eqb}
use Rattle.spec.specs.declared.Next.{Next}
use Rattle.spec.specs.declared.Ending.{Ending}
use Rattle.spec.specs.declared.Place.{Place}
use Rattle.spec.specs.Step.{Image}
use Rattle.spec.specs.Geometry.{floor}
use Rattle.spec.specs.Bytes.{is_unfinished}
use Rattle.spec.specs.Record.{status_of, size_of, rec_of, Entry}
use Rattle.spec.specs.Next.{next}

-- ---- one stretch

-- records one after another; whether the last of them is unfinished (torn or reserved); the place and the thing that ends them
pub record Chain : Type 0 where
  pub entries : List Entry
  pub pending : Bool
  pub tail : ℕ
  pub last : Next

abbrev pub add : Entry → Chain → Chain
add e c = record { entries = e ∷ c.entries; pending = c.pending; tail = c.tail; last = c.last }

abbrev pub stop : Bool → ℕ → Next → Chain
stop pending at x = record { entries = []; pending = pending; tail = at; last = x }

-- "Last thing in the chain only, markers counted": behind an unfinished record (pending) only an end may stand
abbrev pub allowed : Bool → Next → Next
allowed false x = x
allowed true (Next.Record n d) = Next.Bad
allowed true Next.Wrap = Next.Bad
allowed true Next.TornWrap = Next.Bad
allowed true Next.Clear = Next.Clear
allowed true Next.Over = Next.Over
allowed true Next.Bad = Next.Bad

-- "each record ends where the next begins": from address at, where s stands; pending: an unfinished record stands before it; k bounds their number
unfoldable pub chain : ℕ → Bool → ℕ → List ℕ → Chain
chain zero pending at s = stop pending at Next.Bad
chain (suc k) pending at s =
    elim (allowed pending (next s)) [
      | Next.Record n d ↦
          add (record { at = at; it = rec_of s n d }) (chain k (is_unfinished (status_of s)) (at + size_of n d) (drop (size_of n d) s))
      | Next.Wrap ↦ stop pending at Next.Wrap
      | Next.TornWrap ↦ stop pending at Next.TornWrap
      | Next.Clear ↦ stop pending at Next.Clear
      | Next.Over ↦ stop pending at Next.Over
      | Next.Bad ↦ stop pending at Next.Bad
    ]

-- ---- the whole chain

-- What is read from a head on: head, tail and turn; the records; how they end.
pub record Reading : Type 0 where
  pub place : Place
  pub entries : List Entry
  pub ending : Ending

-- "T is the first place with eight FF bytes", or the end of the stretch: N, or "after the turn, floor(h)"; anything else breaks a rule
abbrev pub ended : Next → Ending
ended (Next.Record n d) = Ending.Broken
ended Next.Wrap = Ending.Broken
ended Next.TornWrap = Ending.Broken
ended Next.Clear = Ending.Tail
ended Next.Over = Ending.Tail
ended Next.Bad = Ending.Broken

abbrev pub read : ℕ → ℕ → ℕ → Bool → List Entry → Ending → Reading
read N h T read_turned es e = record { place = record { head = h; tail = T; turned = read_turned; length = N }; entries = es; ending = e }

-- no turn: the chain ends where c does
abbrev pub read_straight : ℕ → ℕ → Chain → Reading
read_straight N h c = read N h c.tail false c.entries (ended c.last)

-- the chain goes on at 0 and ends where d does; "a marker after the turn is refusal 5"
abbrev pub read_turned : ℕ → ℕ → Chain → Chain → Reading
read_turned N h c d = read N h d.tail true (c.entries ++ d.entries) (ended d.last)

-- "Torn wrap: .. T is then 0"
abbrev pub turn_torn : ℕ → ℕ → Chain → Reading
turn_torn N h c = read N h 0 true c.entries (Ending.TornWrap c.tail)

-- with floor(h) > 0: c from h on, d from 0 on. "After a wrap marker, or at N, the chain goes on at 0"
unfoldable pub joined : ℕ → ℕ → Chain → Chain → Reading
joined N h c d =
    elim c.last [
      | Next.Record n l ↦ read_straight N h c
      | Next.Wrap ↦ read_turned N h c d
      | Next.TornWrap ↦ turn_torn N h c
      | Next.Clear ↦ read_straight N h c
      | Next.Over ↦ read_turned N h c d
      | Next.Bad ↦ read_straight N h c
    ]

-- the chain from h up to the turn, and from 0 on; the records of an image are fewer than its bytes
abbrev pub from_head : Image → ℕ → Chain
from_head image h = chain (suc (length image)) false h (drop h image)

abbrev pub from_zero : Image → ℕ → Bool → Chain
from_zero image h pending = chain (suc (length image)) pending 0 (take (floor h) image)

-- c is the chain from h; "with floor(h) = 0 a chain at N ends with T = N", and a marker, torn or not, is refusal 5
unfoldable pub read_on : Image → ℕ → Chain → Reading
read_on image h c =
    elim (eqb (floor h) 0) [
      | true ↦ read_straight (length image) h c
      | false ↦ joined (length image) h c (from_zero image h c.pending)
    ]

-- all that is read from the head h on
abbrev pub reading_from : Image → ℕ → Reading
reading_from image h = read_on image h (from_head image h)
