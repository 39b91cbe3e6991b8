-- Document 02, K7: "Replay of a bus trace". "Our logger records flash traffic as three slices of numbers: kind, address, byte, as in K1."
use Rattle.std.specs.Prelude.{ℕ, suc, ◌%◌, Bool, true, false, ◌&&◌, ◌||◌, not, List, [], ◌∷◌, length, get_or, ltb, eqb}
use Rattle.spec.specs.Step.{Image, apply}
use Rattle.spec.specs.Basics.{Answer, refuse, give}
use Rattle.spec.specs.Geometry.{good_length}
use Rattle.spec.specs.Bytes.{clears}
use Rattle.spec.specs.Answers.{Plan, mount_plan}
use Rattle.spec.specs.Planner.{Slices, step_of}

-- ---- one entry: "out of range, of unknown kind, or programs a bit from 0 to 1", "tested in that order"

-- in an image of N bytes: "An erase whose address doesn't start a sector, or a programmed byte above 255, counts as out of range; an
-- erase's byte is ignored"
unfoldable pub out_of_range : ℕ → ℕ → ℕ → ℕ → Bool
out_of_range N kind a b = not (ltb a N) || (eqb kind 2 && not (eqb (a % 4096) 0)) || (eqb kind 1 && ltb 255 b)

-- "kind, 1 program or 2 erase"
unfoldable pub known_kind : ℕ → Bool
known_kind kind = eqb kind 1 || eqb kind 2

-- a program step that would set a bit that is clear
unfoldable pub sets_bit : Image → ℕ → ℕ → ℕ → Bool
sets_bit image kind a b = eqb kind 1 && not (clears (get_or image a 0) b)

-- "which of the three": 1, 2 or 3; 0 for an entry that can be carried out
unfoldable pub fault : Image → ℕ → ℕ → ℕ → ℕ
fault image kind a b =
    elim (out_of_range (length image) kind a b) [
      | true ↦ 1
      | false ↦ elim (known_kind kind) [ true ↦ elim (sets_bit image kind a b) [ true ↦ 3 | false ↦ 0 ] | false ↦ 2 ]
    ]

abbrev pub is_sound : Image → ℕ → ℕ → ℕ → Bool
is_sound image kind a b = eqb (fault image kind a b) 0

-- ---- the replay

-- the answer; the position of the entry that stopped it, which is the count of those before it, or the count of all; which of the three it
-- is, or 0; and "the image .. after all entries before the stop"
pub record Replayed : Type 0 where
  pub answer : ℕ
  pub position : ℕ
  pub stop : ℕ
  pub image : Image

abbrev pub replayed : ℕ → ℕ → ℕ → Image → Replayed
replayed answer position stop image = record { answer = answer; position = position; stop = stop; image = image }

-- behind n entries, over the image that they left: "It stops at the first entry that .. and names its position (from 0)"
unfoldable pub replay_on : ℕ → Image → List ℕ → List ℕ → List ℕ → Replayed
replay_on n image [] xs bs = replayed 0 n 0 image
replay_on n image (k ∷ ks) [] bs = replayed 0 n 0 image
replay_on n image (k ∷ ks) (a ∷ xs) [] = replayed 0 n 0 image
replay_on n image (k ∷ ks) (a ∷ xs) (b ∷ bs) =
    elim (is_sound image k a b) [
      | true ↦ replay_on (suc n) (apply image (step_of k a b)) ks xs bs
      | false ↦ replayed 0 n (fault image k a b) image
    ]

-- the slices of a trace are of one length
unfoldable pub equal_lengths : Slices → Bool
equal_lengths s = eqb (length s.kinds) (length s.addresses) && eqb (length s.addresses) (length s.bytes)

-- neither "Slices of unequal length" nor "a bad N"
unfoldable pub replayable : Image → Slices → Bool
replayable image s = good_length (length image) && equal_lengths s

-- "Replay it over a starting image. .. Slices of unequal length or a bad N are refused with 22"
unfoldable pub replay_trace : Image → Slices → Replayed
replay_trace image s =
    elim (replayable image s) [
      | true ↦ replay_on 0 image s.kinds s.addresses s.bytes
      | false ↦ replayed 22 0 0 image
    ]

-- ---- "the least count of entries, 0 too, after which mount would refuse the image, or word that there is none up to the stop"

abbrev pub is_refused : Answer Plan → Bool
is_refused (refuse x) = true
is_refused (give p) = false

-- "mount would refuse the image"
abbrev pub mount_refuses : Image → Bool
mount_refuses image = is_refused (mount_plan image)

-- the answer; whether there is such a count; the count, or that of all entries before the stop; and the image after so many
pub record Refusing : Type 0 where
  pub answer : ℕ
  pub there : Bool
  pub count : ℕ
  pub image : Image

abbrev pub refusing : ℕ → Bool → ℕ → Image → Refusing
refusing answer there count image = record { answer = answer; there = there; count = count; image = image }

-- behind n entries, over the image that they left; the image at the stop, or after the last entry, counts too
unfoldable pub watch_on : ℕ → Image → List ℕ → List ℕ → List ℕ → Refusing
watch_on n image [] xs bs = refusing 0 (mount_refuses image) n image
watch_on n image (k ∷ ks) [] bs = refusing 0 (mount_refuses image) n image
watch_on n image (k ∷ ks) (a ∷ xs) [] = refusing 0 (mount_refuses image) n image
watch_on n image (k ∷ ks) (a ∷ xs) (b ∷ bs) =
    elim (mount_refuses image) [
      | true ↦ refusing 0 true n image
      | false ↦ elim (is_sound image k a b) [
        | true ↦ watch_on (suc n) (apply image (step_of k a b)) ks xs bs
        | false ↦ refusing 0 false n image
      ]
    ]

-- refused as the replay is
unfoldable pub watch_trace : Image → Slices → Refusing
watch_trace image s =
    elim (replayable image s) [
      | true ↦ watch_on 0 image s.kinds s.addresses s.bytes
      | false ↦ refusing 22 false 0 image
    ]
