-- "Geometry and record", second part: the header, the magic, the name, the size.
use Rattle.std.specs.Prelude.{ℕ, zero, suc, ◌+◌, ◌*◌, ◌/◌, ◌%◌, Bool, true, false, ◌&&◌, ◌||◌, not, List, [], ◌∷◌, length, take, drop, get_or, leb, ltb, eqb}
use Rattle.spec.specs.Refusals.{FaultNumbers}
use Rattle.spec.specs.Geometry.{up8}
use Rattle.spec.specs.Bytes.{is_wrap, is_start, is_clean, is_high, ends_name, is_printable, is_space, is_slash}

-- ---- "Header, 8 bytes: magic (2), status (1), reserved (1, always FF), data_len (4)", at the front of s

abbrev pub low_of : List ℕ → ℕ
low_of s = get_or s 0 0

abbrev pub high_of : List ℕ → ℕ
high_of s = get_or s 1 0

abbrev pub status_of : List ℕ → ℕ
status_of s = get_or s 2 0

abbrev pub spare_of : List ℕ → ℕ
spare_of s = get_or s 3 0

-- "Numbers are little endian"
abbrev pub data_len_of : List ℕ → ℕ
data_len_of s = get_or s 4 0 + 256 * get_or s 5 0 + 65536 * get_or s 6 0 + 16777216 * get_or s 7 0

-- the four bytes of data_len
abbrev pub four : ℕ → List ℕ
four d = d % 256 ∷ d / 256 % 256 ∷ d / 65536 % 256 ∷ d / 16777216 % 256 ∷ []

-- START, CLEAN and wrap magic at the front of s
abbrev pub start_here : List ℕ → Bool
start_here s = is_start (low_of s) && is_high (high_of s)

abbrev pub clean_here : List ℕ → Bool
clean_here s = is_clean (low_of s) && is_high (high_of s)

abbrev pub wrap_here : List ℕ → Bool
wrap_here s = is_wrap (low_of s) && is_high (high_of s)

-- ---- the size and the name

-- "Size = 8 + up8(n+1) + up8(d), for a name of n bytes and d data bytes"
abbrev pub size_of : ℕ → ℕ → ℕ
size_of n d = 8 + up8 (n + 1) + up8 d

-- the length of the name at the front of s, or k if none of its first k bytes ends it
unfoldable pub name_length : ℕ → Bool → List ℕ → ℕ
name_length zero reserved s = 0
name_length (suc k) reserved [] = suc k
name_length (suc k) reserved (b ∷ s) = elim (ends_name reserved b) [ true ↦ 0 | false ↦ suc (name_length k reserved s) ]

-- "the last not '/'"
unfoldable pub ends_in_slash : List ℕ → Bool
ends_in_slash [] = false
ends_in_slash (b ∷ []) = is_slash b
ends_in_slash (b ∷ (c ∷ s)) = ends_in_slash (c ∷ s)

-- the byte b may stand at the place i of a name of k bytes: "each 21 to 7E hex"; K5: "Allow 20 hex, except as first or last byte"
unfoldable pub may_stand : ℕ → ℕ → ℕ → Bool
may_stand k i b = is_printable b || (is_space b && not (eqb i 0) && not (eqb (i + 1) k))

-- the place of the first bad byte of a name of k bytes, of which s are those from the place i on; k if there is none
unfoldable pub first_bad : ℕ → ℕ → List ℕ → ℕ
first_bad k i [] = k
first_bad k i (b ∷ s) = elim (may_stand k i b) [ true ↦ first_bad k (i + 1) s | false ↦ i ]

abbrev fault : ℕ → ℕ → FaultNumbers
fault reason place = record { reason = reason; place = place }

-- K5: the name check says "what is wrong: empty, too long, bad byte with the first one's place (from 0; else 0), or final slash, tested in
-- that order (1 to 4 ..)"; 0 if nothing is
unfoldable pub name_fault : List ℕ → FaultNumbers
name_fault n =
    let k = length n in
    let bad = first_bad k 0 n in
    elim (leb 1 k) [
      | false ↦ fault 1 0
      | true ↦
          elim (leb k 63) [
            | false ↦ fault 2 0
            | true ↦
                elim (ltb bad k) [
                  | true ↦ fault 3 bad
                  | false ↦ elim (ends_in_slash n) [ true ↦ fault 4 0 | false ↦ fault 0 0 ]
                ]
          ]
    ]

-- "A file name has 1 to 63 bytes, each 21 to 7E hex, the last not '/'", and K5's spaces
unfoldable pub name_ok : List ℕ → Bool
name_ok n = eqb (name_fault n).reason 0

-- ---- a record as it is read

pub record Rec : Type 0 where
  pub low : ℕ
  pub status : ℕ
  pub name : List ℕ
  pub content : List ℕ

-- the record at the front of s, with n name bytes and d data bytes
abbrev pub rec_of : List ℕ → ℕ → ℕ → Rec
rec_of s n d = record { low = low_of s; status = status_of s; name = take n (drop 8 s); content = take d (drop (up8 (n + 1)) (drop 8 s)) }

-- a record and its address
pub record Entry : Type 0 where
  pub at : ℕ
  pub it : Rec

abbrev pub name_of : Entry → List ℕ
name_of e = e.it.name

abbrev pub content_of : Entry → List ℕ
content_of e = e.it.content

abbrev pub size : Entry → ℕ
size e = size_of (length (name_of e)) (length (content_of e))

-- where the data begins
abbrev pub data_at : Entry → ℕ
data_at e = e.at + (8 + up8 (length (name_of e) + 1))
