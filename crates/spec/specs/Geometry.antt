-- "Geometry and record", first part: lengths and sectors.
use Rattle.std.specs.Prelude.{ℕ, zero, suc, ◌+◌, ◌*◌, ◌/◌, ◌%◌, Bool, true, false, ◌&&◌, List, [], ◌∷◌, leb, eqb}

-- "Image length N: a multiple of 4,096, from 8,192 to 16,777,216"
unfoldable pub good_length : ℕ → Bool
good_length n = eqb (n % 4096) 0 && leb 8192 n && leb n 16777216

-- "floor(a) is the start of a's sector"
abbrev pub floor : ℕ → ℕ
floor a = a / 4096 * 4096

-- the first start of a sector that is not below a
abbrev pub ceiling : ℕ → ℕ
ceiling a = (a + 4095) / 4096 * 4096

-- "up8 rounds up to a multiple of 8"
abbrev pub up8 : ℕ → ℕ
up8 a = (a + 7) / 8 * 8

-- the starts of the sectors from the one at a on, as far as they end at b at most, ascending; k bounds their number
unfoldable pub sectors_by : ℕ → ℕ → ℕ → List ℕ
sectors_by zero a b = []
sectors_by (suc k) a b = elim (leb (a + 4096) b) [ true ↦ a ∷ sectors_by k (a + 4096) b | false ↦ [] ]

abbrev pub sectors : ℕ → ℕ → List ℕ
sectors a b = sectors_by b a b
