-- The sectors of a stretch: none, or the first and those behind it.
use Rattle.std.specs.Prelude.{ℕ, zero, suc, ◌+◌, ◌≤◌, ◌<◌, ◌≡◌, refl, Bool, true, false, List, [], ◌∷◌, length, leb}
use Rattle.std.proofs.Common.{arith, sym, ap, ◌∙◌, le-leb}
use Rattle.std.proofs.lemmas.Bool.{lt-leb}
use Rattle.spec.specs.Step.{sector}
use Rattle.spec.specs.Geometry.{sectors_by, sectors}

pub length_sector : length sector ≡ 4096
unfolding sector
length_sector = refl

-- ---- with k as a bound on their number

pub sectors_by_none : (k a b : ℕ) → b < a + 4096 → sectors_by k a b ≡ []
unfolding sectors_by
sectors_by_none zero a b h = refl
sectors_by_none (suc k) a b h = rw (lt-leb (a + 4096) b h, sectors_by)

pub sectors_by_more : (k a b : ℕ) → a + 4096 ≤ b → sectors_by (suc k) a b ≡ a ∷ sectors_by k (a + 4096) b
unfolding sectors_by
sectors_by_more k a b h = rw (le-leb (a + 4096) b h, sectors_by)

-- a bound that is enough is as good as any other
enough : (k j a b : ℕ) → b ≤ a + k → b ≤ a + j → sectors_by k a b ≡ sectors_by j a b
unfolding sectors_by
enough zero j a b h g = sectors_by_none zero a b (omega arith) ∙ sym (sectors_by_none j a b (omega arith))
enough (suc k) zero a b h g = sectors_by_none (suc k) a b (omega arith) ∙ sym (sectors_by_none zero a b (omega arith))
enough (suc k) (suc j) a b h g = go (leb (a + 4096) b) refl (enough k j (a + 4096) b (omega arith) (omega arith)) where
  go : (t : Bool) → leb (a + 4096) b ≡ t → sectors_by k (a + 4096) b ≡ sectors_by j (a + 4096) b
      → sectors_by (suc k) a b ≡ sectors_by (suc j) a b
  go true e ih = rw (e, sectors_by) (ap (λ (l : List ℕ). a ∷ l) ih)
  go false e ih = rw (e, sectors_by)

-- ---- all of them

pub sectors_none : (a b : ℕ) → b < a + 4096 → sectors a b ≡ []
sectors_none a b h = sectors_by_none b a b h

pub sectors_more : (a b : ℕ) → a + 4096 ≤ b → sectors a b ≡ a ∷ sectors (a + 4096) b
sectors_more a b h = enough b (suc b) a b (omega arith) (omega arith) ∙ sectors_by_more b a b h
