-- What a list of steps does to one byte, told from the list alone: it leaves x there (Writes), or does not touch it (Untouched).
-- Everything else speaks of step lists through these two, so that a changed list changes only its own lemmas here.
use Prim.Native.Nat.{ℕ, zero, suc, ◌+◌, ◌-◌, ◌*◌, ◌≤◌, ◌<◌}
use native.Mathlib.Omega.{arith}
use Rattle.std.proofs.Common.{add-zero, sym, ap, ap₂, ◌∙◌, subst, length-set, length-append, length-drop, get_or-set_same, get_or-set_other, get_or-take, get_or-drop, get_or-append-add, length-take-le}
use Rattle.std.specs.Prelude.{◌≡◌, ◌⊎◌, Bool, ◌&&◌, List, [], ◌∷◌, ◌++◌, map, length, take, drop, set, get_or, eqb}
use Rattle.std.proofs.Math.Path.{refl}
use Rattle.std.proofs.Math.Logic.{inl, inr, ⊎_elim}
use Rattle.std.proofs.Math.Bool.{true, false}
use Rattle.std.proofs.lemmas.Bool.{false≢true}
use Rattle.std.proofs.lemmas.List.{get_or-replicate}
use Rattle.std.proofs.Math.ListN.{get_or-append}
use Rattle.std.proofs.Math.Dec.{leb}
use borrow.Author.Tests.{leb-true, leb-false, eqb-true, eqb-false}
use Rattle.spec.specs.Step.{Image, Step, program, erase, sector, apply, run, bytes_at, shifted}
use Rattle.spec.specs.Geometry.{sectors_by, sectors}
use Rattle.laws.specs.Tests.{and_left, and_right}
use Rattle.laws.specs.Sectors.{length_sector}
use Rattle.laws.specs.Parts.{Outside}

-- ---- one byte

abbrev pub Untouched : ℕ → List Step → Type 0
Untouched i [] = Unit {0}
Untouched i (program k x ∷ ss) = (i ≡ k → ⊥) × Untouched i ss
Untouched i (erase k ∷ ss) = Outside i k 4096 × Untouched i ss

-- the byte at i is x in the end
abbrev pub Writes : List Step → ℕ → ℕ → Type 0
Writes [] i x = ⊥
Writes (program k y ∷ ss) i x = Writes ss i x ⊎ ((k ≡ i) × (y ≡ x) × Untouched i ss)
Writes (erase k ∷ ss) i x = Writes ss i x ⊎ ((k ≤ i) × (i < k + 4096) × (0xFF ≡ x) × Untouched i ss)

-- every erased sector lies in an image of N bytes
abbrev pub Bounded : ℕ → List Step → Type 0
Bounded N [] = Unit {0}
Bounded N (program k x ∷ ss) = Bounded N ss
Bounded N (erase k ∷ ss) = (k + 4096 ≤ N) × Bounded N ss

-- ---- what it means for an image

sector_byte : (i : ℕ) → i < 4096 → get_or sector i 0 ≡ 0xFF
unfolding sector
sector_byte i h = get_or-replicate {A = ℕ} 4096 i 0xFF 0 h

module _ (im : Image) (k : ℕ) (h : k + 4096 ≤ length im) where
  front_length : length (take k im) ≡ k
  front_length = length-take-le k im (omega arith)

  pub erase_length : length (apply im (erase k)) ≡ length im
  erase_length =
      length-append (take k im) (sector ++ drop 4096 (drop k im))
      ∙ ap₂ (λ (a b : ℕ). a + b) front_length
      (length-append sector (drop 4096 (drop k im))
      ∙ ap₂ (λ (a b : ℕ). a + b) length_sector (length-drop 4096 (drop k im) ∙ ap (λ (n : ℕ). n - 4096) (length-drop k im)))
      ∙ omega arith

  erase_low : (i : ℕ) → i < k → get_or (apply im (erase k)) i 0 ≡ get_or im i 0
  erase_low i l = get_or-append (take k im) (sector ++ drop 4096 (drop k im)) 0 i (omega (arith, front_length)) ∙ get_or-take k im i 0 l

  erase_past : (j : ℕ) → get_or (apply im (erase k)) (k + j) 0 ≡ get_or (sector ++ drop 4096 (drop k im)) j 0
  erase_past j =
      ap (λ (n : ℕ). get_or (apply im (erase k)) (n + j) 0) (sym front_length)
      ∙ get_or-append-add (take k im) (sector ++ drop 4096 (drop k im)) j 0

  pub erase_in : (i : ℕ) → k ≤ i → i < k + 4096 → get_or (apply im (erase k)) i 0 ≡ 0xFF
  erase_in i l m =
      let e : i ≡ k + (i - k) = omega arith in
      ap (λ (n : ℕ). get_or (apply im (erase k)) n 0) e ∙ erase_past (i - k)
      ∙ get_or-append sector (drop 4096 (drop k im)) 0 (i - k) (omega (arith, length_sector))
      ∙ sector_byte (i - k) (omega arith)

  erase_high : (i : ℕ) → k + 4096 ≤ i → get_or (apply im (erase k)) i 0 ≡ get_or im i 0
  erase_high i l =
      let j : ℕ = i - (k + 4096) in
      let e : i ≡ k + (4096 + j) = omega arith in
      ap (λ (n : ℕ). get_or (apply im (erase k)) n 0) e ∙ erase_past (4096 + j)
      ∙ ap (λ (n : ℕ). get_or (sector ++ drop 4096 (drop k im)) (n + j) 0) (sym length_sector)
      ∙ get_or-append-add sector (drop 4096 (drop k im)) j 0 ∙ get_or-drop 4096 (drop k im) j 0 ∙ get_or-drop k im (4096 + j) 0
      ∙ ap (λ (n : ℕ). get_or im n 0) (sym e)

  pub erase_off : (i : ℕ) → Outside i k 4096 → get_or (apply im (erase k)) i 0 ≡ get_or im i 0
  erase_off i (inl l) = erase_low i l
  erase_off i (inr l) = erase_high i l

pub run_length : (im : Image) (ss : List Step) → Bounded (length im) ss → length (run im ss) ≡ length im
run_length im [] w = refl
run_length im (program k x ∷ ss) w =
    let e : length (set im k x) ≡ length im = length-set im k x in
    run_length (set im k x) ss (subst (λ (n : ℕ). Bounded n ss) (sym e) w) ∙ e
run_length im (erase k ∷ ss) w =
    let e : length (apply im (erase k)) ≡ length im = erase_length im k w.0 in
    run_length (apply im (erase k)) ss (subst (λ (n : ℕ). Bounded n ss) (sym e) w.1) ∙ e

pub untouched_run : (im : Image) (ss : List Step) (i : ℕ) → Bounded (length im) ss → Untouched i ss → get_or (run im ss) i 0 ≡ get_or im i 0
untouched_run im [] i w u = refl
untouched_run im (program k x ∷ ss) i w u =
    untouched_run (set im k x) ss i (subst (λ (n : ℕ). Bounded n ss) (sym (length-set im k x)) w) u.1 ∙ get_or-set_other im k i x 0 u.0
untouched_run im (erase k ∷ ss) i w u =
    untouched_run (apply im (erase k)) ss i (subst (λ (n : ℕ). Bounded n ss) (sym (erase_length im k w.0)) w.1) u.1
    ∙ erase_off im k w.0 i u.0

pub writes_run : (im : Image) (ss : List Step) (i x : ℕ) → i < length im → Bounded (length im) ss → Writes ss i x → get_or (run im ss) i 0 ≡ x
writes_run im [] i x l w p = absurd p
writes_run im (program k y ∷ ss) i x l w (inl p) =
    let e : length (set im k y) ≡ length im = length-set im k y in
    writes_run (set im k y) ss i x (omega arith) (subst (λ (n : ℕ). Bounded n ss) (sym e) w) p
writes_run im (program k y ∷ ss) i x l w (inr p) =
    let e : length (set im k y) ≡ length im = length-set im k y in
    untouched_run (set im k y) ss i (subst (λ (n : ℕ). Bounded n ss) (sym e) w) p.2
    ∙ ap (λ (n : ℕ). get_or (set im n y) i 0) p.0 ∙ get_or-set_same im i y 0 l ∙ p.1
writes_run im (erase k ∷ ss) i x l w (inl p) =
    let e : length (apply im (erase k)) ≡ length im = erase_length im k w.0 in
    writes_run (apply im (erase k)) ss i x (omega arith) (subst (λ (n : ℕ). Bounded n ss) (sym e) w.1) p
writes_run im (erase k ∷ ss) i x l w (inr p) =
    untouched_run (apply im (erase k)) ss i (subst (λ (n : ℕ). Bounded n ss) (sym (erase_length im k w.0)) w.1) p.3
    ∙ erase_in im k w.0 i p.0 p.1 ∙ p.2

-- ---- lists of steps, one after another

pub untouched_append : (i : ℕ) (a b : List Step) → Untouched i a → Untouched i b → Untouched i (a ++ b)
untouched_append i [] b p q = q
untouched_append i (program k x ∷ a) b p q = (p.0, untouched_append i a b p.1 q)
untouched_append i (erase k ∷ a) b p q = (p.0, untouched_append i a b p.1 q)

pub writes_left : (a b : List Step) (i x : ℕ) → Writes a i x → Untouched i b → Writes (a ++ b) i x
writes_left [] b i x p q = absurd p
writes_left (program k y ∷ a) b i x (inl p) q = inl (writes_left a b i x p q)
writes_left (program k y ∷ a) b i x (inr p) q = inr (p.0, p.1, untouched_append i a b p.2 q)
writes_left (erase k ∷ a) b i x (inl p) q = inl (writes_left a b i x p q)
writes_left (erase k ∷ a) b i x (inr p) q = inr (p.0, p.1, p.2, untouched_append i a b p.3 q)

pub writes_right : (a b : List Step) (i x : ℕ) → Writes b i x → Writes (a ++ b) i x
writes_right [] b i x p = p
writes_right (program k y ∷ a) b i x p = inl (writes_right a b i x p)
writes_right (erase k ∷ a) b i x p = inl (writes_right a b i x p)

pub bounded_append : (N : ℕ) (a b : List Step) → Bounded N a → Bounded N b → Bounded N (a ++ b)
bounded_append N [] b p q = q
bounded_append N (program k y ∷ a) b p q = bounded_append N a b p q
bounded_append N (erase k ∷ a) b p q = (p.0, bounded_append N a b p.1 q)

-- ---- bytes one after another

pub untouched_bytes : (i a : ℕ) (w : List ℕ) → Outside i a (length w) → Untouched i (bytes_at a w)
untouched_bytes i a [] o = tt
untouched_bytes i a (b ∷ w) o = (
  ⊎_elim (λ (h : i < a). λ q. omega arith) (λ (h : a + suc (length w) ≤ i). λ q. omega arith) o,
  untouched_bytes i (a + 1) w (⊎_elim (λ (h : i < a). inl (omega arith)) (λ (h : a + suc (length w) ≤ i). inr (omega arith)) o),
)

pub writes_bytes : (a j : ℕ) (w : List ℕ) → j < length w → Writes (bytes_at a w) (a + j) (get_or w j 0)
writes_bytes a j [] h = absurd (omega arith)
writes_bytes a zero (b ∷ w) h = inr (sym (add-zero a), refl, untouched_bytes (a + 0) (a + 1) w (inl (omega arith)))
writes_bytes a (suc j) (b ∷ w) h =
    let e : a + 1 + j ≡ a + suc j = omega arith in
    inl (subst (λ (i : ℕ). Writes (bytes_at (a + 1) w) i (get_or w j 0)) e (writes_bytes (a + 1) j w (omega arith)))

pub bounded_bytes : (N a : ℕ) (w : List ℕ) → Bounded N (bytes_at a w)
bounded_bytes N a [] = tt
bounded_bytes N a (b ∷ w) = bounded_bytes N (a + 1) w

-- ---- steps that count from a record's start

pub untouched_shifted : (a i : ℕ) (ss : List Step) → Untouched i ss → Untouched (a + i) (shifted a ss)
untouched_shifted a i [] p = tt
untouched_shifted a i (program k x ∷ ss) p = (λ q. p.0 (omega arith), untouched_shifted a i ss p.1)
untouched_shifted a i (erase k ∷ ss) p =
    (⊎_elim (λ (h : i < k). inl (omega arith)) (λ (h : k + 4096 ≤ i). inr (omega arith)) p.0, untouched_shifted a i ss p.1)

pub writes_shifted : (a i x : ℕ) (ss : List Step) → Writes ss i x → Writes (shifted a ss) (a + i) x
writes_shifted a i x [] p = absurd p
writes_shifted a i x (program k y ∷ ss) (inl p) = inl (writes_shifted a i x ss p)
writes_shifted a i x (program k y ∷ ss) (inr p) = inr (ap (λ (n : ℕ). a + n) p.0, p.1, untouched_shifted a i ss p.2)
writes_shifted a i x (erase k ∷ ss) (inl p) = inl (writes_shifted a i x ss p)
writes_shifted a i x (erase k ∷ ss) (inr p) = inr (omega (arith, p.0), omega (arith, p.1), p.2, untouched_shifted a i ss p.3)

-- ---- lists that are written out: both can be computed

-- no step of ss programs i, and none erases
unfoldable pub skips : ℕ → List Step → Bool
skips i [] = true
skips i (program k x ∷ ss) = elim (eqb i k) [ true ↦ false | false ↦ skips i ss ]
skips i (erase k ∷ ss) = false

-- the last that programs i programs x
unfoldable pub last_programs : List Step → ℕ → ℕ → Bool
last_programs [] i x = false
last_programs (program k y ∷ ss) i x = elim (last_programs ss i x) [ true ↦ true | false ↦ eqb k i && eqb y x && skips i ss ]
last_programs (erase k ∷ ss) i x = last_programs ss i x

pub skips_untouched : (i : ℕ) (ss : List Step) → skips i ss ≡ true → Untouched i ss
unfolding skips
skips_untouched i [] h = tt
skips_untouched i (program k x ∷ ss) h = go (eqb i k) refl (skips_untouched i ss) where
  go : (t : Bool) → eqb i k ≡ t → (skips i ss ≡ true → Untouched i ss) → Untouched i (program k x ∷ ss)
  go true e ih = absurd (false≢true (rw (skips, e) at h))
  go false e ih = (eqb-false i k e, ih (rw (skips, e) at h))
skips_untouched i (erase k ∷ ss) h = absurd (false≢true h)

pub last_writes : (ss : List Step) (i x : ℕ) → last_programs ss i x ≡ true → Writes ss i x
unfolding last_programs
last_writes [] i x h = absurd (false≢true h)
last_writes (program k y ∷ ss) i x h = go (last_programs ss i x) refl (last_writes ss i x) where
  go : (t : Bool) → last_programs ss i x ≡ t → (last_programs ss i x ≡ true → Writes ss i x) → Writes (program k y ∷ ss) i x
  go true e ih = inl (ih e)
  go false e ih =
      let p : (eqb k i && eqb y x && skips i ss) ≡ true = rw (last_programs, e) at h in
      let q : (eqb k i && eqb y x) ≡ true = and_left (eqb k i && eqb y x) (skips i ss) p in
      inr (
        eqb-true k i (and_left (eqb k i) (eqb y x) q),
        eqb-true y x (and_right (eqb k i) (eqb y x) q),
        skips_untouched i ss (and_right (eqb k i && eqb y x) (skips i ss) p),
      )
last_writes (erase k ∷ ss) i x h = inl (last_writes ss i x h)

-- ---- sectors

module _ (b : ℕ) where
  sectors_off : (k a i : ℕ) → (i < a) ⊎ (b ≤ i) → Untouched i (map erase (sectors_by k a b))
  unfolding sectors_by
  sectors_off zero a i o = tt
  sectors_off (suc k) a i o = go (leb (a + 4096) b) refl (sectors_off k (a + 4096) i) where
    go : (t : Bool) → leb (a + 4096) b ≡ t → ((i < a + 4096) ⊎ (b ≤ i) → Untouched i (map erase (sectors_by k (a + 4096) b)))
        → Untouched i (map erase (sectors_by (suc k) a b))
    go true e ih =
        let l : a + 4096 ≤ b = leb-true (a + 4096) b e in
        rw (sectors_by, e) (
          ⊎_elim (λ (h : i < a). inl h) (λ (h : b ≤ i). inr (omega arith)) o,
          ih
              (⊎_elim (λ (h : i < a). inl (omega arith)) (λ (h : b ≤ i). inr h) o),
        )
    go false e ih = rw (sectors_by, e) tt

  sectors_in : (k a i : ℕ) → b ≤ a + 4096 * k → a ≤ i → i < b → (m : ℕ) → b ≡ a + 4096 * m → Writes (map erase (sectors_by k a b)) i 0xFF
  unfolding sectors_by
  sectors_in zero a i f h l m q = absurd (omega arith)
  sectors_in (suc k) a i f h l zero q = absurd (omega arith)
  sectors_in (suc k) a i f h l (suc m) q =
      go (leb (a + 4096) b) refl (leb (a + 4096) i) refl (λ g. sectors_in k (a + 4096) i (omega arith) g l m (omega arith)) where
        go : (t : Bool) → leb (a + 4096) b ≡ t → (u : Bool) → leb (a + 4096) i ≡ u
            → (a + 4096 ≤ i → Writes (map erase (sectors_by k (a + 4096) b)) i 0xFF)
            → Writes (map erase (sectors_by (suc k) a b)) i 0xFF
        go true e true g ih = rw (sectors_by, e) (inl (ih (leb-true (a + 4096) i g)))
        go true e false g ih =
            rw (sectors_by, e) (inr (h, leb-false (a + 4096) i g, refl, sectors_off k (a + 4096) i (inl (leb-false (a + 4096) i g))))
        go false e u g ih = absurd (omega (arith, leb-false (a + 4096) b e))

  sectors_bounded : (N k a : ℕ) → b ≤ N → Bounded N (map erase (sectors_by k a b))
  unfolding sectors_by
  sectors_bounded N zero a h = tt
  sectors_bounded N (suc k) a h = go (leb (a + 4096) b) refl (sectors_bounded N k (a + 4096) h) where
    go : (t : Bool) → leb (a + 4096) b ≡ t → Bounded N (map erase (sectors_by k (a + 4096) b))
        → Bounded N (map erase (sectors_by (suc k) a b))
    go true e ih = let l : a + 4096 ≤ b = leb-true (a + 4096) b e in rw (sectors_by, e) (omega arith, ih)
    go false e ih = rw (sectors_by, e) tt

-- the sectors from a up to b are erased, and nothing else
pub erases_off : (a b i : ℕ) → (i < a) ⊎ (b ≤ i) → Untouched i (map erase (sectors a b))
erases_off a b i o = sectors_off b b a i o

pub erases_in : (a b i m : ℕ) → b ≡ a + 4096 * m → a ≤ i → i < b → Writes (map erase (sectors a b)) i 0xFF
erases_in a b i m q h l = sectors_in b b a i (omega arith) h l m q

pub erases_bounded : (N a b : ℕ) → b ≤ N → Bounded N (map erase (sectors a b))
erases_bounded N a b h = sectors_bounded b N b a h
