-- How many steps the repairs have, told from their lists alone: bytes programmed and sectors erased.
use Rattle.std.specs.Prelude.{ℕ, zero, suc, ◌+◌, ◌-◌, ◌*◌, ◌/◌, ◌≤◌, ◌≡◌, refl, Bool, true, false, List, [], ◌∷◌, ◌++◌, map, length, drop, eqb, leb}
use Rattle.std.proofs.Common.{arith, ap, length-append, length-drop, leb-true}
use Rattle.spec.specs.declared.Place.{Place}
use Rattle.spec.specs.Step.{Image, Step, program, erase}
use Rattle.spec.specs.Basics.{keep}
use Rattle.spec.specs.Bytes.{is_start, is_high}
use Rattle.spec.specs.Geometry.{floor, ceiling, sectors_by, sectors}
use Rattle.spec.specs.Record.{Entry, content_of, data_at}
use Rattle.spec.specs.Move.{mark_here, mark_steps, clean_steps, vacated_end, vacated, forget_steps, start_steps, vacate_steps, close_steps}
use Rattle.spec.specs.Mount.{free_sectors, dirty, erase_steps}
use Rattle.spec.specs.Bounds.{AtMost}
use Rattle.laws.specs.Tests.{either}
use Rattle.laws.specs.Lists.{keep_yes, keep_no}
use Rattle.laws.specs.Steps.{Programs, programs_append}
use Rattle.history.specs.StepCounts.{most_append, most_more, most_programs, most_erases}

-- ---- sectors

sectors_count : (k a b : ℕ) → 4096 * length (sectors_by k a b) ≤ b - a
unfolding sectors_by
sectors_count zero a b = omega arith
sectors_count (suc k) a b = go (leb (a + 4096) b) refl (sectors_count k (a + 4096) b)
  where
    go : (t : Bool) → leb (a + 4096) b ≡ t → 4096 * length (sectors_by k (a + 4096) b) ≤ b - (a + 4096)
        → 4096 * length {A = ℕ} (elim t as (λ x. List ℕ) [ true ↦ a ∷ sectors_by k (a + 4096) b | false ↦ [] ]) ≤ b - a
    go true e h = omega (arith, leb-true (a + 4096) b e)
    go false e h = omega arith

pub sectors_few : (a b : ℕ) → length (sectors a b) ≤ b / 4096
sectors_few a b = omega (arith, sectors_count b a b)

keep_few : {A : Type 0} (p : A → Bool) (xs : List A) → length (keep p xs) ≤ length xs
keep_few p [] = omega arith
keep_few p (x ∷ xs) = go (p x) refl (keep_few p xs)
  where
    go : (b : Bool) → p x ≡ b → length (keep p xs) ≤ length xs → length (keep p (x ∷ xs)) ≤ suc (length xs)
    go true e h = omega (arith, ap length (keep_yes p x xs e))
    go false e h = omega (arith, ap length (keep_no p x xs e))

-- ---- step (c)

mark_programs : (a : ℕ) (s : List ℕ) → Programs (mark_steps a s)
mark_programs a s = either Programs (mark_here s) (program (a + 1) 0x00 ∷ []) [] tt tt

pub clean_programs : (k a : ℕ) (s : List ℕ) → Programs (clean_steps k a s)
unfolding clean_steps
clean_programs zero a s = tt
clean_programs (suc k) a s =
    programs_append (mark_steps a s) (clean_steps k (a + 8) (drop 8 s)) (mark_programs a s) (clean_programs k (a + 8) (drop 8 s))

mark_few : (a : ℕ) (s : List ℕ) → length (mark_steps a s) ≤ 1
mark_few a s = either (λ (ss : List Step). length ss ≤ 1) (mark_here s) (program (a + 1) 0x00 ∷ []) [] (omega arith) (omega arith)

mark_none : (a : ℕ) → length (mark_steps a []) ≡ 0
unfolding is_start is_high
mark_none a = refl

-- one for each 8-byte boundary at most
clean_few : (k a : ℕ) (s : List ℕ) → length (clean_steps k a s) ≤ (length s + 7) / 8
unfolding clean_steps
clean_few zero a s = omega arith
clean_few (suc k) a [] = omega (arith, length-append (mark_steps a []) (clean_steps k (a + 8) []), clean_few k (a + 8) [], mark_none a)
clean_few (suc k) a (x ∷ s) =
    omega (
      arith,
      length-append (mark_steps a (x ∷ s)) (clean_steps k (a + 8) (drop 8 (x ∷ s))),
      clean_few k (a + 8) (drop 8 (x ∷ s)),
      mark_few a (x ∷ s),
      length-drop 8 (x ∷ s),
    )

-- ---- steps (d) to (f)

pub start_most : (a low : ℕ) → AtMost 2 0 (start_steps a low)
start_most a low =
    either (AtMost 2 0) (eqb low 0xA0) (program a 0x80 ∷ program a 0x00 ∷ []) (program a 0x00 ∷ [])
    (record { programs_few = omega arith; erases_few = omega arith }) (record { programs_few = omega arith; erases_few = omega arith })

forget_most : (x : Entry) (zs : List ℕ) → AtMost 1 0 (forget_steps x zs)
forget_most x [] = record { programs_few = omega arith; erases_few = omega arith }
forget_most x (z ∷ zs) = record { programs_few = omega arith; erases_few = omega arith }

pub end_few : (N : ℕ) (y : Entry) → y.at ≤ N → vacated_end N y ≤ N
unfolding vacated_end
end_few N y h = either (λ (a : ℕ). a ≤ N) (eqb y.at 0) N (floor y.at) (omega arith) (omega arith)

vacated_few : (N : ℕ) (x y : Entry) → y.at ≤ N → length (vacated N x y) ≤ N / 4096
vacated_few N x y h = omega (arith, sectors_few (floor x.at) (vacated_end N y), end_few N y h)

-- (c) to (f): a byte for 8 of X's data, and three; the sectors
pub close_most : (N : ℕ) (x y : Entry) (low : ℕ) → y.at ≤ N
    → AtMost ((length (content_of x) + 7) / 8 + 3) (N / 4096) (close_steps N x y low)
unfolding close_steps
close_most N x y low h =
    let zs : List ℕ = vacated N x y in
    let d : ℕ = length (content_of x) in
    let clean : List Step = clean_steps d (data_at x) (content_of x) in
    let c : AtMost ((d + 7) / 8) 0 clean =
    most_programs clean (clean_programs d (data_at x) (content_of x)) (clean_few d (data_at x) (content_of x)) in
    let e : AtMost 0 (N / 4096) (map erase zs) = most_erases zs (vacated_few N x y h) in
    let s : AtMost 3 0 (start_steps y.at low ++ forget_steps x zs) =
    most_append (start_steps y.at low) (forget_steps x zs) (start_most y.at low) (forget_most x zs) in
    most_more (most_append clean (vacate_steps x y low zs) c
    (most_append (map erase zs) (start_steps y.at low ++ forget_steps x zs) e s))
    (omega arith) (omega arith)

-- ---- repair 1

free_few : (p : Place) → p.head ≤ p.length → (p.turned ≡ false → p.head ≤ p.tail) → length (free_sectors p) ≤ p.length / 4096
unfolding free_sectors
free_few p h k = go p.turned k
  where
    go : (b : Bool) → (b ≡ false → p.head ≤ p.tail) → length {A = ℕ} (elim b as (λ x. List ℕ) [
      | true ↦ sectors (ceiling p.tail) (floor p.head)
      | false ↦ sectors 0 (floor p.head) ++ sectors (ceiling p.tail) p.length
    ]) ≤ p.length / 4096
    go true k = omega (arith, sectors_few (ceiling p.tail) (floor p.head))
    go false k =
        omega (
          arith,
          length-append (sectors 0 (floor p.head)) (sectors (ceiling p.tail) p.length),
          sectors_few 0 (floor p.head),
          sectors_count p.length (ceiling p.tail) p.length,
          k refl,
        )

-- two, and the sectors of the free run
pub first_most : (im : Image) (p : Place) (a low : ℕ) → p.head ≤ p.length → (p.turned ≡ false → p.head ≤ p.tail)
    → AtMost 2 (p.length / 4096) (erase_steps im p ++ start_steps a low)
unfolding erase_steps
first_most im p a low h k =
    let zs : List ℕ = keep (dirty im) (free_sectors p) in
    let e : AtMost 0 (p.length / 4096) (map erase zs) =
    most_erases zs (omega (arith, keep_few (dirty im) (free_sectors p), free_few p h k)) in
    most_more (most_append (map erase zs) (start_steps a low) e (start_most a low)) (omega arith) (omega arith)
