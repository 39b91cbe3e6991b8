-- What steps (c) to (f) of a move do to the bytes.
use Rattle.std.specs.Prelude.{ℕ, zero, suc, ◌+◌, ◌-◌, ◌*◌, ◌≤◌, ◌<◌, ◌≡◌, refl, ◌⊎◌, Bool, true, false, ◌||◌, length, drop, eqb, leb}
use Rattle.std.proofs.Common.{arith, sym, ◌∙◌, subst, inl, inr, ⊎_elim, length-drop, leb-true, leb-false}
use Rattle.std.proofs.Math.Path.{ap}
use Rattle.std.proofs.lemmas.Bool.{false≢true}
use mathlib.Core.List.{List, [], ◌∷◌, ◌++◌, map}
use Rattle.spec.specs.Step.{Step, program, erase}
use Rattle.spec.specs.Geometry.{floor}
use Rattle.spec.specs.Bytes.{is_record, is_start, is_clean, is_high}
use Rattle.spec.specs.Record.{Entry, content_of, data_at, size}
use Rattle.spec.specs.Move.{start_steps, mark_here, mark_steps, clean_steps, vacated_end, vacated, forget_steps, vacate_steps, close_steps}
use Rattle.laws.specs.Tests.{and_no}
use Rattle.laws.specs.Sectors.{sectors_more}
use Rattle.laws.specs.Parts.{Outside}
use Rattle.planning.specs.Planned.{with_status, with_low}
use Rattle.planning.specs.Effect.{Untouched, Writes, Bounded, untouched_append, writes_left, writes_right, bounded_append}
use Rattle.planning.specs.Effect.{erases_off, erases_in, erases_bounded}

-- ---- (c)

-- i is none of the addresses of s from a on
abbrev Beside : ℕ → ℕ → List ℕ → Type 0
Beside i a s = (i < a) ⊎ ((length s ≡ 0) ⊎ (a + length s ≤ i))

-- a mark has two bytes
pub mark_two : (s : List ℕ) → mark_here s ≡ true → 2 ≤ length s
unfolding is_high
mark_two [] h = absurd (false≢true (sym (and_no (is_start 0 || is_clean 0 || is_record 0) false (λ e. refl)) ∙ h))
mark_two (x ∷ []) h = absurd (false≢true (sym (and_no (is_start x || is_clean x || is_record x) false (λ e. refl)) ∙ h))
mark_two (x ∷ (y ∷ s)) h = omega arith

mark_is : (a : ℕ) (s : List ℕ) (t : Bool) → mark_here s ≡ t → mark_steps a s ≡ elim t [ true ↦ program (a + 1) 0x00 ∷ [] | false ↦ [] ]
mark_is a s t e = ap (λ (u : Bool). elim u [ true ↦ program (a + 1) 0x00 ∷ [] | false ↦ [] ]) e

mark_off : (i a : ℕ) (s : List ℕ) → Beside i a s → (t : Bool) → mark_here s ≡ t → Untouched i (mark_steps a s)
mark_off i a s o true e =
    let l : 2 ≤ length s = mark_two s e in
    rw (mark_is a s true e) (
      ⊎_elim (λ (h : i < a). λ q. omega arith)
          (λ (h : (length s ≡ 0) ⊎ (a + length s ≤ i)). ⊎_elim (λ (g : length s ≡ 0). λ q. omega arith)
          (λ (g : a + length s ≤ i). λ q. omega arith) h) o,
      tt,
    )
mark_off i a s o false e = rw (mark_is a s false e) tt

mark_bounded : (N a : ℕ) (s : List ℕ) (t : Bool) → mark_here s ≡ t → Bounded N (mark_steps a s)
mark_bounded N a s true e = rw (mark_is a s true e) tt
mark_bounded N a s false e = rw (mark_is a s false e) tt

clean_beside : (k i a : ℕ) (s : List ℕ) → Beside i a s → Untouched i (clean_steps k a s)
unfolding clean_steps
clean_beside zero i a s o = tt
clean_beside (suc k) i a s o =
    let l : length (drop 8 s) ≡ length s - 8 = length-drop 8 s in
    untouched_append i (mark_steps a s) (clean_steps k (a + 8) (drop 8 s)) (mark_off i a s o _ refl)
    (clean_beside k i (a + 8) (drop 8 s)
    (⊎_elim (λ (h : i < a). inl (omega arith))
    (λ (h : (length s ≡ 0) ⊎ (a + length s ≤ i)).
    ⊎_elim (λ (g : length s ≡ 0). inr (inl (omega arith))) (λ (g : a + length s ≤ i). inr (far g)) h) o)) where
      far : a + length s ≤ i → (length (drop 8 s) ≡ 0) ⊎ (a + 8 + length (drop 8 s) ≤ i)
      far g = go (leb 8 (length s)) refl where
        go : (t : Bool) → leb 8 (length s) ≡ t → (length (drop 8 s) ≡ 0) ⊎ (a + 8 + length (drop 8 s) ≤ i)
        go true e = let h : 8 ≤ length s = leb-true 8 (length s) e in inr (omega (arith, length-drop 8 s))
        go false e = let h : length s < 8 = leb-false 8 (length s) e in inl (omega (arith, length-drop 8 s))

pub clean_bounded : (N k a : ℕ) (s : List ℕ) → Bounded N (clean_steps k a s)
unfolding clean_steps
clean_bounded N zero a s = tt
clean_bounded N (suc k) a s =
    bounded_append N (mark_steps a s) (clean_steps k (a + 8) (drop 8 s)) (mark_bounded N a s _ refl) (clean_bounded N k (a + 8) (drop 8 s))

-- ---- (e)

start_is : (a low : ℕ) (t : Bool) → eqb low 0xA0 ≡ t
    → start_steps a low ≡ elim t [ true ↦ program a 0x80 ∷ program a 0x00 ∷ [] | false ↦ program a 0x00 ∷ [] ]
start_is a low t e = ap (λ (u : Bool). elim u [ true ↦ program a 0x80 ∷ program a 0x00 ∷ [] | false ↦ program a 0x00 ∷ [] ]) e

pub start_off : (a low i : ℕ) → (i ≡ a → ⊥) → Untouched i (start_steps a low)
start_off a low i n = go _ refl where
  go : (t : Bool) → eqb low 0xA0 ≡ t → Untouched i (start_steps a low)
  go true e = subst (Untouched i) (sym (start_is a low true e)) (n, (n, tt))
  go false e = subst (Untouched i) (sym (start_is a low false e)) (n, tt)

pub start_writes : (a low : ℕ) → Writes (start_steps a low) a 0x00
start_writes a low = go _ refl where
  go : (t : Bool) → eqb low 0xA0 ≡ t → Writes (start_steps a low) a 0x00
  go true e = subst (λ (ss : List Step). Writes ss a 0x00) (sym (start_is a low true e)) (inl (inr (refl, refl, tt)))
  go false e = subst (λ (ss : List Step). Writes ss a 0x00) (sym (start_is a low false e)) (inr (refl, refl, tt))

pub start_bounded : (N a low : ℕ) → Bounded N (start_steps a low)
start_bounded N a low = go _ refl where
  go : (t : Bool) → eqb low 0xA0 ≡ t → Bounded N (start_steps a low)
  go true e = subst (Bounded N) (sym (start_is a low true e)) tt
  go false e = subst (Bounded N) (sym (start_is a low false e)) tt

-- ---- all of it

module _ (N : ℕ) (x y : Entry) (low : ℕ) where
  abbrev end : ℕ
  end = vacated_end N y

  abbrev cleans : List Step
  cleans = clean_steps (length (content_of x)) (data_at x) (content_of x)

  abbrev starts : List ℕ
  starts = vacated N x y

  abbrev ends : List Step
  ends = start_steps y.at low ++ forget_steps x starts

  pub cleans_off : (i : ℕ) → Outside i x.at (size x) → Untouched i cleans
  cleans_off i o =
      clean_beside (length (content_of x)) i (data_at x) (content_of x)
      (⊎_elim (λ (h : i < x.at). inl (omega arith)) (λ (h : x.at + size x ≤ i). inr (inr (omega arith))) o)

  forget_off : (i : ℕ) (l : List ℕ) → (i ≡ x.at + 1 → ⊥) → Untouched i (forget_steps x l)
  forget_off i [] h = (h, tt)
  forget_off i (a ∷ l) h = tt

  forget_bounded : (M : ℕ) (l : List ℕ) → Bounded M (forget_steps x l)
  forget_bounded M [] = tt
  forget_bounded M (a ∷ l) = tt

  -- Y is START
  pub close_start : (y.at ≡ x.at + 1 → ⊥) → Writes (close_steps N x y low) y.at 0x00
  unfolding close_steps
  close_start h =
      writes_right cleans (vacate_steps x y low starts) y.at 0x00
      (writes_right (map erase starts) ends y.at 0x00
      (writes_left (start_steps y.at low) (forget_steps x starts) y.at 0x00 (start_writes y.at low) (forget_off y.at starts h)))

  -- X's sectors are FF
  pub close_erased : (m : ℕ) → end ≡ floor x.at + 4096 * suc m → (i : ℕ) → floor x.at ≤ i → i < end → (i ≡ y.at → ⊥)
      → Writes (close_steps N x y low) i 0xFF
  unfolding close_steps
  close_erased m q i h l n =
      let none : forget_steps x starts ≡ [] = ap (forget_steps x) (sectors_more (floor x.at) end (omega arith)) in
      writes_right cleans (vacate_steps x y low starts) i 0xFF
      (writes_left (map erase starts) ends i 0xFF (erases_in (floor x.at) end i (suc m) q h l)
      (untouched_append i (start_steps y.at low) (forget_steps x starts) (start_off y.at low i n)
      (subst (λ (ss : List Step). Untouched i ss) (sym none) tt)))

  -- all else is as it was
  pub close_off : (i : ℕ) → Outside i x.at (size x) → (i < floor x.at) ⊎ (end ≤ i) → (i ≡ y.at → ⊥) → Untouched i (close_steps N x y low)
  unfolding close_steps
  close_off i o p n =
      untouched_append i cleans (vacate_steps x y low starts) (cleans_off i o)
      (untouched_append i (map erase starts) ends (erases_off (floor x.at) end i p)
      (untouched_append i (start_steps y.at low) (forget_steps x starts) (start_off y.at low i n)
      (forget_off i starts (⊎_elim (λ (h : i < x.at). λ q. omega arith) (λ (h : x.at + size x ≤ i). λ q. omega arith) o))))

  pub close_bounded : (M : ℕ) → end ≤ M → Bounded M (close_steps N x y low)
  unfolding close_steps
  close_bounded M h =
      bounded_append M cleans (vacate_steps x y low starts) (clean_bounded M (length (content_of x)) (data_at x) (content_of x))
      (bounded_append M (map erase starts) ends (erases_bounded M (floor x.at) end h)
      (bounded_append M (start_steps y.at low) (forget_steps x starts) (start_bounded M y.at low) (forget_bounded M starts)))

-- ---- X as it is now

-- neither X's first byte nor its status is looked at
forget_like : (x y : Entry) (l : List ℕ) → x.at ≡ y.at → forget_steps x l ≡ forget_steps y l
forget_like x y [] e = ap (λ (a : ℕ). program (a + 1) 0x00 ∷ []) e
forget_like x y (a ∷ l) e = refl

pub close_like : (N low b st : ℕ) (x y : Entry) → close_steps N (with_status st (with_low b x)) y low ≡ close_steps N x y low
unfolding close_steps
close_like N low b st x y =
    ap (λ (ss : List Step). clean_steps (length (content_of x)) (data_at x) (content_of x) ++
    (map erase (vacated N x y) ++ (start_steps y.at low ++ ss)))
    (forget_like (with_status st (with_low b x)) x (vacated N x y) refl)
