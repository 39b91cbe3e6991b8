-- Steps (c) to (f) of a move, of the records that the code names by where they stand.
use Prim.Native.Nat.{ℕ, ◌+◌, ◌≤◌, ◌<◌}
use Rattle.std.proofs.Common.{arith, ◌∙◌, length-set, get_or-set_same, get_or-set_other, eq-eqb, ne_eqb, eqb-true}
use Rattle.std.specs.Prelude.{◌≡◌, refl, Bool, true, false, length, get_or, set, eqb}
use Rattle.std.proofs.Math.Path.{ap, ap₂}
use mathlib.Core.List.{List, [], ◌∷◌, ◌++◌, map}
use Rattle.std.proofs.lemmas.Bool.{eqb-false}
use Rattle.spec.specs.Step.{Image, Step, program, erase, run}
use Rattle.spec.specs.Geometry.{floor}
use Rattle.spec.specs.Record.{Entry}
use Rattle.spec.specs.Move.{vacated_end, vacated, vacated_steps, start_steps, forget_steps, vacate_steps, close_steps}
use Rattle.flash.specs.declared.Meter.{Meter}
use Rattle.flash.specs.Did.{Did, did_both}
use Rattle.laws.specs.Sectors.{sectors_none, sectors_more}
use Rattle.laws.specs.Steps.{run_append}
use Rattle.chain.specs.declared.Spot.{Spot}
use Rattle.chain.specs.Rest.{entry_of}
use Rattle.moving.specs.Clean.{cleaned_steps}

-- the sectors that X leaves behind, of the records that stand at x and y
abbrev pub left_behind : Image → Spot → Spot → List ℕ
left_behind s x y = vacated (length s) (entry_of s x) (entry_of s y)

-- ---- (d) ends at N or before Y's sector

-- with Y at address a
unfoldable pub left_end : ℕ → ℕ → ℕ
left_end N a = elim (eqb a 0) [ true ↦ N | false ↦ floor a ]

module _ (N a : ℕ) where
  pub end_at_zero : a ≡ 0 → N ≡ left_end N a
  unfolding left_end
  end_at_zero h = rw (eq-eqb a 0 h, left_end)

  pub end_at_floor : (a ≡ 0 → ⊥) → floor a ≡ left_end N a
  unfolding left_end
  end_at_floor h = rw (ne_eqb a 0 h, left_end)

pub end_is : (N : ℕ) (y : Entry) → left_end N y.at ≡ vacated_end N y
unfolding left_end vacated_end
end_is N y = refl

-- ---- (e), by Y's low byte

module _ (a low : ℕ) where
  pub start_twice : low ≡ 0xA0 → start_steps a low ≡ program a 0x80 ∷ program a 0x00 ∷ []
  start_twice h = rw (eq-eqb low 0xA0 h, start_steps)

  pub start_once : (low ≡ 0xA0 → ⊥) → start_steps a low ≡ program a 0x00 ∷ []
  start_once h = rw (ne_eqb low 0xA0 h, start_steps)

-- ---- (f): X's sector is the first that is erased, if any is

module _ (N : ℕ) (x y : Entry) {from to : ℕ} (begin : from ≡ floor x.at) (end : to ≡ vacated_end N y) where
  pub forget_none : from + 4096 ≤ to → forget_steps x (vacated N x y) ≡ []
  forget_none h = rw (← begin, ← end) (ap (forget_steps x) (sectors_more from to h))

  pub forget_this : to < from + 4096 → forget_steps x (vacated N x y) ≡ program (x.at + 1) 0x00 ∷ []
  forget_this h = rw (← begin, ← end) (ap (forget_steps x) (sectors_none from to h))

-- ---- what (d) to (f) do depends on the addresses alone

forget_same : (s t : Image) (x : Spot) (starts : List ℕ) → forget_steps (entry_of t x) starts ≡ forget_steps (entry_of s x) starts
forget_same s t x [] = refl
forget_same s t x (a ∷ rest) = refl

module _ (s t : Image) (x y : Spot) (e : length t ≡ length s) where
  vacated_same : left_behind t x y ≡ left_behind s x y
  unfolding vacated_end
  vacated_same = ap (λ (N : ℕ). vacated N (entry_of s x) (entry_of s y)) e

-- ---- one after another

module _ (s : Image) (x y : Spot) (low : ℕ) where
  pub closed : {t u v w : Image} {m a b c d : Meter} → length t ≡ length s → length v ≡ length s
      → Did s m (cleaned_steps (entry_of s x)) t a
      → Did t a (vacated_steps (left_behind t x y)) u b
      → Did u b (start_steps y.at low) v c
      → Did v c (forget_steps (entry_of v x) (left_behind v x y)) w d
      → Did s m (close_steps (length s) (entry_of s x) (entry_of s y) low) w d
  unfolding close_steps
  closed {t} {u} {v} l k cleaned erased started forgotten =
      did_both cleaned (did_both (rw (vacated_same s t x y l) at erased)
      (did_both started (rw (vacated_same s v x y k, forget_same s v x (left_behind s x y)) at forgotten)))

  -- with the same bytes of X's data they are the same steps
  pub close_same : (t : Image) → length t ≡ length s → cleaned_steps (entry_of t x) ≡ cleaned_steps (entry_of s x)
      → close_steps (length t) (entry_of t x) (entry_of t y) low ≡ close_steps (length s) (entry_of s x) (entry_of s y) low
  unfolding close_steps
  close_same t l e =
      let starts : List ℕ = left_behind s x y in
      ap₂ (λ (a : List Step) (b : List ℕ). a ++ vacate_steps (entry_of t x) (entry_of t y) low b) e (vacated_same s t x y l)
      ∙ ap (λ (f : List Step). cleaned_steps (entry_of s x) ++ (map erase starts ++ (start_steps y.at low ++ f)))
      (forget_same s t x starts)

-- ---- Y's first byte is START then

zeroed : (s : Image) (y i : ℕ) → y < length s → get_or (set (set s y 0) i 0) y 0 ≡ 0
zeroed s y i h = go (eqb y i) refl where
  go : (t : Bool) → eqb y i ≡ t → get_or (set (set s y 0) i 0) y 0 ≡ 0
  go true e = let q : y ≡ i = eqb-true y i e in rw (← q) (get_or-set_same (set s y 0) y 0 0 (rw length-set h))
  go false e = get_or-set_other (set s y 0) i y 0 0 (eqb-false y i e) ∙ get_or-set_same s y 0 0 h

-- START, and what (f) does then
abbrev started : Entry → ℕ → List ℕ → List Step
started x y starts = program y 0x00 ∷ forget_steps x starts

last_low : (s : Image) (x : Entry) (y : ℕ) (starts : List ℕ) → y < length s → get_or (run s (started x y starts)) y 0 ≡ 0
last_low s x y [] h = zeroed s y (x.at + 1) h
last_low s x y (a ∷ rest) h = get_or-set_same s y 0 0 h

last_length : (s : Image) (x : Entry) (y : ℕ) (starts : List ℕ) → length (run s (started x y starts)) ≡ length s
last_length s x y [] = length-set (set s y 0) (x.at + 1) 0 ∙ length-set s y 0
last_length s x y (a ∷ rest) = length-set s y 0

pub close_low : (s : Image) (N : ℕ) (x y : Entry) → y.at < length (run s (close_steps N x y 0xA0))
    → get_or (run s (close_steps N x y 0xA0)) y.at 0 ≡ 0
unfolding close_steps
close_low s N x y h =
    let starts : List ℕ = vacated N x y in
    let clean : List Step = cleaned_steps x in
    let u : Image = set (run (run s clean) (map erase starts)) y.at 0x80 in
    let e : run s (clean ++ vacate_steps x y 0xA0 starts) ≡ run u (started x y.at starts) =
    run_append s clean (vacate_steps x y 0xA0 starts)
    ∙ run_append (run s clean) (map erase starts) (program y.at 0x80 ∷ started x y.at starts) in
    ap (λ (i : Image). get_or i y.at 0) e ∙ last_low u x y.at starts (omega (arith, ap length e, last_length u x y.at starts))
