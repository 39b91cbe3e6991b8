-- A whole step list handed out from the first step on: the slices hold its window, as the definition says.
use Rattle.std.specs.Prelude.{ℕ, zero, suc, ◌+◌, ◌-◌, ◌≤◌, ◌<◌, min, ◌≡◌, refl, List, [], ◌∷◌, ◌++◌, map, length, take, drop}
use Rattle.std.specs.Prelude.{Bool, true, false, leb, ltb}
use Rattle.std.proofs.Common.{arith, sym, ap, ◌∙◌, length-set, length-take, length-drop, leb-true, leb-false}
use Rattle.std.proofs.lemmas.List.{length-map, take_min}
use Rattle.std.proofs.lemmas.List.Edits.{sets, sets-eq}
use Rattle.std.proofs.Math.Seq.{take-nil}
use Rattle.std.proofs.Math.Nat.{min_comm}
use Rattle.spec.specs.Step.{Step, bytes_at}
use Rattle.spec.specs.Planner.{kind_of, address_of, byte_of, Slices, shortest, window, filled, filled_with}
use Rattle.laws.specs.Steps.{take_bytes}
use Rattle.window.specs.declared.Emitter.{Emitter}
use Rattle.window.specs.Handed.{slices, held, Shown, shown_of, write_slot, hand_one, hand_all, Handed, one_before, one_inside, all_behind}

-- these steps, one after another from the slot i on
abbrev pub into : ℕ → List Step → Slices → Slices
into i ss s = slices (sets s.kinds i (map kind_of ss)) (sets s.addresses i (map address_of ss)) (sets s.bytes i (map byte_of ss))

slot_keeps : (i : ℕ) (x : Shown) (s : Slices) → shortest (write_slot i x s) ≡ shortest s
slot_keeps i x s = rw (length-set s.kinds i x.kind, length-set s.addresses i x.address, length-set s.bytes i x.byte) refl

-- from the slot i on, where n are left
in_window : (f i n : ℕ) (ss : List Step) (s : Slices) → shortest s ≡ i + n → hand_all f (f + i) ss s ≡ into i (take n ss) s
in_window f i zero ss s e = all_behind f (f + i) ss s (omega arith)
in_window f i (suc n) [] s e = refl
in_window f i (suc n) (x ∷ ss) s e =
    let t : Slices = write_slot i (shown_of x) s in
    let p : f + i - f ≡ i = omega arith in
    let q : f + i + 1 ≡ f + suc i = omega arith in
    ap (hand_all f (f + i + 1) ss)
    (one_inside f (f + i) (shown_of x) s (omega arith) (omega arith) ∙ ap (λ (k : ℕ). write_slot k (shown_of x) s) p)
    ∙ ap (λ (k : ℕ). hand_all f k ss t) q
    ∙ in_window f (suc i) n ss t (omega (arith, slot_keeps i (shown_of x) s))

-- a run of bytes from the step with the number p on, which lies in the window or behind it: as many as there are slots left
pub bytes_handed : (f p a n : ℕ) (w : List ℕ) (s : Slices) → (0 < length w → f ≤ p) → n ≡ min (length w) (shortest s - (p - f))
    → hand_all f p (bytes_at a w) s ≡ into (p - f) (bytes_at a (take n w)) s
bytes_handed f p a n [] s h e = ap (λ (l : List ℕ). into (p - f) (bytes_at a l) s) (sym (take-nil n))
bytes_handed f p a n (x ∷ w) s h e = go (leb (p - f) (shortest s)) refl where
  l : List ℕ
  l = x ∷ w

  m : ℕ
  m = shortest s - (p - f)

  few : take n l ≡ take m l
  few = ap (λ (k : ℕ). take k l) (e ∙ min_comm (length l) m) ∙ take_min m l

  go : (t : Bool) → leb (p - f) (shortest s) ≡ t → hand_all f p (bytes_at a l) s ≡ into (p - f) (bytes_at a (take n l)) s
  go true k =
      let i : f + (p - f) ≡ p = omega (arith, h (omega arith)) in
      let o : shortest s ≡ (p - f) + m = omega (arith, leb-true (p - f) (shortest s) k) in
      ap (λ (q : ℕ). hand_all f q (bytes_at a l) s) (sym i)
      ∙ in_window f (p - f) m (bytes_at a l) s o
      ∙ ap (λ (ss : List Step). into (p - f) ss s) (take_bytes m a l ∙ ap (bytes_at a) (sym few))
  go false k =
      let z : m ≡ 0 = omega (arith, leb-false (p - f) (shortest s) k) in
      all_behind f p (bytes_at a l) s (omega (arith, h (omega arith), leb-false (p - f) (shortest s) k))
      ∙ ap (λ (j : List ℕ). into (p - f) (bytes_at a j) s) (sym (few ∙ ap (λ (q : ℕ). take q l) z))

-- from the step with the number p on, j before the window
to_window : (f p j : ℕ) (ss : List Step) (s : Slices) → p + j ≡ f → hand_all f p ss s ≡ into 0 (take (shortest s) (drop j ss)) s
to_window f p zero ss s e =
    let q : p ≡ f + 0 = omega arith in
    ap (λ (k : ℕ). hand_all f k ss s) q ∙ in_window f 0 (shortest s) ss s (omega arith)
to_window f p (suc j) [] s e = ap (λ (l : List Step). into 0 l s) (sym (take-nil (shortest s)))
to_window f p (suc j) (x ∷ ss) s e =
    ap (hand_all f (p + 1) ss) (one_before f p (shown_of x) s (omega arith)) ∙ to_window f (p + 1) j ss s (omega arith)

-- ---- a column

column : (f : Step → ℕ) (ss : List Step) (old : List ℕ) → length ss ≤ length old → sets old 0 (map f ss) ≡ filled (map f ss) old
column f ss old h =
    let e : 0 + length (map f ss) ≡ length (map f ss) = omega arith in
    sets-eq (map f ss) old 0 (omega (arith, length-map ss f)) ∙ ap (λ (k : ℕ). map f ss ++ drop k old) e

columns : (ss : List Step) (s : Slices) → length ss ≤ shortest s → into 0 ss s ≡ filled_with ss s
columns ss s h = λ i. slices
    (column kind_of ss s.kinds (omega arith) i)
    (column address_of ss s.addresses (omega arith) i)
    (column byte_of ss s.bytes (omega arith) i)

-- ---- the whole list

pub window_handed : (f : ℕ) (ss : List Step) (s : Slices) → hand_all f 0 ss s ≡ filled_with (window f (shortest s) ss) s
window_handed f ss s =
    to_window f 0 f ss s (omega arith) ∙ columns (window f (shortest s) ss) s (omega (arith, length-take (shortest s) (drop f ss)))

pub window_length : (f m : ℕ) (ss : List Step) → length (window f m ss) ≡ min m (length ss - f)
window_length f m ss = length-take m (drop f ss) ∙ ap (min m) (length-drop f ss)

-- no slice gets longer or shorter
one_keeps : (f p : ℕ) (x : Shown) (s : Slices) → shortest (hand_one f p x s) ≡ shortest s
unfolding hand_one
one_keeps f p x s = go (leb f p) (ltb (p - f) (shortest s)) refl refl where
  go : (t u : Bool) → leb f p ≡ t → ltb (p - f) (shortest s) ≡ u → shortest (hand_one f p x s) ≡ shortest s
  go false u e d = rw (hand_one, e)
  go true false e d = rw (hand_one, e, d)
  go true true e d = rw (hand_one, e, d) (slot_keeps (p - f) x s)

all_keeps : (f p : ℕ) (ss : List Step) (s : Slices) → shortest (hand_all f p ss s) ≡ shortest s
all_keeps f p [] s = refl
all_keeps f p (x ∷ ss) s = all_keeps f (p + 1) ss (hand_one f p (shown_of x) s) ∙ one_keeps f p (shown_of x) s

pub handed_slots : {w r : Emitter} {ss : List Step} → Handed w ss r → shortest (held r) ≡ shortest (held w)
handed_slots {w} {r} {ss} h = ap shortest h.slots ∙ all_keeps w.first w.passed ss (held w)
