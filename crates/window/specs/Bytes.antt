-- A run of bytes: those before the window, the next one, and those that are left.
use Rattle.std.specs.Prelude.{ℕ, zero, suc, ◌+◌, ◌≤◌, ◌<◌, ◌≡◌, refl, List, [], ◌∷◌, ◌++◌, length, take, drop, get_or}
use Rattle.std.proofs.Common.{arith, ap, ◌∙◌, drop_of_length-le, length-drop, drop-cons}
use Rattle.spec.specs.Step.{Step, program, bytes_at}
use Rattle.laws.specs.Steps.{length_bytes, length_first}
use Rattle.window.specs.declared.Emitter.{Emitter}
use Rattle.window.specs.Handed.{Leads, past, handed_before, leads_all, leads_more}

-- the bytes from the one with the number i on
abbrev pub left : ℕ → List ℕ → ℕ → List Step
left a w i = bytes_at (a + i) (drop i w)

split : (a : ℕ) (w : List ℕ) (i : ℕ) → bytes_at a w ≡ bytes_at a (take i w) ++ left a w i
split a w zero = ap (λ (k : ℕ). bytes_at k w) (omega arith)
split a [] (suc i) = refl
split a (x ∷ w) (suc i) =
    let e : a + 1 + i ≡ a + suc i = omega arith in
    ap (λ (l : List Step). program a x ∷ l) (split (a + 1) w i ∙ ap (λ (k : ℕ). bytes_at (a + 1) (take i w) ++ bytes_at k (drop i w)) e)

pub left_next : (a : ℕ) (w : List ℕ) (i : ℕ) → i < length w → left a w i ≡ (program (a + i) (get_or w i 0) ∷ []) ++ left a w (i + 1)
left_next a w i h =
    let e : a + i + 1 ≡ a + (i + 1) = omega arith in
    let f : suc i ≡ i + 1 = omega arith in
    ap (bytes_at (a + i)) (drop-cons w i 0 h)
    ∙ ap (λ (k : ℕ). program (a + i) (get_or w i 0) ∷ bytes_at k (drop (suc i) w)) e
    ∙ ap (λ (k : ℕ). program (a + i) (get_or w i 0) ∷ bytes_at (a + (i + 1)) (drop k w)) f

pub left_none : (a : ℕ) (w : List ℕ) (i : ℕ) → length w ≤ i → left a w i ≡ []
left_none a w i h = ap (bytes_at (a + i)) (drop_of_length-le w {i = i} h)

-- the first i lie before the window
pub leads_skip : (w : Emitter) (a : ℕ) (b : List ℕ) (i : ℕ) → i ≤ length b → (0 < i → w.passed + i ≤ w.first)
    → Leads w (bytes_at a b) (past w i) (left a b i)
leads_skip w a b i h k =
    leads_more (leads_all w (bytes_at a b)) (split a b i) (handed_before w (bytes_at a (take i b)) i (length_first a i b h) k)

pub left_length : (a : ℕ) (w : List ℕ) (i : ℕ) → i ≤ length w → i + length (left a w i) ≡ length w
left_length a w i h = omega (arith, length_bytes (a + i) (drop i w), length-drop i w)
