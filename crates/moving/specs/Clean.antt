-- Data cleaned of false heads, pair by pair.
use Rattle.std.specs.Prelude.{ℕ, zero, suc, ◌+◌, ◌-◌, ◌≤◌, ◌<◌, ◌≡◌, refl, Bool, true}
use Rattle.std.specs.Prelude.{false, ◌&&◌, ◌||◌, List, [], ◌∷◌, ◌++◌, length, take, drop, get_or}
use Rattle.std.proofs.Common.{arith, add-zero, add_assoc, sym, ap, ap₂, ◌∙◌}
use Rattle.std.proofs.Common.{⊎_elim, length-drop, get_or-drop, get_or-take, length-take-le, drop-drop, drop-set-lt}
use Rattle.std.proofs.Math.Seq.{take-nil}
use Rattle.spec.specs.Step.{Image, Step, program, run}
use Rattle.spec.specs.Geometry.{up8}
use Rattle.spec.specs.Bytes.{is_record, is_start, is_clean, is_high}
use Rattle.spec.specs.Record.{Entry, content_of, data_at}
use Rattle.spec.specs.Move.{mark_here, mark_steps, clean_steps}
use Rattle.flash.specs.declared.Meter.{Meter}
use Rattle.flash.specs.Did.{Did, did_one}
use Rattle.flash.specs.Toward.{Toward, toward_more, toward_end}
use Rattle.chain.specs.declared.Spot.{Spot}
use Rattle.chain.specs.Rest.{entry_of}
use Rattle.chain.specs.Fold.{Whole, name_length_is, content_length_is}
use Rattle.moving.specs.Untouched.{later_on}
use Rattle.laws.specs.Clean.{clean_nil}

-- ---- how many pairs may be looked at doesn't matter, if they are enough

clean_empty : (k a : ℕ) (s : List ℕ) → length s ≤ 0 → clean_steps k a s ≡ []
clean_empty k a [] h = clean_nil k a
clean_empty k a (x ∷ s) h = absurd (omega arith)

enough : (k j a : ℕ) (s : List ℕ) → length s ≤ k → length s ≤ j → clean_steps k a s ≡ clean_steps j a s
unfolding clean_steps
enough zero j a s h g = sym (clean_empty j a s h)
enough (suc k) zero a s h g = clean_empty (suc k) a s g
enough (suc k) (suc j) a s h g =
    ap (λ (l : List Step). mark_steps a s ++ l) (enough k j (a + 8) (drop 8 s) (rw length-drop (omega arith))
    (rw length-drop (omega arith)))

-- two bytes that could be taken for a head's magic, or for a record's
abbrev pub is_mark : ℕ → ℕ → Bool
is_mark b c = (is_start b || is_clean b || is_record b) && is_high c

-- the steps from a on, where s stands
abbrev pub cleaning : ℕ → List ℕ → List Step
cleaning a s = clean_steps (length s) a s

-- ---- one pair, and none

pub clean_next : (a : ℕ) (s : List ℕ) → 0 < length s → cleaning a s ≡ mark_steps a s ++ cleaning (a + 8) (drop 8 s)
unfolding clean_steps
clean_next a [] h = absurd (omega arith)
clean_next a (x ∷ s) h =
    ap (λ (l : List Step). mark_steps a (x ∷ s) ++ l)
    (enough (length s) (length (drop 8 (x ∷ s))) (a + 8) (drop 8 (x ∷ s)) (rw length-drop (omega arith)) (omega arith))

and_false : (t : Bool) → t && false ≡ false
and_false true = refl
and_false false = refl

abbrev marked_steps : ℕ → Bool → List Step
marked_steps a t = elim t [ true ↦ program (a + 1) 0x00 ∷ [] | false ↦ [] ]

unpaired : (a x : ℕ) → cleaning a (x ∷ []) ≡ []
unfolding clean_steps is_high
unpaired a x = ap (λ (t : Bool). marked_steps a t ++ []) (and_false (is_start x || is_clean x || is_record x))

pub clean_none : (a : ℕ) (s : List ℕ) → length s ≤ 1 → cleaning a s ≡ []
unfolding clean_steps
clean_none a [] h = refl
clean_none a (x ∷ []) h = unpaired a x
clean_none a (x ∷ (y ∷ s)) h = absurd (omega arith)

-- ---- the pair that the code sees

pub mark_at : (s : List ℕ) (at : ℕ) → is_mark (get_or s at 0) (get_or s (at + 1) 0) ≡ mark_here (drop at s)
mark_at s at = sym (rw (get_or-drop at s 0 0, get_or-drop at s 1 0, add-zero))

pub marked : (s : List ℕ) (at : ℕ) → mark_here (drop at s) ≡ true → mark_steps at (drop at s) ≡ program (at + 1) 0x00 ∷ []
marked s at e = ap (marked_steps at) e

pub unmarked : (s : List ℕ) (at : ℕ) → mark_here (drop at s) ≡ false → mark_steps at (drop at s) ≡ []
unmarked s at e = ap (marked_steps at) e

-- is the one at entry
pub mark_as_was : (s : List ℕ) (at d i : ℕ) → i + 1 < d
    → mark_steps (at + i) (drop (at + i) s) ≡ mark_steps (at + i) (drop i (take d (drop at s)))
mark_as_was s at d i h = ap₂ (λ (b c : ℕ). marked_steps (at + i) (is_mark b c)) (same 0 (omega arith)) (same 1 (omega arith)) where
  same : (j : ℕ) → i + j < d → get_or (drop (at + i) s) j 0 ≡ get_or (drop i (take d (drop at s))) j 0
  same j l =
      let e : at + i + j ≡ at + (i + j) = omega arith in
      get_or-drop (at + i) s j 0 ∙ ap (λ (n : ℕ). get_or s n 0) e
      ∙ sym (get_or-drop i (take d (drop at s)) j 0 ∙ get_or-take d (drop at s) (i + j) 0 l ∙ get_or-drop at s (i + j) 0)

-- what stands behind the pair stays as it was
cleaned_behind : {s t : Image} {m r : Meter} (a k : ℕ) → a + 1 < k → (c : Bool) → Did s m (marked_steps a c) t r → drop k t ≡ drop k s
cleaned_behind {s} a k h true d = ⊎_elim (λ e. ap (drop k) e ∙ drop-set-lt k s (a + 1) 0 h) (λ e. ap (drop k) e) (did_one d)
cleaned_behind {s} {t} {m} a k h false d = ap (drop k) (d.bytes ∙ ap (run s) (take-nil (m.allowance - m.asked)))

-- ---- the d bytes from at on, from the i-th of them

abbrev pub data_from : ℕ → ℕ → Image → List ℕ
data_from at d s = take d (drop at s)

abbrev pub cleaning_from : Image → ℕ → ℕ → ℕ → List Step
cleaning_from s at d i = cleaning (at + i) (drop i (data_from at d s))

module _ (s : Image) (at d : ℕ) (h : at + d ≤ length s) where
  data_length : length (data_from at d s) ≡ d
  data_length = length-take-le d (drop at s) (rw length-drop (omega arith))

  pub from_first : clean_steps d at (data_from at d s) ≡ cleaning_from s at d 0
  from_first = rw (add-zero, data_length)

  pub from_next : (i : ℕ) → i + 1 < d → cleaning_from s at d i ≡ mark_steps (at + i) (drop (at + i) s) ++ cleaning_from s at d (i + 8)
  from_next i l =
      clean_next (at + i) (drop i (data_from at d s)) (rw (length-drop, data_length) (omega arith))
      ∙ ap₂ ◌++◌ (sym (mark_as_was s at d i l)) (rw (add_assoc, drop-drop 8 i (data_from at d s)))

  pub from_none : (i : ℕ) → d ≤ i + 1 → cleaning_from s at d i ≡ []
  from_none i l = clean_none (at + i) (drop i (data_from at d s)) (rw (length-drop, data_length) (omega arith))

-- ---- the loop over them, at the i-th

pub record Cleaning (s : Image) (at d : ℕ) (m : Meter) (t : Image) (q : Meter) (i : ℕ) : Type 0 where
  pub left : Toward s m (clean_steps d at (data_from at d s)) t q (cleaning_from s at d i)
  pub later : drop (at + i) t ≡ drop (at + i) s

module _ {s : Image} {at d : ℕ} {m : Meter} where
  module _ {t : Image} {q : Meter} {i : ℕ} (w : Cleaning s at d m t q i) where
    pub cleaning_more : {u : Image} {r : Meter} → at + d ≤ length s → i + 1 < d → Did t q (mark_steps (at + i) (drop (at + i) t)) u r
        → Cleaning s at d m u r (i + 8)
    cleaning_more h l f =
        let e : mark_steps (at + i) (drop (at + i) s) ≡ mark_steps (at + i) (drop (at + i) t) = ap (mark_steps (at + i)) (sym w.later) in
        record {
          left = toward_more w.left (from_next s at d h i l ∙ ap (λ (a : List Step). a ++ cleaning_from s at d (i + 8)) e) f;
          later =
              cleaned_behind (at + i) (at + (i + 8)) (omega arith) (mark_here (drop (at + i) t)) f
              ∙ later_on (at + i) (at + (i + 8)) s t (omega arith) w.later;
        }

    pub cleaning_end : at + d ≤ length s → d ≤ i + 1 → Did s m (clean_steps d at (data_from at d s)) t q
    cleaning_end h l = toward_end w.left (from_none s at d h i l)

-- ---- (c), of the whole record X

abbrev pub cleaned_steps : Entry → List Step
cleaned_steps x = clean_steps (length (content_of x)) (data_at x) (content_of x)

-- the same by X's address and lengths
module _ (s : Image) (x : Spot) (w : Whole s x) where
  pub cleaned_is : {a : ℕ} → a ≡ up8 (x.n + 1)
      → cleaned_steps (entry_of s x) ≡ clean_steps x.d (x.at + 8 + a) (take x.d (drop (x.at + 8 + a) s))
  cleaned_is {a} e =
      let b : ℕ = up8 (x.n + 1) in
      let own : List ℕ = take x.d (drop b (drop 8 (drop x.at s))) in
      ap₂ (λ (k n : ℕ). clean_steps k (x.at + (8 + up8 (n + 1))) own) (content_length_is s x w) (name_length_is s x w)
      ∙ rw e (ap₂ (clean_steps x.d) (omega arith) (ap (take x.d) (ap (drop b) (drop-drop 8 x.at s) ∙ drop-drop b (x.at + 8) s)))
