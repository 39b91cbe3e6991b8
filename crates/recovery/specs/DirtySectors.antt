-- Sectors that are erased unless they are all FF; what an erase leaves alone.
use Rattle.std.specs.Prelude.{ℕ, ◌+◌, ◌-◌, ◌≤◌, ◌≡◌, refl, Bool, true, false, not, List, [], ◌∷◌, ◌++◌, map, length, take, drop}
use Rattle.std.proofs.Common.{arith, sym, ap, ap₂, ◌∙◌, ⊎_elim, append_assoc, length-append, drop-drop, length-take-le}
use Rattle.std.proofs.Math.Seq.{drop-append-add}
use Rattle.spec.specs.Step.{Image, Step, erase, sector, apply}
use Rattle.spec.specs.Basics.{blank, keep}
use Rattle.spec.specs.Geometry.{sectors}
use Rattle.spec.specs.Mount.{dirty}
use Rattle.flash.specs.declared.Meter.{Meter}
use Rattle.flash.specs.Did.{Did, did_one}
use Rattle.laws.specs.Parts.{part_window}
use Rattle.laws.specs.Sectors.{sectors_more, length_sector}

-- ---- what an erase leaves alone: the bytes behind the sector

erase_behind : (s : Image) (a k : ℕ) → a + 4096 ≤ k → a + 4096 ≤ length s → drop k (apply s (erase a)) ≡ drop k s
erase_behind s a k h l =
    let front : List ℕ = take a s ++ sector in
    let e : length front ≡ a + 4096 = length-append (take a s) sector ∙ ap₂ ◌+◌ (length-take-le a s (omega arith)) length_sector in
    let j : length front + (k - (a + 4096)) ≡ k = omega arith in
    let i : a + (4096 + (k - (a + 4096))) ≡ k = omega arith in
    ap₂ drop (sym j) (sym (append_assoc (take a s) sector (drop 4096 (drop a s))))
    ∙ drop-append-add front (drop 4096 (drop a s)) (k - (a + 4096))
    ∙ drop-drop (k - (a + 4096)) 4096 (drop a s) ∙ drop-drop (4096 + (k - (a + 4096))) a s ∙ ap (λ (n : ℕ). drop n s) i

pub erased_behind : {s t : Image} {m r : Meter} (a k : ℕ) → a + 4096 ≤ k → a + 4096 ≤ length s → Did s m (erase a ∷ []) t r
    → drop k t ≡ drop k s
erased_behind {s} a k h l d = ⊎_elim (λ e. ap (drop k) e ∙ erase_behind s a k h l) (λ e. ap (drop k) e) (did_one d)

-- ---- a sector that is not all FF

-- those of these sectors are erased
abbrev pub dirty_erased : Image → List ℕ → List Step
dirty_erased s starts = map erase (keep (dirty s) starts)

pub dirty_same : (s t : Image) (a : ℕ) → drop a t ≡ drop a s → dirty t a ≡ dirty s a
dirty_same s t a e =
    let w : (u : Image) → take (a + 4096 - a) (drop a u) ≡ drop a (take (a + 4096) u) = λ u. part_window a (a + 4096) u (omega arith) in
    ap (λ (l : List ℕ). not (blank l)) (sym (w t) ∙ ap (take (a + 4096 - a)) e ∙ w s)

-- what is_blank says of the sector
pub dirty_is : (s : Image) (a : ℕ) {t u : Bool} → t ≡ blank (take (a + 4096 - a) (drop a s)) → t ≡ u → dirty s a ≡ not u
dirty_is s a e f = ap (λ (l : List ℕ). not (blank l)) (sym (part_window a (a + 4096) s (omega arith))) ∙ ap not (sym e ∙ f)

abbrev pick : Bool → ℕ → List ℕ → List ℕ
pick t a l = elim t [ true ↦ a ∷ l | false ↦ l ]

pub erase_kept : (s : Image) (a : ℕ) {t : Bool} → dirty s a ≡ t → map erase (keep (dirty s) (a ∷ [])) ≡ map erase (pick t a [])
erase_kept s a e = ap (λ (c : Bool). map erase (pick c a [])) e

pick_first : (c : Bool) (a : ℕ) (l : List ℕ) → map erase (pick c a l) ≡ map erase (pick c a []) ++ map erase l
pick_first true a l = refl
pick_first false a l = refl

-- the first of the sectors is judged as at entry, and so are the others
pub dirty_more : (s t : Image) (a b : ℕ) → a + 4096 ≤ b → drop a t ≡ drop a s
    → map erase (keep (dirty s) (sectors a b)) ≡ map erase (keep (dirty t) (a ∷ [])) ++ map erase (keep (dirty s) (sectors (a + 4096) b))
dirty_more s t a b h e =
    let l : List ℕ = keep (dirty s) (sectors (a + 4096) b) in
    ap (λ (k : List ℕ). map erase (keep (dirty s) k)) (sectors_more a b h)
    ∙ ap (λ (c : Bool). map erase (pick c a l)) (sym (dirty_same s t a e)) ∙ pick_first (dirty t a) a l
