-- Repair 1 on bytes: the sectors of a stretch that are not FF are erased, ascending; at the end all of it is FF.
use Rattle.std.specs.Prelude.{ℕ, zero, suc, ◌+◌, ◌*◌, ◌≤◌, ◌≡◌, refl, Bool, true, false, not, List, [], ◌∷◌, ◌++◌, map, length, take, drop}
use Rattle.std.proofs.Common.{arith, not-suc-le-zero, sym, ap, ap₂, ◌∙◌, append_assoc, length-append, length-drop, take-append-drop, length-take-le, take_at, drop_at}
use Rattle.std.proofs.lemmas.List.{length-replicate}
use Rattle.std.proofs.Math.Seq.{take-append-add}
use Rattle.spec.specs.Step.{Image, Step, erase, apply, run}
use Rattle.spec.specs.Basics.{part, blank, keep}
use Rattle.spec.specs.Geometry.{sectors_by}
use Rattle.spec.specs.Mount.{dirty}
use Rattle.laws.specs.Lists.{keep_yes, keep_no}
use Rattle.laws.specs.Sectors.{sectors_by_none, sectors_by_more}
use Rattle.history.specs.Blanks.{blanks, blank_split, blank_is}
use Rattle.history.specs.Erase.{erase_mid, sector_is}

-- the part that is tested is the sector at the front of what is left
part_mid : (p q s : List ℕ) (a : ℕ) → length p ≡ a → length q ≡ 4096 → part a (a + 4096) (p ++ (q ++ s)) ≡ q
part_mid p q s a e l =
    ap (λ (n : ℕ). drop n (take (n + 4096) (p ++ (q ++ s)))) (sym e) ∙ ap (drop (length p)) (take-append-add p (q ++ s) 4096)
    ∙ drop_at p (take 4096 (q ++ s)) (length p) refl ∙ take_at q s 4096 l

-- the steps of repair 1 from a up to b: the sectors that are not FF in im are erased; n bounds their number
abbrev pub mend_steps : Image → ℕ → ℕ → ℕ → List Step
mend_steps im n a b = map erase (keep (dirty im) (sectors_by n a b))

mend_keep : (im : Image) (n a b : ℕ) → a + 4096 ≤ b → blank (part a (a + 4096) im) ≡ true → mend_steps im (suc n) a b ≡ mend_steps im n (a + 4096) b
mend_keep im n a b l e =
    ap (λ (ss : List ℕ). map erase (keep (dirty im) ss)) (sectors_by_more n a b l)
    ∙ ap (map erase) (keep_no (dirty im) a (sectors_by n (a + 4096) b) (ap not e))

mend_erase : (im : Image) (n a b : ℕ) → a + 4096 ≤ b → blank (part a (a + 4096) im) ≡ false
    → mend_steps im (suc n) a b ≡ erase a ∷ mend_steps im n (a + 4096) b
mend_erase im n a b l e =
    ap (λ (ss : List ℕ). map erase (keep (dirty im) ss)) (sectors_by_more n a b l)
    ∙ ap (map erase) (keep_yes (dirty im) a (sectors_by n (a + 4096) b) (ap not e))

len_4096 : length (blanks 4096) ≡ 4096
len_4096 = length-replicate {A = ℕ} 4096 0xFF

-- all of them: FF
pub mend_done : (k n a b : ℕ) (p₀ p r s : List ℕ) → length p₀ ≡ a → length p ≡ a → length r ≡ 4096 * k → a + 4096 * k ≡ b → k ≤ n → (im₀ : Image)
    → im₀ ≡ p₀ ++ (r ++ s) →
    run (p ++ (r ++ s)) (mend_steps im₀ n a b) ≡ p ++ (blanks (4096 * k) ++ s)
mend_done zero n a b p₀ p [] s e₀ e l t i im₀ f =
    ap (λ (ss : List ℕ). run (p ++ s) (map erase (keep (dirty im₀) ss))) (sectors_by_none n a b (omega arith))
mend_done zero n a b p₀ p (x ∷ r) s e₀ e l t i im₀ f = absurd (omega arith)
mend_done (suc k) zero a b p₀ p r s e₀ e l t i im₀ f = absurd (not-suc-le-zero i)
mend_done (suc k) (suc n) a b p₀ p r s e₀ e l t i im₀ f =
    go (blank (part a (a + 4096) im₀)) refl
    (mend_done k n (a + 4096) b (p₀ ++ take 4096 r) (p ++ blanks 4096) (drop 4096 r) s (length-append p₀ (take 4096 r) ∙ omega (arith, lr))
    (length-append p (blanks 4096) ∙ omega (arith, len_4096)) (length-drop 4096 r ∙ omega arith) (omega arith) (omega arith) im₀
    (f ∙ ap (λ (x : List ℕ). p₀ ++ x) split ∙ sym (append_assoc p₀ (take 4096 r) (drop 4096 r ++ s))))
  where
    lr : length (take 4096 r) ≡ 4096
    lr = length-take-le 4096 r (omega arith)

    split : r ++ s ≡ take 4096 r ++ (drop 4096 r ++ s)
    split = ap (λ (x : List ℕ). x ++ s) (sym (take-append-drop 4096 r)) ∙ append_assoc (take 4096 r) (drop 4096 r) s

    tested : part a (a + 4096) im₀ ≡ take 4096 r
    tested = ap (part a (a + 4096)) (f ∙ ap (λ (x : List ℕ). p₀ ++ x) split) ∙ part_mid p₀ (take 4096 r) (drop 4096 r ++ s) a e₀ lr

    joined : (p ++ blanks 4096) ++ (blanks (4096 * k) ++ s) ≡ p ++ (blanks (4096 * suc k) ++ s)
    joined =
        append_assoc p (blanks 4096) (blanks (4096 * k) ++ s)
        ∙ ap (λ (x : List ℕ). p ++ x)
        (sym (append_assoc (blanks 4096) (blanks (4096 * k)) s)
        ∙ ap (λ (x : List ℕ). x ++ s) (sym (blank_split 4096 (4096 * k) (4096 * suc k) (omega arith))))

    go : (t : Bool) → blank (part a (a + 4096) im₀) ≡ t
        → run ((p ++ blanks 4096) ++ (drop 4096 r ++ s)) (mend_steps im₀ n (a + 4096) b) ≡ (p ++ blanks 4096) ++ (blanks (4096 * k) ++ s) →
        run (p ++ (r ++ s)) (mend_steps im₀ (suc n) a b) ≡ p ++ (blanks (4096 * suc k) ++ s)
    go true h rec =
        let u : take 4096 r ≡ blanks 4096 = blank_is (take 4096 r) (sym (ap blank tested) ∙ h) ∙ ap blanks lr in
        let v : p ++ (r ++ s) ≡ (p ++ blanks 4096) ++ (drop 4096 r ++ s) =
        ap (λ (x : List ℕ). p ++ x) (split ∙ ap (λ (x : List ℕ). x ++ (drop 4096 r ++ s)) u)
        ∙ sym (append_assoc p (blanks 4096) (drop 4096 r ++ s)) in
        ap₂ run v (mend_keep im₀ n a b (omega arith) h) ∙ rec ∙ joined
    go false h rec =
        let v : apply (p ++ (r ++ s)) (erase a) ≡ (p ++ blanks 4096) ++ (drop 4096 r ++ s) =
        ap (λ (x : List ℕ). apply (p ++ x) (erase a)) split ∙ erase_mid p (take 4096 r) (drop 4096 r ++ s) a e lr
        ∙ ap (λ (x : List ℕ). p ++ (x ++ (drop 4096 r ++ s))) sector_is ∙ sym (append_assoc p (blanks 4096) (drop 4096 r ++ s)) in
        ap (run (p ++ (r ++ s))) (mend_erase im₀ n a b (omega arith) h) ∙ ap (λ (x : List ℕ). run x (mend_steps im₀ n (a + 4096) b)) v ∙ rec ∙ joined
