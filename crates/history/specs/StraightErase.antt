-- Step (d) of a move on an image that has not turned, Y in a later sector: which sectors are erased, and that after the first erase,
-- cut anywhere, the head is Y and the gap before it has no mark.
use Rattle.std.specs.Prelude.{ℕ, zero, suc, ◌+◌, ◌-◌, ◌*◌, ◌/◌, ◌≤◌, ◌<◌, ◌≡◌, refl, List, [], ◌∷◌, ◌++◌, map, length, take, drop, get_or}
use Rattle.std.proofs.Common.{arith, not-suc-le-zero, sym, ap, ◌∙◌, subst, ap₂, subst₂, append_assoc, length-append, length-drop, ne_eqb}
use Rattle.spec.specs.Step.{run, Step, erase}
use Rattle.spec.specs.Record.{Rec, Entry}
use Rattle.spec.specs.Geometry.{floor, sectors}
use Rattle.spec.specs.Move.{vacated_end, vacated}
use Rattle.history.specs.Blanks.{blanks}
use Rattle.history.specs.Lay.{lay, rsize, rsize_words}
use Rattle.history.specs.Markless.{markless_append, Cleaned, Markless}
use Rattle.history.specs.Erase.{erases, half_erased, half_erased_length, erase_cut, markless_lost, half_erased_markless, sectors_are}
use Rattle.history.specs.Erase.{all_erased, take_erases, old_head, old_head_lay, old_head_length, old_head_markless}
use Rattle.history.specs.Seg.{seg_none}
use Rattle.history.specs.Straight.{Straight}

-- the second byte is FF, so no record stands at 0
pub second_ff : (n : ℕ) (p q : List ℕ) → 2 ≤ n → get_or ((blanks n ++ p) ++ q) 1 0 ≡ 0x5A → ⊥
second_ff zero p q h e = not-suc-le-zero h
second_ff (suc zero) p q h e = omega arith
second_ff (suc (suc n)) p q h e = omega arith

front_keep : (gap lost D L : List ℕ) (a : ℕ) → length gap ≡ 4096 * a → (get_or (gap ++ lost) 1 0 ≡ 0x5A → ⊥) → (get_or (D ++ L) 1 0 ≡ 0x5A → ⊥)
    → get_or ((gap ++ D) ++ L) 1 0 ≡ 0x5A → ⊥
front_keep [] lost D L a l f g = g
front_keep (x ∷ []) lost D L a l f g = absurd (omega arith)
front_keep (x ∷ y ∷ gap) lost D L a l f g = f

module _ {im : List ℕ} {a l : ℕ} {gap lost : List ℕ} {h : ℕ} {x y : Rec} {ys : List Rec} {free : List ℕ}
    (s : Straight im a l gap lost h (x ∷ y ∷ ys) seg_none free) (c : Cleaned x) where
  abbrev q : List ℕ
  q = old_head lost x []

  im_is : im ≡ gap ++ (q ++ lay (y ∷ ys) free)
  im_is = s.is ∙ ap (λ (m : List ℕ). gap ++ m) (old_head_lay lost x (lay (y ∷ ys) free))

  -- the sectors to erase: suc k of them, r words of q are left behind them
  module _ (k r : ℕ) (all : 512 * suc k + r ≡ l + rsize x / 8) (short : r < 512) where
    q_length : length q ≡ 4096 * suc k + 8 * r
    q_length = old_head_length x lost l k r s.lost_length all

    erased : (i : ℕ) → i ≤ suc k
        → run im (take i (erases (4096 * a) (suc k))) ≡ gap ++ (half_erased i (suc k) q ++ (drop (4096 * suc k) q ++ lay (y ∷ ys) free))
    erased i e =
        ap (λ (m : List ℕ). run m (take i (erases (4096 * a) (suc k)))) im_is
        ∙ erase_cut i (suc k) (4096 * a) gap q (lay (y ∷ ys) free) s.gap_length (omega (arith, q_length)) e

    markless_q : Markless (512 * k + r) (drop 4096 q)
    markless_q = old_head_markless x lost l k r s.lost_length all s.lost_small c

    -- after at least one erase: the head is Y, the free run may hold remains, without marks
    pub straight_erased : (i : ℕ) → i ≤ k →
        Straight (run im (take (suc i) (erases (4096 * a) (suc k)))) (a + suc k) r (gap ++ half_erased (suc i) (suc k) (old_head lost x []))
        (drop (4096 * suc k) (old_head lost x [])) (h + rsize x)
        (y ∷ ys) seg_none free
    straight_erased i e =
        let D : List ℕ = half_erased (suc i) (suc k) q in
        let L : List ℕ = drop (4096 * suc k) q in
        let qn : 512 * a + 512 * suc k ≡ 512 * (a + suc k) = omega arith in
        let ld : length D ≡ 4096 * suc k = half_erased_length (suc i) (suc k) q (omega arith) (omega (arith, q_length)) in
        record {
          is = erased (suc i) (omega arith) ∙ sym (append_assoc gap D (L ++ lay (y ∷ ys) free));
          at = omega (arith, s.at, rsize_words x);
          gap_length = length-append gap D ∙ omega (arith, s.gap_length, ld);
          gap_markless =
              subst (λ (n : ℕ). Markless n (gap ++ D)) qn
              (markless_append (512 * a) (512 * suc k) gap D (s.gap_length ∙ omega arith) s.gap_markless
              (half_erased_markless k r q q_length markless_q i e));
          lost_length = length-drop (4096 * suc k) q ∙ omega (arith, q_length);
          lost_small = short;
          lost_markless = markless_lost k r q q_length markless_q;
          front =
              front_keep gap lost D L a s.gap_length s.front
              (second_ff (4096 * suc i) (take (4096 * (suc k - suc i)) (drop (4096 * suc i) q)) L (omega arith));
          fine = s.fine.1;
        }

    -- all of (d): the gap's new sectors are FF
    pub straight_all_erased :
        Straight (run im (erases (4096 * a) (suc k))) (a + suc k) r (gap ++ blanks (4096 * suc k)) (drop (4096 * suc k) (old_head lost x []))
        (h + rsize x) (y ∷ ys) seg_none free
    straight_all_erased =
        subst₂
        (λ (ss : List Step) (g : List ℕ). Straight (run im ss) (a + suc k) r (gap ++ g) (drop (4096 * suc k) q) (h + rsize x) (y ∷ ys) seg_none free)
        (take_erases (suc k) (suc k) (4096 * a) (omega arith)) (all_erased (suc k) q) (straight_erased k (omega arith))

-- ---- the sectors to erase

vacated_to : (N : ℕ) (y : Entry) → (y.at ≡ 0 → ⊥) → vacated_end N y ≡ floor y.at
unfolding vacated_end
vacated_to N y n = rw (vacated_end, ne_eqb y.at 0 n)

-- the sectors that a move erases
pub vacated_are : (N h : ℕ) (x y : Rec) (a l k r : ℕ) → 4096 * a + 8 * l ≡ h → l < 512 → 512 * suc k + r ≡ l + rsize x / 8 → r < 512 →
    map erase (vacated N (record { at = h; it = x }) (record { at = h + rsize x; it = y })) ≡ erases (4096 * a) (suc k)
vacated_are N h x y a l k r e s t u =
    let f : floor h ≡ 4096 * a = omega arith in
    let g : floor (h + rsize x) ≡ 4096 * a + 4096 * suc k = omega (arith, rsize_words x) in
    ap (λ (b : ℕ). map erase (sectors (floor h) b)) (vacated_to N (record { at = h + rsize x; it = y }) (λ z. omega arith))
    ∙ ap₂ (λ (b c : ℕ). map erase (sectors b c)) f g ∙ sectors_are (suc k) (4096 * a) (4096 * a + 4096 * suc k) refl
