-- Step (d) of a move on an image that has turned, cut anywhere: Y behind X in a later sector, or Y at 0, and then all up to N is erased.
use Prim.Native.Nat.{ℕ, suc, ◌+◌, ◌-◌, ◌*◌, ◌/◌, ◌≤◌, ◌<◌}
use Rattle.std.proofs.Common.{arith, ◌∙◌, subst, drop_of_length-le}
use Rattle.std.specs.Prelude.{◌≡◌, refl, take}
use Rattle.std.proofs.Math.Path.{sym, ap}
use mathlib.Core.List.{List, [], ◌∷◌, ◌++◌, append_assoc, append-nil}
use Rattle.std.proofs.Math.ListN.{length, drop, length-append, length-drop}
use Rattle.spec.specs.declared.Next.{Next}
use Rattle.spec.specs.Step.{run}
use Rattle.spec.specs.Record.{Rec}
use Rattle.history.specs.Blanks.{blank_split}
use Rattle.history.specs.Lay.{body, onto, lay, rsize, length_lay, lay_past, rsize_words}
use Rattle.history.specs.Markless.{markless_append, Markless, Cleaned}
use Rattle.history.specs.Erase.{erases, half_erased, half_erased_length, erase_cut, markless_lost, half_erased_markless, old_head}
use Rattle.history.specs.Erase.{old_head_lay, old_head_length, old_head_markless, old_head_second}
use Rattle.history.specs.Seg.{seg_none}
use Rattle.history.specs.Straight.{Straight}
use Rattle.history.specs.Turned.{End, end_bytes, Opens, opens_ff, opens_none, Turned}

-- the free run with what is being erased behind it
more_open : {free : List ℕ} {x : Next} (i k : ℕ) (q : List ℕ) → Opens free x → Opens (free ++ half_erased (suc i) k q) Next.Clear
more_open i k q opens_ff = opens_ff
more_open i k q opens_none =
    subst (λ (l : List ℕ). Opens l Next.Clear)
    (sym (ap (λ (l : List ℕ). l ++ take (4096 * (k - suc i)) (drop (4096 * suc i) q))
    (blank_split 8 (4096 * suc i - 8) (4096 * suc i) (omega arith)))) opens_ff

-- the bytes below the head's sector
pre_length : {im : List ℕ} {a l : ℕ} {lost : List ℕ} {h : ℕ} {low : List Rec} {f : ℕ} {free : List ℕ} {high : List Rec} {end : End}
    → Turned im a l lost h low seg_none f free high end →
    length (lay low free) ≡ 4096 * a
pre_length {low = low} {free = free} s = length_lay low free ∙ omega (arith, s.free_length, s.below)

-- Y behind X, in a later sector
module _ {im : List ℕ} {a l : ℕ} {lost : List ℕ} {h : ℕ} {low : List Rec} {f : ℕ} {free : List ℕ} {x y : Rec} {ys : List Rec} {end : End}
    (s : Turned im a l lost h low seg_none f free (x ∷ y ∷ ys) end) (c : Cleaned x)
    (k r : ℕ) (all : 512 * suc k + r ≡ l + rsize x / 8) (short : r < 512) where
  abbrev q : List ℕ
  q = old_head lost x []

  q_length : length q ≡ 4096 * suc k + 8 * r
  q_length = old_head_length x lost l k r s.lost_length all

  rest : List ℕ
  rest = lay (y ∷ ys) (end_bytes end)

  im_is : im ≡ lay low free ++ (q ++ rest)
  unfolding rest
  im_is =
      s.is ∙ ap (λ (l : List ℕ). lay low (free ++ l)) (old_head_lay lost x (lay (y ∷ ys) (end_bytes end)))
      ∙ sym (lay_past low free (old_head lost x [] ++ lay (y ∷ ys) (end_bytes end)))

  markless_q : Markless (512 * k + r) (drop 4096 q)
  markless_q = old_head_markless x lost l k r s.lost_length all s.lost_small c

  -- after at least one erase: the head is Y
  pub turned_erased : (i : ℕ) → i ≤ k →
      Turned (run im (take (suc i) (erases (4096 * a) (suc k)))) (a + suc k) r (drop (4096 * suc k) (old_head lost x [])) (h + rsize x) low seg_none
      (f + 512 * suc k)
      (free ++ half_erased (suc i) (suc k) (old_head lost x [])) (y ∷ ys) end
  unfolding rest
  turned_erased i e =
      let D : List ℕ = half_erased (suc i) (suc k) q in
      let L : List ℕ = drop (4096 * suc k) q in
      let ld : length D ≡ 4096 * suc k = half_erased_length (suc i) (suc k) q (omega arith) (omega (arith, q_length)) in
      record {
        is = ap (λ (m : List ℕ). run m (take (suc i) (erases (4096 * a) (suc k)))) im_is
            ∙ erase_cut (suc i) (suc k) (4096 * a) (lay low free) q rest (pre_length s) (omega (arith, q_length)) (omega arith)
            ∙ lay_past low free (D ++ (L ++ rest)) ∙ ap (lay low) (sym (append_assoc free D (L ++ rest)));
        at = omega (arith, s.at, rsize_words x);
        some_below = omega arith;
        below = omega (arith, s.below);
        free_length = length-append free D ∙ omega (arith, s.free_length, ld);
        free_markless = markless_append f (512 * suc k) free D s.free_length s.free_markless
            (half_erased_markless k r q q_length markless_q i e);
        opened = Next.Clear;
        opens = more_open i (suc k) q s.opens;
        lost_length = length-drop (4096 * suc k) q ∙ omega (arith, q_length);
        lost_small = short;
        lost_markless = markless_lost k r q q_length markless_q;
        fine_low = s.fine_low;
        walked = s.walked;
        fine_high = s.fine_high.1;
      }

-- Y at 0, X the last before the turn: to N
module _ {im : List ℕ} {a l : ℕ} {lost : List ℕ} {h : ℕ} {low : List Rec} {f : ℕ} {free : List ℕ} {x : Rec} {end : End}
    (s : Turned im a l lost h low seg_none f free (x ∷ []) end)
    (k : ℕ) (all : length im ≡ 4096 * (a + suc k)) (c : Markless (511 - l + 512 * k) (body x.name x.content (end_bytes end))) where
  abbrev q₀ : List ℕ
  q₀ = old_head lost x (end_bytes end)

  im₀_is : im ≡ lay low free ++ (q₀ ++ [])
  unfolding old_head
  im₀_is =
      s.is ∙ sym (lay_past low free (lost ++ onto x (end_bytes end)))
      ∙ ap (λ (l : List ℕ). lay low free ++ l) (sym (append-nil (lost ++ onto x (end_bytes end))))

  q₀_length : length q₀ ≡ 4096 * suc k + 8 * 0
  q₀_length =
      let e : length im ≡ length (lay low free) + length (q₀ ++ []) = ap length im₀_is ∙ length-append (lay low free) (q₀ ++ []) in
      omega (arith, e, pre_length s, length-append q₀ [])

  markless_q₀ : Markless (512 * k + 0) (drop 4096 q₀)
  markless_q₀ =
      let n : 511 - l + 512 * k ≡ 511 - l + (512 * k + 0) = omega arith in
      old_head_second x lost (end_bytes end) l (512 * k + 0) s.lost_length s.lost_small
      (subst (λ (m : ℕ). Markless m (body x.name x.content (end_bytes end))) n c)

  -- after at least one erase: not turned, the head is at 0
  pub zero_erased : (i : ℕ) → i ≤ k
      → Straight (run im (take (suc i) (erases (4096 * a) (suc k)))) 0 0 [] [] 0 low seg_none
      (free ++ half_erased (suc i) (suc k) (old_head lost x (end_bytes end)))
  zero_erased i e =
      let D : List ℕ = half_erased (suc i) (suc k) q₀ in
      let L : drop (4096 * suc k) q₀ ≡ [] = drop_of_length-le q₀ {i = 4096 * suc k} (omega (arith, q₀_length)) in
      record {
        is = ap (λ (m : List ℕ). run m (take (suc i) (erases (4096 * a) (suc k)))) im₀_is
            ∙ erase_cut (suc i) (suc k) (4096 * a) (lay low free) q₀ [] (pre_length s) (omega (arith, q₀_length)) (omega arith)
            ∙ ap (λ (l : List ℕ). lay low free ++ (D ++ (l ++ []))) L ∙ ap (λ (l : List ℕ). lay low free ++ l) (append-nil D) ∙ lay_past low free D;
        at = refl;
        gap_length = refl;
        gap_markless = tt;
        lost_length = refl;
        lost_small = omega arith;
        lost_markless = tt;
        front = zero_not;
        fine = s.fine_low;
      }
    where
      zero_not : ◌≡◌ {A = ℕ} 0 0x5A → ⊥
      zero_not e = omega arith

  -- and its free run has no mark: so nothing is found, and CLEAN at 0 is the head
  pub zero_markless : (i : ℕ) → i ≤ k → Markless (f + 512 * suc k) (free ++ half_erased (suc i) (suc k) (old_head lost x (end_bytes end)))
  zero_markless i e =
      markless_append f (512 * suc k) free (half_erased (suc i) (suc k) q₀) s.free_length s.free_markless
      (half_erased_markless k 0 q₀ q₀_length markless_q₀ i e)
