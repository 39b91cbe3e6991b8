-- Files as the code finds them: tests of one record, and folds over the records.
use Prim.Native.Nat.{ℕ, zero, suc, ◌+◌, ◌-◌, ◌≤◌, ◌<◌}
use Rattle.std.proofs.Common.{arith, not-suc-le-zero, ap, length-drop, drop-drop}
use Rattle.std.specs.Prelude.{◌≡◌, Bool, true, false, ◌||◌, List, [], ◌∷◌, take, drop, get_or, eqb}
use Rattle.std.proofs.Math.Path.{refl}
use Rattle.std.proofs.Math.Bool.{not}
use Rattle.std.proofs.Math.ListN.{length, drop_of_length-le}
use Rattle.std.proofs.Math.Seq.{get_or-drop}
use Rattle.std.proofs.Math.Dec.{ltb}
use borrow.Author.Tests.{eq-eqb, ne_eqb, lt-ltb}
use Rattle.spec.specs.Basics.{same, empty}
use Rattle.spec.specs.Record.{Entry}
use Rattle.spec.specs.Files.{named, has_named, live}
use Rattle.laws.specs.Parts.{drop_next}
use Rattle.chain.specs.declared.Spot.{Spot}
use Rattle.chain.specs.Rest.{entry_of}
use Rattle.chain.specs.Fold.{Whole}

-- ---- two names, byte by byte

module _ (x y : List ℕ) (i : ℕ) where
  pub same_step : i < length x → i < length y → get_or x i 0 ≡ get_or y i 0
      → same (drop i x) (drop i y) ≡ same (drop (i + 1) x) (drop (i + 1) y)
  unfolding same
  same_step h l e = rw (drop_next x i h, drop_next y i l, eq-eqb (get_or x i 0) (get_or y i 0) e, same)

  pub same_stop : i < length x → i < length y → (get_or x i 0 ≡ get_or y i 0 → ⊥) → same (drop i x) (drop i y) ≡ false
  unfolding same
  same_stop h l e = rw (drop_next x i h, drop_next y i l, ne_eqb (get_or x i 0) (get_or y i 0) e, same)

  pub same_done : length x ≤ i → length y ≤ i → same (drop i x) (drop i y) ≡ true
  unfolding same
  same_done h l = rw (drop_of_length-le x h, drop_of_length-le y l, same)

pub same_lengths : (x y : List ℕ) → (length x ≡ length y → ⊥) → same x y ≡ false
unfolding same
same_lengths [] [] h = absurd (h refl)
same_lengths [] (b ∷ y) h = refl
same_lengths (a ∷ x) [] h = refl
same_lengths (a ∷ x) (b ∷ y) h = go (eqb a b) refl (same_lengths x y (λ e. h (ap suc e))) where
  go : (t : Bool) → eqb a b ≡ t → same x y ≡ false → same (a ∷ x) (b ∷ y) ≡ false
  go true e ih = rw (e, same) ih
  go false e ih = rw (e, same)

-- the part that the code lends
pub name_part : (image : List ℕ) (a n : ℕ) → take (a + 8 + n - (a + 8)) (drop (a + 8) image) ≡ take n (drop 8 (drop a image))
name_part image a n = let q : a + 8 + n - (a + 8) ≡ n = omega arith in rw (q, drop-drop 8 a image)

-- ---- one record's status and name

empty_take : (n : ℕ) (s : List ℕ) → 0 < n → 0 < length s → empty (take n s) ≡ false
empty_take zero s h l = absurd (not-suc-le-zero h)
empty_take (suc n) [] h l = absurd (not-suc-le-zero l)
empty_take (suc n) (x ∷ s) h l = refl

module _ (image : List ℕ) (st : ℕ) (e : Spot) where
  pub named_no : (get_or image (e.at + 2) 0 ≡ st → ⊥) → false ≡ named st (entry_of image e)
  unfolding named
  named_no h = rw (named, get_or-drop e.at image 2 0, ne_eqb (get_or image (e.at + 2) 0) st h)

  pub named_is : Whole image e → get_or image (e.at + 2) 0 ≡ st → ltb 0 e.n ≡ named st (entry_of image e)
  unfolding named
  named_is w h = rw (named, get_or-drop e.at image 2 0, eq-eqb (get_or image (e.at + 2) 0) st h) (go e.n (omega (arith, w.fits))) where
    go : (k : ℕ) → e.at + 16 ≤ length image → ltb 0 k ≡ not (empty (take k (drop 8 (drop e.at image))))
    go zero l = refl
    go (suc k) l =
        rw (
          lt-ltb 0 (suc k) (omega arith),
          empty_take (suc k) (drop 8 (drop e.at image)) (omega arith)
              (rw (length-drop, length-drop) (omega arith)),
        )

-- ---- tests of one record among all

-- an FC or F8 record with a name
unfoldable pub is_file : Entry → Bool
is_file e = named 0xFC e || named 0xF8 e

module _ (es : List Entry) (e : Entry) where
  pub live_fc : named 0xFC e ≡ true → true ≡ live es e
  unfolding live
  live_fc h = rw (h, live)

  pub live_none : named 0xFC e ≡ false → named 0xF8 e ≡ false → false ≡ live es e
  unfolding live
  live_none h g = rw (h, g, live)

  pub live_f8 : (t : Bool) → named 0xFC e ≡ false → named 0xF8 e ≡ true → has_named 0xFC es e ≡ t → not t ≡ live es e
  unfolding live
  live_f8 t h g f = rw (h, g, f, live)
