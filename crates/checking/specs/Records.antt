-- The records that were read, as the code looks at them.
use Rattle.std.specs.Prelude.{Option, Some, None, ℕ, zero, suc, ◌+◌, ◌≤◌, ◌<◌, ◌≡◌, Bool, ◌||◌, not, length, take, drop, get_or}
use Rattle.std.proofs.Common.{arith, not-suc-le-zero, ◌∙◌, length-drop}
use Rattle.std.proofs.Math.Path.{refl, sym, ap}
use Rattle.std.proofs.Math.Bool.{true, false}
use mathlib.Core.List.{List, [], ◌∷◌, ◌++◌}
use Rattle.std.proofs.Math.Seq.{get_or-drop}
use borrow.Author.Tests.{eq-eqb, ne_eqb}
use Rattle.spec.specs.Step.{Image}
use Rattle.spec.specs.Basics.{empty, any}
use Rattle.spec.specs.Record.{Entry}
use Rattle.spec.specs.Files.{named, named_as, has_named, has_name}
use Rattle.spec.specs.Reading.{second_ok}
use Rattle.spec.specs.Fault.{mark_wrong}
use Rattle.chain.specs.declared.Cursor.{Cursor}
use Rattle.chain.specs.declared.Spot.{Spot}
use Rattle.chain.specs.declared.Item.{Item}
use Rattle.chain.specs.Cursor.{advance}
use Rattle.chain.specs.Rest.{Run, rest, entry_of}
use Rattle.chain.specs.Fold.{Passes, NotRecord, rest_done}
use Rattle.chain.specs.Prefix.{front}
use Rattle.checking.specs.declared.CutOff.{CutOff}
use Rattle.checking.specs.Stop.{cut_entry, cut_list}

-- all records that were read, the one that is cut off too
unfoldable pub all_of : Image → Cursor → Option CutOff → List Entry
all_of image start cut = (rest image start).entries ++ cut_list image cut

any_both : (p : Entry → Bool) (a b : List Entry) → any p (a ++ b) ≡ (any p a || any p b)
any_both p [] b = refl
any_both p (x ∷ a) b = go (p x) refl (any_both p a b) where
  go : (t : Bool) → p x ≡ t → any p (a ++ b) ≡ (any p a || any p b) → any p (x ∷ (a ++ b)) ≡ (any p (x ∷ a) || any p b)
  go true e ih = rw (any, e)
  go false e ih = rw (any, e) ih

-- ---- the record that is cut off

module _ (image : Image) (cut : CutOff) where
  one_is : (st : ℕ) (e : Entry) → has_named st (cut_list image (Some cut)) e ≡ named_as st e (cut_entry image cut)
  unfolding has_named
  one_is st e = go (named_as st e (cut_entry image cut)) where
    go : (b : Bool) → elim b as (λ b. Bool) [ true ↦ true | false ↦ false ] ≡ b
    go true = refl
    go false = refl

  module _ (st : ℕ) (e : Entry) where
    pub cut_other_status : (get_or image (cut.at + 2) 0 ≡ st → ⊥) → false ≡ has_named st (cut_list image (Some cut)) e
    unfolding named
    cut_other_status h =
        sym (one_is st e ∙ rw (named, get_or-drop cut.at image 2 0, ne_eqb (get_or image (cut.at + 2) 0) st h))

    pub cut_nameless : get_or image (cut.at + 2) 0 ≡ st → cut.n ≡ 0 → false ≡ has_named st (cut_list image (Some cut)) e
    unfolding named
    cut_nameless h z = sym (one_is st e ∙ rw (named, get_or-drop cut.at image 2 0, eq-eqb (get_or image (cut.at + 2) 0) st h, z))

    filled : (k : ℕ) (s : List ℕ) → (k ≡ 0 → ⊥) → k ≤ length s → empty (take k s) ≡ false
    filled zero s h l = absurd (h refl)
    filled (suc k) [] h l = absurd (not-suc-le-zero l)
    filled (suc k) (x ∷ s) h l = refl

    pub cut_same : cut.at + (8 + cut.n) < length image → (r : Bool) → get_or image (cut.at + 2) 0 ≡ st → (cut.n ≡ 0 → ⊥)
        → r ≡ has_name (take cut.n (drop 8 (drop cut.at image))) e → r ≡ has_named st (cut_list image (Some cut)) e
    unfolding named
    cut_same i r h z q =
        let f : empty (take cut.n (drop 8 (drop cut.at image))) ≡ false =
        filled cut.n (drop 8 (drop cut.at image)) z (rw (length-drop, length-drop) (omega (arith, i))) in
        q ∙ sym (one_is st e ∙ rw (named, get_or-drop cut.at image 2 0, eq-eqb (get_or image (cut.at + 2) 0) st h, f))

-- ---- all records

module _ (image : Image) (start : Cursor) (cut : Option CutOff) (st : ℕ) (e : Entry) where
  both_is : has_named st (all_of image start cut) e ≡ (has_named st (rest image start).entries e || has_named st (cut_list image cut) e)
  unfolding has_named all_of
  both_is = any_both (named_as st e) (rest image start).entries (cut_list image cut)

  pub has_before : (b : Bool) → b ≡ has_named st (rest image start).entries e → b ≡ true → true ≡ has_named st (all_of image start cut) e
  has_before b q t = sym (both_is ∙ rw (sym q ∙ t))

  pub has_cut : (b r : Bool) → b ≡ has_named st (rest image start).entries e → b ≡ false → r ≡ has_named st (cut_list image cut) e
      → r ≡ has_named st (all_of image start cut) e
  has_cut b r q t g = g ∙ sym (both_is ∙ rw (sym q ∙ t))

  pub has_none : (b : Bool) → b ≡ has_named st (rest image start).entries e → b ≡ false → cut ≡ None
      → false ≡ has_named st (all_of image start cut) e
  unfolding has_named
  has_none b q t n = sym (both_is ∙ rw (sym q ∙ t, n))

-- ---- the second record

module _ (image : Image) (start : Cursor) (all : List Entry) (e : Entry) where
  pub second_none : (r : Item) → r ≡ advance image start → NotRecord r → false ≡ mark_wrong all (front image start 1) e
  unfolding mark_wrong
  second_none r q z = rw (ap (λ (x : Run). x.entries) (rest_done image start r q z))

  pub second_is : (x : Spot) (next : Cursor) (b : Bool) → Passes image start x next → b ≡ second_ok all (entry_of image x) e
      → not b ≡ mark_wrong all (front image start 1) e
  unfolding mark_wrong
  second_is x next b t q = rw (ap (λ (r : Run). r.entries) t.split, ← q)
