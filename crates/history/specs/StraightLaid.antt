-- An image that has not turned: what stands at S may be replaced (Hole), and any record by another of its size (Inside).
use Rattle.std.specs.Prelude.{ℕ, ◌+◌, ◌*◌, ◌≡◌, refl, false, List, [], ◌∷◌, ◌++◌, length}
use Rattle.std.proofs.Common.{arith, sym, ap, ◌∙◌, append-nil}
use Rattle.spec.specs.Record.{Rec, Entry}
use Rattle.history.specs.Lay.{onto, lay, sizes, entries_of}
use Rattle.history.specs.Markless.{Markless}
use Rattle.history.specs.Seg.{Seg, seg_onto, seg_append}
use Rattle.history.specs.Straight.{Straight}
use Rattle.history.specs.StraightEdit.{lay_append, sizes_append, fine_append, straight_with, front_part, front_is, front_length, split_at}
use Rattle.history.specs.Laid.{Laid, laid_straight, Hole, Inside}
use Rattle.history.specs.Entries.{entries_append, Among, among_fine, entries_with, sizes_with, fine_with}

-- with one record at least
laid_of : {im : List ℕ} {a l : ℕ} {gap lost : List ℕ} {h : ℕ} (xs : List Rec) (r : Rec) (ys : List Rec) {seg : Seg} {free : List ℕ} {S : ℕ}
    {es : List Entry} (f : ℕ) →
    Straight im a l gap lost h (xs ++ (r ∷ ys)) seg free → S ≡ h + sizes (xs ++ (r ∷ ys)) → es ≡ entries_of h (xs ++ (r ∷ ys)) → length free ≡ 8 * f
    → Markless f free →
    Laid im h S false es seg gap free
laid_of [] r ys f s p q m n = laid_straight f s refl p q m n
laid_of (x ∷ xs) r ys f s p q m n = laid_straight f s refl p q m n

module _ {im : List ℕ} {a l : ℕ} {gap lost : List ℕ} {h : ℕ} {x : Rec} {ys : List Rec} {seg : Seg} {free : List ℕ}
    (s : Straight im a l gap lost h (x ∷ ys) seg free) where
  abbrev rs : List Rec
  rs = x ∷ ys

  abbrev pre : List ℕ
  pre = front_part gap lost rs

  at_end : (t : List ℕ) → pre ++ (t ++ []) ≡ gap ++ (lost ++ lay rs t)
  at_end t = ap (λ (l : List ℕ). pre ++ l) (append-nil t) ∙ front_is gap lost rs t

  -- what stands at S may be replaced
  pub straight_hole : Hole im h (h + sizes rs) false (entries_of h rs) seg gap free
  straight_hole =
      record {
        pre = pre;
        post = [];
        is = s.is ∙ sym (at_end (seg_onto seg free)) ∙ ap (λ (l : List ℕ). pre ++ l) (sym (seg_append seg free []));
        at = front_length rs [] (sym (append-nil rs)) s;
        plug = λ g f new y m n o z.
            laid_of [] x ys f (straight_with (pre ++ seg_onto g (new ++ [])) s
            (ap (λ (l : List ℕ). pre ++ l) (seg_append g new []) ∙ at_end (seg_onto g new))
            s.fine) refl refl m n;
        grow = λ r f new y fine w m n o z.
            laid_of rs r [] f
            (straight_with (pre ++ onto r (new ++ [])) s
            (ap (λ (l : List ℕ). pre ++ onto r l) (append-nil new) ∙ front_is gap lost rs (onto r new)
            ∙ ap (λ (l : List ℕ). gap ++ (lost ++ l)) (sym (lay_append rs (r ∷ []) new)))
            (fine_append rs (r ∷ []) s.fine (fine, tt)))
            (omega (arith, sizes_append rs (r ∷ [])))
            (sym (entries_append h rs (r ∷ []))) m n;
      }

  -- and any record by one of its size
  pub straight_inside : (f : ℕ) → length free ≡ 8 * f → Markless f free → {xs zs : List Entry} {e : Entry} → Among h rs xs e zs
      → Inside im h (h + sizes rs) false xs e zs seg gap free
  straight_inside f m n {xs} {zs} {e} q =
      let tail : List ℕ = seg_onto seg free in
      record {
        pre = front_part gap lost q.before;
        post = lay q.after tail;
        is = split_at q.before (e.it ∷ q.after) q.is s;
        at = front_length q.before (e.it ∷ q.after) q.is s ∙ sym q.there;
        fine = among_fine q s.fine;
        swap = λ r z fine w.
            laid_of q.before r q.after f
            (straight_with (front_part gap lost q.before ++ onto r (lay q.after tail)) s
            (front_is gap lost q.before (lay (r ∷ q.after) tail)
            ∙ ap (λ (l : List ℕ). gap ++ (lost ++ l)) (sym (lay_append q.before (r ∷ q.after) tail)))
            (fine_with q r z s.fine fine))
            (ap (λ (n : ℕ). h + n) (sym (sizes_with q r z)))
            (entries_with q r z) m n;
      }
