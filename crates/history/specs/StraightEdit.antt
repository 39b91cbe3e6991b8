-- An image that has not turned, cut in two behind some of its records, and with other bytes in place of its end; and one record with
-- another status, low byte or data.
use Rattle.std.specs.Prelude.{ℕ, ◌+◌, ◌≡◌, refl, List, [], ◌∷◌, ◌++◌}
use Rattle.std.proofs.Common.{arith, zero-add, add_assoc, sym, ◌∙◌, append_assoc}
use Rattle.std.proofs.Math.Path.{ap}
use Rattle.std.proofs.Math.ListN.{length, length-append}
use Rattle.spec.specs.Step.{Step, run, shifted}
use Rattle.spec.specs.Record.{Rec}
use Rattle.history.specs.Lay.{onto, lay, rsize, sizes, lay_is, length_lay, AllFine}
use Rattle.laws.specs.Steps.{run_past}
use Rattle.history.specs.Seg.{Seg, seg_onto, seg_size, length_seg}
use Rattle.history.specs.Straight.{Straight}

-- ---- lists of records

-- laid down, one list behind the other
pub lay_append : (xs ys : List Rec) (s : List ℕ) → lay (xs ++ ys) s ≡ lay xs (lay ys s)
lay_append [] ys s = refl
lay_append (a ∷ xs) ys s = ap (onto a) (lay_append xs ys s)

-- their sizes
pub sizes_append : (xs ys : List Rec) → sizes (xs ++ ys) ≡ sizes xs + sizes ys
sizes_append [] ys = sym (zero-add (sizes ys))
sizes_append (a ∷ xs) ys = ap (λ (n : ℕ). rsize a + n) (sizes_append xs ys) ∙ sym (add_assoc (rsize a) (sizes xs) (sizes ys))

-- both fine
pub fine_append : (xs ys : List Rec) → AllFine xs → AllFine ys → AllFine (xs ++ ys)
fine_append [] ys p q = q
fine_append (x ∷ xs) ys p q = (p.0, fine_append xs ys p.1 q)

-- so the first
pub fine_left : (xs ys : List Rec) → AllFine (xs ++ ys) → AllFine xs
fine_left [] ys p = tt
fine_left (x ∷ xs) ys p = (p.0, fine_left xs ys p.1)

-- and the second
pub fine_right : (xs ys : List Rec) → AllFine (xs ++ ys) → AllFine ys
fine_right [] ys p = p
fine_right (x ∷ xs) ys p = fine_right xs ys p.1

-- the same place with other records and another end
pub straight_with : {im : List ℕ} {a l : ℕ} {gap lost : List ℕ} {h : ℕ} {high high' : List Rec} {seg seg' : Seg} {free free' : List ℕ} (im' : List ℕ)
    → Straight im a l gap lost h high seg free →
    im' ≡ gap ++ (lost ++ lay high' (seg_onto seg' free')) → AllFine high' → Straight im' a l gap lost h high' seg' free'
straight_with im' s e f =
    record {
      is = e;
      at = s.at;
      gap_length = s.gap_length;
      gap_markless = s.gap_markless;
      lost_length = s.lost_length;
      lost_small = s.lost_small;
      lost_markless = s.lost_markless;
      front = s.front;
      fine = f;
    }

-- ---- behind some of the records

-- all that stands before what follows the records xs
unfoldable pub front_part : List ℕ → List ℕ → List Rec → List ℕ
front_part gap lost xs = gap ++ (lost ++ lay xs [])

-- it, and t behind it
pub front_is : (gap lost : List ℕ) (xs : List Rec) (t : List ℕ) → front_part gap lost xs ++ t ≡ gap ++ (lost ++ lay xs t)
unfolding front_part
front_is gap lost xs t =
    append_assoc gap (lost ++ lay xs []) t
    ∙ ap (λ (l : List ℕ). gap ++ l) (append_assoc lost (lay xs []) t ∙ ap (λ (l : List ℕ). lost ++ l) (sym (lay_is xs t)))

module _ {im : List ℕ} {a l : ℕ} {gap lost : List ℕ} {h : ℕ} {rs : List Rec} (xs ys : List Rec) {seg : Seg} {free : List ℕ} (e : rs ≡ xs ++ ys)
    (s : Straight im a l gap lost h rs seg free) where
  -- how long it is
  pub front_length : length (front_part gap lost xs) ≡ h + sizes xs
  unfolding front_part
  front_length =
      length-append gap (lost ++ lay xs []) ∙ ap (λ (n : ℕ). length gap + n) (length-append lost (lay xs []))
      ∙ omega (arith, s.gap_length, s.lost_length, s.at, length_lay xs [])

  -- the image in two parts
  pub split_at : im ≡ front_part gap lost xs ++ lay ys (seg_onto seg free)
  split_at =
      s.is ∙ ap (λ (l : List ℕ). gap ++ (lost ++ l)) (ap (λ (zs : List Rec). lay zs (seg_onto seg free)) e ∙ lay_append xs ys (seg_onto seg free))
      ∙ sym (front_is gap lost xs (lay ys (seg_onto seg free)))

  -- programmed steps behind xs
  pub run_behind : (ss : List Step) → run im (shifted (h + sizes xs) ss) ≡ gap ++ (lost ++ lay xs (run (lay ys (seg_onto seg free)) ss))
  run_behind ss =
      ap (λ (l : List ℕ). run l (shifted (h + sizes xs) ss)) split_at
      ∙ run_past (front_part gap lost xs) (lay ys (seg_onto seg free)) ss (h + sizes xs) front_length
      ∙ front_is gap lost xs (run (lay ys (seg_onto seg free)) ss)

-- ---- a record changed

-- with another status
abbrev pub restatus : ℕ → Rec → Rec
restatus b r = record { low = r.low; status = b; name = r.name; content = r.content }

-- with another low byte
abbrev pub relow : ℕ → Rec → Rec
relow b r = record { low = b; status = r.status; name = r.name; content = r.content }

-- with other data
abbrev pub recontent : List ℕ → Rec → Rec
recontent c r = record { low = r.low; status = r.status; name = r.name; content = c }

-- ---- its length

-- how long the image is
pub straight_length : {im : List ℕ} {a l : ℕ} {gap lost : List ℕ} {h : ℕ} {high : List Rec} {seg : Seg} {free : List ℕ}
    → Straight im a l gap lost h high seg free →
    length im ≡ h + sizes high + seg_size seg + length free
straight_length {gap = gap} {lost = lost} {high = high} {seg = seg} {free = free} s =
    ap length s.is ∙ length-append gap (lost ++ lay high (seg_onto seg free))
    ∙ ap (λ (n : ℕ). length gap + n) (length-append lost (lay high (seg_onto seg free)))
    ∙ omega (arith, s.gap_length, s.lost_length, s.at, length_lay high (seg_onto seg free), length_seg seg free)
