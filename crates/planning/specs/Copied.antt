-- Step (a) of a move on a settled image: what is left is settled again, with X dead and its copy the last record.
use Rattle.std.specs.Prelude.{ℕ, ◌+◌, ◌<◌, ◌≡◌, refl, Bool, true, false, List, [], ◌∷◌, ◌++◌, map, length}
use Rattle.std.proofs.Common.{arith, ap, ap₂, ◌∙◌, subst, eq-eqb, ne_eqb}
use Rattle.spec.specs.declared.Ending.{Ending}
use Rattle.spec.specs.declared.Place.{Place}
use Rattle.spec.specs.Step.{Image}
use Rattle.spec.specs.Basics.{Each}
use Rattle.spec.specs.Record.{Entry, name_of, size}
use Rattle.spec.specs.Chain.{Reading}
use Rattle.spec.specs.Place.{fits}
use Rattle.laws.specs.Lists.{each_map}
use Rattle.laws.specs.Length.{Good}
use Rattle.planning.specs.Planned.{copied_place, with_status, copy_of, dead_if}
use Rattle.planning.specs.Spots.{Nameable, finished_name}
use Rattle.planning.specs.Scattered.{Scattered, reads_scattered}
use Rattle.planning.specs.First.{head_recordish, one_of, first_at}
use Rattle.planning.specs.Dropped.{Aside, drop_if}
use Rattle.planning.specs.Rested.{Rested, Finished}
use Rattle.planning.specs.NewCopy.{new}
use Rattle.planning.specs.PutRested.{stands_at, new_rested}

-- what is read after the copy
abbrev pub copied_reading : Place → Entry → List Entry → Reading
copied_reading p x es =
    record { place = copied_place p (size x); entries = with_status 0x00 x ∷ (es ++ (copy_of p x ∷ [])); ending = Ending.Tail }

-- the records that are not taken stay
pub map_kept : (q : Entry → Bool) (es : List Entry) → Each (λ e. q e ≡ false) es → map (drop_if q) es ≡ es
map_kept q [] w = refl
map_kept q (e ∷ es) w = ap₂ (λ (a : Entry) (l : List Entry). a ∷ l) (ap (λ (b : Bool). dead_if b e) w.0) (map_kept q es w.1)

-- of records that are apart, only the first is taken
pub first_taken : (x : Entry) (es : List Entry) → Each (λ y. y.at ≡ x.at → ⊥) es → map (drop_if (stands_at x.at)) (x ∷ es)
    ≡ with_status 0x00 x ∷ es
first_taken x es s =
    ap₂ (λ (b : Bool) (l : List Entry). dead_if b x ∷ l) (eq-eqb x.at x.at refl)
    (map_kept (stands_at x.at) es
    (each_map {P = λ y. y.at ≡ x.at → ⊥} {Q = λ y. stands_at x.at y ≡ false} es (λ y u. ne_eqb y.at x.at u) s))

module _ (im : Image) (g : Good (length im)) {r : Reading} (w : Rested im r) {x : Entry} {es : List Entry} (q : r.entries ≡ x ∷ es)
    (f : Finished x)
    (k : fits r.place (size x) ≡ true) where
  known : (length (name_of x) < 64) × Nameable (name_of x)
  known =
      finished_name (omega arith)
      (first_at (one_of (head_recordish im r.place.head (omega (arith, w.inside, w.even, g.sectors)) w.low)
      w.reads q)).stands f

  only : (i : ℕ) → i < length im → Aside (stands_at x.at) i r.entries → i ≡ x.at + 2 → ⊥
  only i l o e = (subst (Aside (stands_at x.at) i) q o).0 (eq-eqb x.at x.at refl) e

  -- the image after (a) is settled again, with X dead and its copy the last record
  pub copy_rested : Rested (new im r.place x) (copied_reading r.place x es)
  copy_rested =
      subst (λ (l : List Entry). Rested (new im r.place x) (record {
        place = copied_place r.place (size x);
        entries = l ++ (copy_of r.place x ∷ []);
        ending = Ending.Tail;
      }))
      (ap (map (drop_if (stands_at x.at))) q ∙ first_taken x es (subst Scattered q (reads_scattered w.reads)).0)
      (new_rested im g w x known q only k)
