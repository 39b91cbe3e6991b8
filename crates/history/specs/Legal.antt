-- From a head and a chain to the reading: document 01's rules on the entries as facts (Ruled), and its rule on the free run.
use Rattle.std.specs.Prelude.{ℕ, ◌+◌, ◌≡◌, true, false, List, length, drop}
use Rattle.std.proofs.Common.{arith, add-zero, sym, ap, ap₂, ◌∙◌, take_all, drop-drop}
use Rattle.spec.specs.declared.Ending.{Ending}
use Rattle.spec.specs.Basics.{give, part, blank}
use Rattle.spec.specs.Geometry.{floor}
use Rattle.spec.specs.Record.{Rec, Entry}
use Rattle.spec.specs.Head.{head}
use Rattle.spec.specs.Chain.{Reading, read, reading_from}
use Rattle.spec.specs.Reading.{free_blank, head_clean, free_ok, whole, marks_ok, names_ok, single, legal, judged, reading}
use Rattle.history.specs.Lay.{lay, sizes, drop_lay}
use Rattle.history.specs.Shape.{image, take_low, drop_high}

-- what is asked of the entries alone
pub record Ruled (es : List Entry) : Type 0 where
  pub names : names_ok es ≡ true
  pub singles : single es ≡ true
  pub marks : marks_ok es ≡ true

legal_by : (im : List ℕ) (r : Reading) → whole r.ending ≡ true → Ruled r.entries → free_ok im r ≡ true → legal im r ≡ true
unfolding legal
legal_by im r w u f = rw (legal, w, u.names, u.singles, u.marks, f)

judged_by : (im : List ℕ) (r : Reading) → legal im r ≡ true → judged im r ≡ give r
unfolding judged
judged_by im r e = rw (judged, e)

-- a head, a chain and the rules give the reading
pub reading_by : (im : List ℕ) (h : ℕ) (r : Reading) → head im ≡ give h → reading_from im h ≡ r → whole r.ending ≡ true → Ruled r.entries
    → free_ok im r ≡ true → reading im ≡ give r
unfolding reading
reading_by im h r e₁ e₂ w u f = rw (reading, e₁, e₂) (judged_by im r (legal_by im r w u f))

-- ---- the free run

-- turned, the head not CLEAN: the free run is FF
pub free_turned : (im : List ℕ) (N h t : ℕ) (es : List Entry) (e : Ending) → head_clean es ≡ false → blank (part t (floor h) im) ≡ true
    → free_ok im (read N h t true es e) ≡ true
unfolding free_ok free_blank
free_turned im N h t es e k a = rw (free_ok, k, free_blank, a)

-- ---- the parts of the shape

module _ (low high : List Rec) (gap lost rest : List ℕ) (h : ℕ) (below : sizes low + length gap ≡ floor h) (here : floor h + length lost ≡ h) where
  -- below the head's sector
  pub part_below : part 0 (floor h) (image low high gap lost rest h below here) ≡ lay low gap
  part_below = take_low low high gap lost rest h below here

  -- between the records from 0 on and the head's sector
  pub part_gap : part (sizes low) (floor h) (image low high gap lost rest h below here) ≡ gap
  part_gap =
      let e : sizes low ≡ sizes low + 0 = sym (add-zero (sizes low)) in
      ap₂ drop e (take_low low high gap lost rest h below here) ∙ drop_lay low gap 0

  -- behind the records from the head on
  pub part_rest : (N : ℕ) → N ≡ length (image low high gap lost rest h below here)
      → part (h + sizes high) N (image low high gap lost rest h below here) ≡ rest
  part_rest N e =
      let im : List ℕ = image low high gap lost rest h below here in
      ap (drop (h + sizes high)) (take_all N im (omega arith)) ∙ sym (drop-drop (sizes high) h im)
      ∙ ap₂ drop (sym (add-zero (sizes high))) (drop_high low high gap lost rest h below here) ∙ drop_lay high rest 0
