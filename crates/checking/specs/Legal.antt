-- No rule is broken exactly if the reading is legal.
use Rattle.std.specs.Prelude.{Option, Some, None, ◌≡◌, Bool, true, ◌&&◌}
use Rattle.std.proofs.Math.Path.{refl, sym, ap, ap₂}
use Rattle.std.proofs.Common.{◌∙◌}
use Rattle.std.proofs.Math.Bool.{false}
use mathlib.Core.List.{List, [], ◌++◌, append-nil}
use Rattle.spec.specs.declared.Fault.{Fault}
use Rattle.spec.specs.Step.{Image}
use Rattle.spec.specs.Record.{Entry}
use Rattle.spec.specs.Chain.{Reading}
use Rattle.spec.specs.Reading.{free_ok, whole, names_ok, single, marks_ok, legal}
use Rattle.spec.specs.Fault.{chain_fault, cut_off, end_fault, first_fault}
use Rattle.checking.specs.Clear.{and_assoc, clear, free_clear, records_clear}

-- where the chain ends as it may, no record is cut off
pub none_cut_off : (image : Image) (r : Reading) → whole r.ending ≡ true → cut_off image r ≡ []
unfolding cut_off
none_cut_off image r w = rw (cut_off, w)

module _ (image : Image) (r : Reading) where
  all_of : List Entry
  all_of = r.entries ++ cut_off image r

  chain_part : Option Fault
  chain_part = chain_fault r.ending all_of [] r.entries

  -- the first fault is the chain's, if there is one
  one_then_other : clear (first_fault image r) ≡ (clear chain_part && clear (end_fault image r))
  unfolding first_fault chain_part all_of
  one_then_other = go chain_part refl where
    go : (f : Option Fault) → chain_part ≡ f → clear (first_fault image r) ≡ (clear chain_part && clear (end_fault image r))
    go None e = rw (first_fault, chain_part, e)
    go (Some f) e = rw (first_fault, chain_part, e)

  and_false : (b : Bool) → (b && false) ≡ false
  and_false true = refl
  and_false false = refl

  broken_off : whole r.ending ≡ false → clear (first_fault image r) ≡ legal image r
  unfolding end_fault legal
  broken_off w =
      let q : clear (end_fault image r) ≡ false = rw (end_fault, w) in
      let l : legal image r ≡ false = rw (legal, w) in
      one_then_other ∙ ap (λ (b : Bool). clear chain_part && b) q ∙ and_false (clear chain_part) ∙ sym l

  ended : whole r.ending ≡ true → clear (first_fault image r) ≡ legal image r
  unfolding end_fault legal chain_part all_of
  ended w =
      let all_is : all_of ≡ r.entries = ap (λ (l : List Entry). r.entries ++ l) (none_cut_off image r w) ∙ append-nil r.entries in
      let chain_is : clear chain_part ≡ (names_ok r.entries && (single r.entries && marks_ok r.entries)) =
      ap (λ (l : List Entry). clear (chain_fault r.ending l [] r.entries)) all_is ∙ records_clear r.ending w r.entries in
      let end_is : clear (end_fault image r) ≡ free_ok image r = rw (end_fault, w) (free_clear image r) in
      let l : legal image r ≡ (((names_ok r.entries && single r.entries) && marks_ok r.entries) && free_ok image r) =
      rw (legal, w) in
      one_then_other
      ∙ ap₂ (λ (a b : Bool). a && b) (chain_is ∙ and_assoc (names_ok r.entries) (single r.entries) (marks_ok r.entries)) end_is
      ∙ sym l

  -- THE law of the search
  pub clear_legal : clear (first_fault image r) ≡ legal image r
  clear_legal = go (whole r.ending) refl where
    go : (t : Bool) → whole r.ending ≡ t → clear (first_fault image r) ≡ legal image r
    go true w = ended w
    go false w = broken_off w
