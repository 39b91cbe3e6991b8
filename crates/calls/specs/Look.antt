-- The lookups: from what the code found to the outcome of get, list and remove.
use Rattle.std.specs.Prelude.{ℕ, ◌+◌, ◌-◌, ◌≡◌, refl, List, take, drop, Result, Ok, Err}
use Rattle.std.specs.Result.{result_unwrap_or}
use Rattle.std.proofs.Common.{arith, sym, ap₂, ◌∙◌}
use Rattle.std.proofs.Math.Path.{ap}
use Rattle.std.proofs.Math.Option.{Option, none, some}
use Rattle.std.proofs.Math.ListN.{get_elem?}
use Rattle.spec.specs.Step.{Image}
use Rattle.spec.specs.Basics.{give, numbered, keep, first_such}
use Rattle.spec.specs.Geometry.{up8}
use Rattle.spec.specs.Record.{Entry}
use Rattle.spec.specs.Files.{has_name, file_named, file_indexed}
use Rattle.spec.specs.declared.Extent.{Extent}
use Rattle.spec.specs.declared.Refusal.{Refusal}
use Rattle.spec.specs.Numbers.{Numbers, Outcome, outcome_of, of_get, of_list, refusal, no_extent, part_of}
use Rattle.spec.specs.Answers.{Plan, carry_out, numbers_of, looking, found, file_of, getting, listing}
use Rattle.chain.specs.declared.Spot.{Spot}
use Rattle.chain.specs.Answers.{Found}
use Rattle.reading.specs.declared.Survey.{Survey}
use Rattle.chain.specs.Rest.{entry_of}
use Rattle.chain.specs.Fold.{Whole, name_length_is, content_length_is}
use Rattle.chain.specs.FileLaws.{is_file}
use Rattle.chain.specs.Seek.{found_in}
use Rattle.reading.specs.NamesLaw.{files_are}
use Rattle.reading.specs.Read.{reading_of, FileTold}
use Rattle.reading.specs.Accepted.{Settled}
use Rattle.calls.specs.declared.Listed.{Listed}
use Rattle.calls.specs.Numbers.{extent, located, listed}

-- ---- a call that only looks

looked : (image : Image) (n : Numbers) → outcome_of n image ≡ carry_out image 0 (give (looking n))
unfolding carry_out numbers_of
looked image n = refl

-- the part that the code lends is the outcome's
pub part_is : (image : Image) (n : Numbers) (o : Outcome) → outcome_of n image ≡ o
    → take (n.extent.offset + n.extent.length - n.extent.offset) (drop n.extent.offset image) ≡ part_of image o.numbers
part_is image n o e =
    let q : n.extent.offset + n.extent.length - n.extent.offset ≡ n.extent.length = omega arith in
    rw q (ap (λ (x : Outcome). part_of image x.numbers) e)

-- and it is empty where there is none
pub place_of : (r : Result Extent Refusal) {x : Extent} → x ≡ result_unwrap_or r no_extent → x ≡ (located r).extent
place_of (Ok y) e = e
place_of (Err y) e = e

pub name_of : (r : Result Listed Refusal) {l : Listed} → l ≡ result_unwrap_or r (record { name = no_extent; size = 0 })
    → l.name ≡ (listed r).extent
name_of (Ok k) e = ap (λ (x : Listed). x.name) e
name_of (Err y) e = ap (λ (x : Listed). x.name) e

-- what was found is the definitions' file
module _ (image : List ℕ) (s : Survey) (w : Settled image s) (f : Found) where
  pub named_file : (name : List ℕ) → found_in image f ≡ first_such (has_name name) (keep is_file (reading_of image s).entries)
      → found_in image f ≡ file_named name (reading_of image s).entries
  unfolding file_named
  named_file name q = q ∙ ap (first_such (has_name name)) (sym (files_are (reading_of image s).entries w.quiet))

  pub indexed_file : (i : ℕ) → found_in image f ≡ get_elem? (keep is_file (reading_of image s).entries) i
      → found_in image f ≡ file_indexed i (reading_of image s).entries
  indexed_file i q = q ∙ ap (λ (l : List Entry). get_elem? l i) (sym (files_are (reading_of image s).entries w.quiet))

  -- and what a call does with it is what the definition does
  pub plan_with : (name : List ℕ) (g : Entry → Plan) → FileTold image name s f
      → found g (found_in image f) ≡ file_of name g (reading_of image s)
  plan_with name g t = ap (found g) (named_file name t.first)

  pub done_with : (k : ℕ) (name : List ℕ) (g : Entry → Plan) → FileTold image name s f
      → carry_out image k (found g (found_in image f)) ≡ carry_out image k (file_of name g (reading_of image s))
  done_with k name g t = ap (carry_out image k) (plan_with name g t)

-- ---- get and list

module _ (image : List ℕ) (o : Option Entry) where
  pub found_none : (g : Entry → Plan) → none ≡ o → outcome_of (refusal (numbered 2)) image ≡ carry_out image 0 (found g o)
  unfolding carry_out
  found_none g q = ap (λ (x : Option Entry). carry_out image 0 (found g x)) q

  module _ (e : Spot) (w : Whole image e) (q : some (entry_of image e) ≡ o) where
    pub found_get : (a : ℕ) → a ≡ e.at + (8 + up8 (e.n + 1))
        → outcome_of (of_get 0 (extent a e.d)) image ≡ carry_out image 0 (found getting o)
    found_get a p =
        ap₂ (λ (x y : ℕ). outcome_of (of_get 0 (extent x y)) image)
        (p ∙ ap (λ (n : ℕ). e.at + (8 + up8 (n + 1))) (sym (name_length_is image e w))) (sym (content_length_is image e w))
        ∙ looked image (getting (entry_of image e)).done
        ∙ ap (λ (x : Option Entry). carry_out image 0 (found getting x)) q

    pub found_listed : outcome_of (of_list 0 (extent (e.at + 8) e.n) e.d) image ≡ carry_out image 0 (found listing o)
    found_listed =
        ap₂ (λ (x y : ℕ). outcome_of (of_list 0 (extent (e.at + 8) x) y) image)
        (sym (name_length_is image e w)) (sym (content_length_is image e w))
        ∙ looked image (listing (entry_of image e)).done
        ∙ ap (λ (x : Option Entry). carry_out image 0 (found listing x)) q
