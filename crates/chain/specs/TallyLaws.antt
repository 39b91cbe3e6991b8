-- What the tally of all records says, rule by rule.
use Rattle.std.specs.Prelude.{ℕ, ◌+◌, ◌≤◌, ◌<◌, ◌≡◌, refl, Bool, true, false, ◌&&◌, ◌||◌, not, List, [], ◌∷◌, length}
use Rattle.std.proofs.Common.{arith, add-zero, sym, ap, ap₂, ◌∙◌, ne_eqb, lt-ltb}
use Rattle.std.proofs.lemmas.Bool.{lt-leb}
use Rattle.spec.specs.Basics.{any, all, keep, Each}
use Rattle.spec.specs.Bytes.{is_clean}
use Rattle.spec.specs.Record.{Entry, size}
use Rattle.spec.specs.Space.{sizes}
use Rattle.spec.specs.Reading.{marked, second_ok, marks_ok, head_clean}
use Rattle.spec.specs.Mount.{head_low}
use Rattle.chain.specs.declared.Spot.{Spot}
use Rattle.chain.specs.declared.Tally.{Tally}
use Rattle.chain.specs.Rest.{entry_of}
use Rattle.chain.specs.Fold.{spot_of}
use Rattle.chain.specs.Faithful.{Stands}
use Rattle.chain.specs.FileLaws.{is_file}
use Rattle.chain.specs.Tally.{name_fine, none_yet, count_with, sums_with, noted, tally}
use Rattle.laws.specs.Settled.{last_pending}

-- ---- for any tally so far

pub tally_records : (t : Tally) (es : List Entry) → (tally t es).records ≡ t.records + length es
unfolding noted
tally_records t [] = sym (add-zero t.records)
tally_records t (e ∷ es) = let q = tally_records (noted t e) es in omega (arith, q)

pub tally_files : (t : Tally) (es : List Entry) → (tally t es).files ≡ t.files + length (keep is_file es)
unfolding noted
tally_files t [] = sym (add-zero t.files)
tally_files t (e ∷ es) = tally_files (noted t e) es ∙ go (is_file e) refl where
  go : (b : Bool) → is_file e ≡ b → count_with t.files (is_file e) + length (keep is_file es) ≡ t.files + length (keep is_file (e ∷ es))
  go true q = rw (keep, q) (omega arith)
  go false q = rw (keep, q)

-- the sizes of the files
pub tally_file_sizes : (t : Tally) (es : List Entry) → (tally t es).sums.files ≡ t.sums.files + sizes (keep is_file es)
unfolding noted
tally_file_sizes t [] = sym (add-zero t.sums.files)
tally_file_sizes t (e ∷ es) = tally_file_sizes (noted t e) es ∙ go (is_file e) refl where
  go : (b : Bool) → is_file e ≡ b
      → (sums_with t.sums (size e) (is_file e)).files + sizes (keep is_file es) ≡ t.sums.files + sizes (keep is_file (e ∷ es))
  go true q = rw (keep, q) (omega arith)
  go false q = rw (keep, q)

and_assoc : (a b c : Bool) → ((a && b) && c) ≡ (a && (b && c))
and_assoc true b c = refl
and_assoc false b c = refl

pub or_assoc : (a b c : Bool) → ((a || b) || c) ≡ (a || (b || c))
or_assoc true b c = refl
or_assoc false b c = refl

all_and : (p : Entry → Bool) (e : Entry) (es : List Entry) (t : Bool) → p e ≡ t → (p e && all p es) ≡ all p (e ∷ es)
all_and p e es true h = rw (h, all)
all_and p e es false h = rw (h, all)

pub any_or : (p : Entry → Bool) (e : Entry) (es : List Entry) (t : Bool) → p e ≡ t → (p e || any p es) ≡ any p (e ∷ es)
any_or p e es true h = rw (h, any)
any_or p e es false h = rw (h, any)

pub and_true : (a : Bool) → (a && true) ≡ a
and_true true = refl
and_true false = refl

pub or_false : (a : Bool) → (a || false) ≡ a
or_false true = refl
or_false false = refl

pub tally_fine : (t : Tally) (es : List Entry) → (tally t es).fine ≡ (t.fine && all name_fine es)
unfolding noted
tally_fine t [] = sym (and_true t.fine)
tally_fine t (e ∷ es) =
    tally_fine (noted t e) es ∙ and_assoc t.fine (name_fine e) (all name_fine es)
    ∙ ap (λ (b : Bool). t.fine && b) (all_and name_fine e es _ refl)

-- behind the second record first and second stay, and marks are noticed
pub record Behind (t : Tally) (es : List Entry) (u : Tally) : Type 0 where
  pub first : u.first ≡ t.first
  pub second : u.second ≡ t.second
  pub further : u.further ≡ (t.further || any marked es)

pub tally_behind : (t : Tally) (es : List Entry) → 2 ≤ t.records → Behind t es (tally t es)
unfolding noted
tally_behind t [] h = record { first = refl; second = refl; further = sym (or_false t.further) }
tally_behind t (e ∷ es) h =
    let b = tally_behind (noted t e) es (omega arith) in
    let z : t.records ≡ 0 → ⊥ = λ q. omega arith in
    record {
      first = b.first ∙ rw (ne_eqb t.records 0 z);
      second = b.second ∙ rw (lt-leb t.records 1 (omega arith));
      further =
          b.further ∙ rw (lt-ltb 1 t.records (omega arith))
          (or_assoc t.further (marked e) (any marked es) ∙ ap (λ (c : Bool). t.further || c) (any_or marked e es _ refl));
    }

-- ---- of all records

-- two and more
pub two : (x y : Entry) (es : List Entry) → Behind (noted (noted none_yet x) y) es (tally none_yet (x ∷ (y ∷ es)))
unfolding noted
two x y es = tally_behind (noted (noted none_yet x) y) es (omega arith)

pub first_is : (x : Entry) (es : List Entry) → (tally none_yet (x ∷ es)).first ≡ spot_of x
unfolding noted
first_is x [] = refl
first_is x (y ∷ es) = (two x y es).first

pub second_is : (x y : Entry) (es : List Entry) → (tally none_yet (x ∷ (y ∷ es))).second ≡ spot_of y
unfolding noted
second_is x y es = (two x y es).second

further_is : (x y : Entry) (es : List Entry) → (tally none_yet (x ∷ (y ∷ es))).further ≡ any marked es
unfolding noted
further_is x y es = (two x y es).further

-- the head
pub clean_few : (es : List Entry) → length es ≡ 0 → false ≡ head_clean es
clean_few [] h = refl
clean_few (x ∷ es) h = absurd (omega arith)

pub low_is : (image : List ℕ) (es : List Entry) (t : Tally) → t ≡ tally none_yet es → Each (Stands image) es → (length es ≡ 0 → ⊥)
    → (entry_of image t.first).it.low ≡ head_low es
low_is image [] t q f h = absurd (h refl)
low_is image (x ∷ es) t q f h =
    ap (λ (u : Tally). (entry_of image u.first).it.low) q ∙ ap (λ (s : Spot). (entry_of image s).it.low) (first_is x es)
    ∙ ap (λ (e : Entry). e.it.low) f.0

pub clean_is : (image : List ℕ) (es : List Entry) (t : Tally) → t ≡ tally none_yet es → Each (Stands image) es → (length es ≡ 0 → ⊥)
    → is_clean (entry_of image t.first).it.low ≡ head_clean es
clean_is image [] t q f h = absurd (h refl)
clean_is image (x ∷ es) t q f h = ap is_clean (low_is image (x ∷ es) t q f h)

-- the marks
pub marks_few : (es : List Entry) → length es < 2 → true ≡ marks_ok es
unfolding marks_ok
marks_few [] h = refl
marks_few (x ∷ []) h = refl
marks_few (x ∷ (y ∷ es)) h = absurd (omega arith)

and_swap : (a b : Bool) → (a && b) ≡ (b && a)
and_swap true true = refl
and_swap true false = refl
and_swap false true = refl
and_swap false false = refl

-- the code looks at what stands further on first
pub marks_are : (image : List ℕ) (es : List Entry) (t : Tally) → t ≡ tally none_yet es → Each (Stands image) es → 2 ≤ length es
    → (not t.further && second_ok es (entry_of image t.first) (entry_of image t.second)) ≡ marks_ok es
unfolding marks_ok
marks_are image [] t q f h = absurd (omega arith)
marks_are image (x ∷ []) t q f h = absurd (omega arith)
marks_are image (x ∷ (y ∷ es)) t q f h =
    let all : List Entry = x ∷ (y ∷ es) in
    let a : entry_of image t.first ≡ x = ap (λ (u : Tally). entry_of image u.first) q ∙ ap (entry_of image) (first_is x (y ∷ es))
    ∙ f.0 in
    let b : entry_of image t.second ≡ y = ap (λ (u : Tally). entry_of image u.second) q ∙ ap (entry_of image) (second_is x y es)
    ∙ f.1.0 in
    let c : t.further ≡ any marked es = ap (λ (u : Tally). u.further) q ∙ further_is x y es in
    ap₂ (λ (v : Bool) (w : Bool). not v && w) c (ap₂ (second_ok all) a b) ∙ and_swap (not (any marked es)) (second_ok all x y)

pub pending_is : (t : Tally) (e : Entry) (es : List Entry) → (tally t (e ∷ es)).pending ≡ last_pending e es
unfolding noted
pending_is t e [] = refl
pending_is t e (f ∷ es) = pending_is (noted t e) f es
