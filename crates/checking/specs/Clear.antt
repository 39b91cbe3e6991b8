-- Which images have no fault: each search for a fault finds none exactly if the rule of the reading holds.
use Rattle.std.specs.Prelude.{ℕ, Option, Some, None, ◌+◌, ◌≡◌, Bool, ◌&&◌, ◌||◌, eqb}
use Rattle.std.proofs.Math.Path.{refl, sym, ap}
use Rattle.std.proofs.Common.{ap₂, ◌∙◌}
use Rattle.std.proofs.Math.Bool.{true, false, not}
use mathlib.Core.List.{List, [], ◌∷◌, ◌++◌, append-nil, append_assoc}
use Rattle.spec.specs.declared.Ending.{Ending}
use Rattle.spec.specs.declared.Place.{Place}
use Rattle.spec.specs.declared.Fault.{Fault}
use Rattle.spec.specs.Step.{Image}
use Rattle.spec.specs.Basics.{blank, part, any, all}
use Rattle.spec.specs.Geometry.{floor}
use Rattle.spec.specs.Bytes.{is_unfinished}
use Rattle.spec.specs.Record.{Entry}
use Rattle.spec.specs.Chain.{Reading}
use Rattle.spec.specs.Files.{named, has_named, doubled}
use Rattle.spec.specs.Reading.{limit, blank_part, free_blank, tail_blank, head_clean, free_ok}
use Rattle.spec.specs.Reading.{whole, marked, second_ok, marks_ok, name_legal}
use Rattle.spec.specs.Reading.{names_ok, single}
use Rattle.spec.specs.Fault.{unfinished_wrong, repeated, name_wrong, mark_wrong, record_fault, chain_fault}
use Rattle.spec.specs.Fault.{dirt, dirt_part, run_fault, free_fault}
use Rattle.chain.specs.Repeats.{doubled_last}

-- nothing was found
abbrev pub clear : Option Fault → Bool
clear None = true
clear (Some f) = false

and_true : (b : Bool) → (b && true) ≡ b
and_true true = refl
and_true false = refl

and_false : (b : Bool) → (b && false) ≡ false
and_false true = refl
and_false false = refl

and_swap : (a b : Bool) → (a && b) ≡ (b && a)
and_swap true b = sym (and_true b)
and_swap false b = sym (and_false b)

-- ---- the free run

pub dirt_clear : (a : ℕ) (s : List ℕ) → clear (dirt a s) ≡ blank s
unfolding dirt blank
dirt_clear a [] = refl
dirt_clear a (b ∷ s) = go (eqb b 0xFF) refl (dirt_clear (a + 1) s) where
  go : (t : Bool) → eqb b 0xFF ≡ t → clear (dirt (a + 1) s) ≡ blank s → clear (dirt a (b ∷ s)) ≡ blank (b ∷ s)
  go true e ih = rw (dirt, blank, e) ih
  go false e ih = rw (dirt, blank, e)

module _ (image : Image) (p : Place) where
  below : Bool
  below = blank_part 0 (floor p.head) image

  run_clear : clear (run_fault image p) ≡ free_blank image p
  unfolding run_fault free_blank below
  run_clear = go _ refl p.turned refl (dirt_clear p.tail (part p.tail (limit p) image)) where
    go : (f : Option Fault) → dirt_part p.tail (limit p) image ≡ f → (t : Bool) → p.turned ≡ t
        → clear (dirt_part p.tail (limit p) image) ≡ blank_part p.tail (limit p) image
        → clear (run_fault image p) ≡ free_blank image p
    go None e true t h = rw (run_fault, e, free_blank, t) (rw t at (rw e at h))
    go None e false t h =
        rw (run_fault, e, free_blank, t)
        (dirt_clear 0 (part 0 (floor p.head) image) ∙ sym (and_true below) ∙ ap (λ (b : Bool). below && b) (rw t at (rw e at h)))
    go (Some f) e true t h = rw (run_fault, e, free_blank, t) (rw t at (rw e at h))
    go (Some f) e false t h =
        rw (run_fault, e, free_blank, t) (sym (and_false below) ∙ ap (λ (b : Bool). below && b) (rw t at (rw e at h)))

pub free_clear : (image : Image) (r : Reading) → clear (free_fault image r) ≡ free_ok image r
unfolding free_fault free_ok tail_blank
free_clear image r = go _ refl where
  go : (t : Bool) → head_clean r.entries ≡ t → clear (free_fault image r) ≡ free_ok image r
  go true e = rw (free_fault, free_ok, e) (dirt_clear r.place.tail _)
  go false e = rw (free_fault, free_ok, e) (run_clear image r.place)

-- ---- the records

module _ (x : Ending) (w : whole x ≡ true) (all_of : List Entry) where
  -- where the chain ends as it may, none is wrongly unfinished
  unfinished_right : (e : Entry) → unfinished_wrong x e ≡ false
  unfolding unfinished_wrong
  unfinished_right e = rw (unfinished_wrong, w) (and_false (is_unfinished e.it.status))

  record_clear : (before : List Entry) (e : Entry)
      → clear (record_fault x all_of before e) ≡ (not (name_wrong all_of before e) && not (mark_wrong all_of before e))
  unfolding record_fault
  record_clear before e = go (name_wrong all_of before e) (mark_wrong all_of before e) refl refl where
    go : (a b : Bool) → name_wrong all_of before e ≡ a → mark_wrong all_of before e ≡ b
        → clear (record_fault x all_of before e) ≡ (not (name_wrong all_of before e) && not (mark_wrong all_of before e))
    go true b p q = rw (record_fault, unfinished_right e, p)
    go false true p q = rw (record_fault, unfinished_right e, p, q)
    go false false p q = rw (record_fault, unfinished_right e, p, q)

-- no record of es has the name and the status of one before it
abbrev none_repeated : List Entry → List Entry → Bool
none_repeated before [] = true
none_repeated before (e ∷ es) = not (repeated before e) && none_repeated (before ++ e ∷ []) es

-- none is a START or CLEAN out of place
abbrev none_marked : List Entry → List Entry → List Entry → Bool
none_marked all_of before [] = true
none_marked all_of before (e ∷ es) = not (mark_wrong all_of before e) && none_marked all_of (before ++ e ∷ []) es

-- n: a good name; r: a repeated one; m: a mark out of place; and the same of the others
three : (n r m a b c : Bool) → ((not (r || not n) && not m) && (a && (b && c))) ≡ ((n && a) && ((not r && b) && (not m && c)))
three true true m a b c = sym (and_false a)
three true false true true true c = refl
three true false true true false c = refl
three true false true false b c = refl
three true false false a b c = refl
three false r m a b c = ap (λ (t : Bool). (not t && not m) && (a && (b && c))) (always r) where
  always : (r : Bool) → (r || true) ≡ true
  always true = refl
  always false = refl

all_more : (p : Entry → Bool) (e : Entry) (es : List Entry) → (p e && all p es) ≡ all p (e ∷ es)
all_more p e es = go (p e) refl where
  go : (t : Bool) → p e ≡ t → (p e && all p es) ≡ all p (e ∷ es)
  go true h = rw (all, h)
  go false h = rw (all, h)

module _ (x : Ending) (w : whole x ≡ true) (all_of : List Entry) where
  chain_clear : (before es : List Entry) → clear (chain_fault x all_of before es)
      ≡ (all (name_legal all_of) es && (none_repeated before es && none_marked all_of before es))
  unfolding chain_fault name_wrong
  chain_clear before [] = refl
  chain_clear before (e ∷ es) =
      go (record_fault x all_of before e) refl (record_clear x w all_of before e) (chain_clear (before ++ e ∷ []) es)
      ∙ three (name_legal all_of e) (repeated before e) (mark_wrong all_of before e) (all (name_legal all_of) es)
      (none_repeated (before ++ e ∷ []) es) (none_marked all_of (before ++ e ∷ []) es)
      ∙ ap (λ (b : Bool). b && (none_repeated before (e ∷ es) && none_marked all_of before (e ∷ es))) (all_more (name_legal all_of) e es)
    where
      go : (f : Option Fault) → record_fault x all_of before e ≡ f
          → clear f ≡ (not (name_wrong all_of before e) && not (mark_wrong all_of before e))
          → clear (chain_fault x all_of (before ++ e ∷ []) es)
          ≡ (all (name_legal all_of) es && (none_repeated (before ++ e ∷ []) es && none_marked all_of (before ++ e ∷ []) es))
          → clear (chain_fault x all_of before (e ∷ es))
          ≡ ((not (repeated before e || not (name_legal all_of e)) && not (mark_wrong all_of before e))
          && (all (name_legal all_of) es && (none_repeated (before ++ e ∷ []) es && none_marked all_of (before ++ e ∷ []) es)))
      go None h q ih =
          rw (chain_fault, h)
          (ih ∙ ap (λ (b : Bool). b && (all (name_legal all_of) es
          && (none_repeated (before ++ e ∷ []) es && none_marked all_of (before ++ e ∷ []) es))) q)
      go (Some f) h q ih =
          rw (chain_fault, h)
          (ap (λ (b : Bool). b && (all (name_legal all_of) es
          && (none_repeated (before ++ e ∷ []) es && none_marked all_of (before ++ e ∷ []) es))) q)

-- ---- repeated names: those before and es together

twice : List Entry → Bool
twice es = doubled 0xFC es || doubled 0xF8 es

-- d, f: two FC, two F8 before e; c, m: e is an FC, an F8 that stands there before
one_more : (d f c m : Bool) → not ((d || c) || (f || m)) ≡ (not (d || f) && not (c || m))
one_more true f c m = refl
one_more false true true m = refl
one_more false true false m = refl
one_more false false true m = refl
one_more false false false m = refl

twice_last : (es : List Entry) (e : Entry) → not (twice (es ++ e ∷ [])) ≡ (not (twice es) && not (repeated es e))
unfolding twice repeated
twice_last es e =
    rw (doubled_last 0xFC es e, doubled_last 0xF8 es e)
    (one_more (doubled 0xFC es) (doubled 0xF8 es) (named 0xFC e && has_named 0xFC es e) (named 0xF8 e && has_named 0xF8 es e))

pub and_assoc : (a b c : Bool) → (a && (b && c)) ≡ ((a && b) && c)
and_assoc true b c = refl
and_assoc false b c = refl

repeated_none : (before es : List Entry) → (not (twice before) && none_repeated before es) ≡ not (twice (before ++ es))
repeated_none before [] = and_true (not (twice before)) ∙ ap (λ (l : List Entry). not (twice l)) (sym (append-nil before))
repeated_none before (e ∷ es) =
    and_assoc (not (twice before)) (not (repeated before e)) (none_repeated (before ++ e ∷ []) es)
    ∙ ap (λ (b : Bool). b && none_repeated (before ++ e ∷ []) es) (sym (twice_last before e))
    ∙ repeated_none (before ++ e ∷ []) es
    ∙ ap (λ (l : List Entry). not (twice l)) (append_assoc before (e ∷ []) es)

single_clear : (es : List Entry) → none_repeated [] es ≡ single es
unfolding twice single doubled
single_clear es = repeated_none [] es ∙ neither (doubled 0xFC es) (doubled 0xF8 es) where
  neither : (a b : Bool) → not (a || b) ≡ (not a && not b)
  neither true b = refl
  neither false b = refl

-- ---- marks

marked_more : (e : Entry) (es : List Entry) → (not (marked e) && not (any marked es)) ≡ not (any marked (e ∷ es))
marked_more e es = go (marked e) refl where
  go : (t : Bool) → marked e ≡ t → (not (marked e) && not (any marked es)) ≡ not (any marked (e ∷ es))
  go true h = rw (any, h)
  go false h = rw (any, h)

-- behind the second record
further_clear : (all_of : List Entry) (x y : Entry) (before es : List Entry)
    → none_marked all_of (x ∷ (y ∷ before)) es ≡ not (any marked es)
unfolding mark_wrong
further_clear all_of x y before [] = refl
further_clear all_of x y before (e ∷ es) =
    ap (λ (b : Bool). not (marked e) && b) (further_clear all_of x y (before ++ e ∷ []) es) ∙ marked_more e es

twice_not : (b : Bool) → not (not b) ≡ b
twice_not true = refl
twice_not false = refl

marks_clear : (es : List Entry) → none_marked es [] es ≡ marks_ok es
unfolding mark_wrong marks_ok
marks_clear [] = refl
marks_clear (x ∷ []) = refl
marks_clear (x ∷ (y ∷ es)) =
    ap₂ (λ (a b : Bool). a && b) (twice_not (second_ok (x ∷ (y ∷ es)) x y)) (further_clear (x ∷ (y ∷ es)) x y [] es)

-- ---- all records of a chain that ends as it may

pub records_clear : (x : Ending) → whole x ≡ true → (es : List Entry)
    → clear (chain_fault x es [] es) ≡ (names_ok es && (single es && marks_ok es))
unfolding names_ok
records_clear x w es =
    chain_clear x w es [] es ∙ ap₂ (λ (a b : Bool). names_ok es && (a && b)) (single_clear es) (marks_clear es)
