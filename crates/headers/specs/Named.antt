-- Where no F8 record has an FC record of its name, the file of a name is the first FC record of the name, else the first F8.
use Rattle.std.specs.Prelude.{ℕ, ◌≡◌, Bool, ◌&&◌, ◌||◌}
use Rattle.std.proofs.Math.Path.{refl, sym, ap}
use Rattle.std.proofs.Common.{◌∙◌, eq-eqb}
use Rattle.std.proofs.Math.Bool.{true, false}
use Rattle.std.proofs.Math.Option.{none, some}
use mathlib.Core.List.{List, [], ◌∷◌}
use Rattle.spec.specs.Basics.{same, any, keep, first_such}
use Rattle.spec.specs.Record.{Entry, name_of}
use Rattle.spec.specs.Files.{named, named_as, has_named, superseded, has_name, file_named}
use Rattle.spec.specs.Length.{of_name}
use Rattle.laws.specs.Tests.{wrong}
use Rattle.laws.specs.Lists.{same_is}
use Rattle.chain.specs.FileLaws.{is_file}
use Rattle.reading.specs.NamesLaw.{files_are}

pub same_self : (s : List ℕ) → same s s ≡ true
unfolding same
same_self [] = refl
same_self (x ∷ s) = rw (eq-eqb x x refl, same) (same_self s)

-- ---- a test of the kept ones is one test

module _ (name : List ℕ) where
  -- an FC or F8 record of the name
  either_of : Entry → Bool
  either_of e = of_name 0xFC name e || of_name 0xF8 name e

  either_is : (e : Entry) → either_of e ≡ (is_file e && has_name name e)
  unfolding either_of of_name is_file
  either_is e = go (named 0xFC e) (named 0xF8 e) (has_name name e) refl refl refl where
    go : (a b c : Bool) → named 0xFC e ≡ a → named 0xF8 e ≡ b → has_name name e ≡ c → either_of e ≡ (is_file e && has_name name e)
    go true b true p q r = rw (p, r)
    go true true false p q r = rw (p, q, r)
    go true false false p q r = rw (p, q, r)
    go false true c p q r = rw (p, q, r)
    go false false c p q r = rw (p, q)

  first_kept : (es : List Entry) → first_such (has_name name) (keep is_file es) ≡ first_such either_of es
  first_kept [] = refl
  first_kept (x ∷ es) = go (is_file x) (has_name name x) refl refl (first_kept es) where
    go : (a b : Bool) → is_file x ≡ a → has_name name x ≡ b → first_such (has_name name) (keep is_file es) ≡ first_such either_of es
        → first_such (has_name name) (keep is_file (x ∷ es)) ≡ first_such either_of (x ∷ es)
    go true true p q ih = rw (keep, p, first_such, q, either_is x, p, q)
    go true false p q ih = rw (keep, p, first_such, q, either_is x, p, q) ih
    go false b p q ih = rw (keep, p, first_such, either_is x, p) ih

  -- ---- of the two statuses one alone

  only_fc : (es : List Entry) → any (of_name 0xF8 name) es ≡ false → first_such either_of es ≡ first_such (of_name 0xFC name) es
  unfolding either_of
  only_fc [] h = refl
  only_fc (x ∷ es) h = go (of_name 0xFC name x) (of_name 0xF8 name x) refl refl (only_fc es) where
    go : (a b : Bool) → of_name 0xFC name x ≡ a → of_name 0xF8 name x ≡ b
        → (any (of_name 0xF8 name) es ≡ false → first_such either_of es ≡ first_such (of_name 0xFC name) es)
        → first_such either_of (x ∷ es) ≡ first_such (of_name 0xFC name) (x ∷ es)
    go a true p q ih = wrong (sym (rw (any, q) at h))
    go true false p q ih = rw (first_such, p)
    go false false p q ih = rw (first_such, p, q) (ih (rw (any, q) at h))

  only_f8 : (es : List Entry) → any (of_name 0xFC name) es ≡ false → first_such either_of es ≡ first_such (of_name 0xF8 name) es
  unfolding either_of
  only_f8 [] h = refl
  only_f8 (x ∷ es) h = go (of_name 0xFC name x) (of_name 0xF8 name x) refl refl (only_f8 es) where
    go : (a b : Bool) → of_name 0xFC name x ≡ a → of_name 0xF8 name x ≡ b
        → (any (of_name 0xFC name) es ≡ false → first_such either_of es ≡ first_such (of_name 0xF8 name) es)
        → first_such either_of (x ∷ es) ≡ first_such (of_name 0xF8 name) (x ∷ es)
    go true b p q ih = wrong (sym (rw (any, p) at h))
    go false true p q ih = rw (first_such, p, q)
    go false false p q ih = rw (first_such, p, q) (ih (rw (any, p) at h))

  pub none_first : (f : Entry → Bool) (es : List Entry) → any f es ≡ false → first_such f es ≡ none
  none_first f [] h = refl
  none_first f (x ∷ es) h = go (f x) refl (none_first f es) where
    go : (t : Bool) → f x ≡ t → (any f es ≡ false → first_such f es ≡ none) → first_such f (x ∷ es) ≡ none
    go true e ih = wrong (sym (rw (any, e) at h))
    go false e ih = rw (first_such, e) (ih (rw (any, e) at h))

  pub record First (f : Entry → Bool) (es : List Entry) : Type 0 where
    pub it : Entry
    pub is : first_such f es ≡ some it

  pub some_first : (f : Entry → Bool) (es : List Entry) → any f es ≡ true → First f es
  some_first f [] h = wrong h
  some_first f (x ∷ es) h = go (f x) refl (some_first f es) where
    go : (t : Bool) → f x ≡ t → (any f es ≡ true → First f es) → First f (x ∷ es)
    go true e ih = record { it = x; is = rw (first_such, e) }
    go false e ih = let r = ih (rw (any, e) at h) in record { it = r.it; is = rw (first_such, e) r.is }

  -- ---- an F8 record of a name that an FC record has is superseded

  module _ (x : Entry) (same-as : has_name name x ≡ true) where
    shared : (es : List Entry) → any (of_name 0xFC name) es ≡ true → any (named_as 0xFC x) es ≡ true
    unfolding of_name
    shared [] h = h
    shared (e ∷ es) h = go (named 0xFC e) (has_name name e) (named_as 0xFC x e) refl refl refl (shared es) where
      go : (a b c : Bool) → named 0xFC e ≡ a → has_name name e ≡ b → named_as 0xFC x e ≡ c
          → (any (of_name 0xFC name) es ≡ true → any (named_as 0xFC x) es ≡ true) → any (named_as 0xFC x) (e ∷ es) ≡ true
      go a b true p q r ih = rw (any, r)
      go true true false p q r ih =
          let s : name_of x ≡ name_of e = same_is (name_of x) name same-as ∙ sym (same_is (name_of e) name q) in
          let t : same (name_of x) (name_of e) ≡ true = ap (λ (k : List ℕ). same (name_of x) k) (sym s) ∙ same_self (name_of x) in
          wrong (sym r ∙ rw (p, t))
      go true false false p q r ih = rw (any, r) (ih (rw (any, of_name, p, q) at h))
      go false b false p q r ih = rw (any, r) (ih (rw (any, of_name, p) at h))

  lone_in : (es xs : List Entry) → any (of_name 0xFC name) es ≡ true → any (superseded es) xs ≡ false → any (of_name 0xF8 name) xs ≡ false
  unfolding of_name superseded has_named
  lone_in es [] f h = refl
  lone_in es (x ∷ xs) f h = go (named 0xF8 x) (has_name name x) (superseded es x) refl refl refl (lone_in es xs f) where
    go : (a b c : Bool) → named 0xF8 x ≡ a → has_name name x ≡ b → superseded es x ≡ c
        → (any (superseded es) xs ≡ false → any (of_name 0xF8 name) xs ≡ false) → any (of_name 0xF8 name) (x ∷ xs) ≡ false
    go a b true p q r ih = wrong (sym (rw (any, r) at h))
    go true true false p q r ih = wrong (sym r ∙ rw (superseded, p, has_named, shared x q es f))
    go true false false p q r ih = rw (any, of_name, p, q) (ih (rw (any, r) at h))
    go false b false p q r ih = rw (any, of_name, p) (ih (rw (any, r) at h))

  -- ---- the file of the name

  module _ (es : List Entry) (quiet : any (superseded es) es ≡ false) where
    file_is : file_named name es ≡ first_such either_of es
    unfolding file_named
    file_is = ap (first_such (has_name name)) (files_are es quiet) ∙ first_kept es

    pub file_fc : any (of_name 0xFC name) es ≡ true → file_named name es ≡ first_such (of_name 0xFC name) es
    file_fc f = file_is ∙ only_fc es (lone_in es es f quiet)

    pub file_f8 : any (of_name 0xFC name) es ≡ false → file_named name es ≡ first_such (of_name 0xF8 name) es
    file_f8 f = file_is ∙ only_f8 es f
