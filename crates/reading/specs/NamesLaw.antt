-- "a live name that breaks the name rule": it is enough to look at every FC and F8 record with a name, since one that is
-- superseded shares its name with a live one. And where none is superseded, these records are the live files.
use Rattle.std.specs.Prelude.{◌≡◌, Bool, List, [], ◌∷◌}
use Rattle.std.proofs.Math.Path.{refl}
use Rattle.std.proofs.Common.{sym, ap, ◌∙◌}
use Rattle.std.proofs.Math.Bool.{true, false}
use Rattle.spec.specs.Basics.{any, all, keep, same}
use Rattle.spec.specs.Record.{Entry, name_of, name_ok}
use Rattle.spec.specs.Files.{named, named_as, has_named, live, superseded, files}
use Rattle.spec.specs.Reading.{name_legal, names_ok}
use Rattle.chain.specs.FileLaws.{is_file}
use Rattle.chain.specs.Tally.{name_fine}
use Rattle.laws.specs.Tests.{wrong, and_left, and_right, iff}
use Rattle.laws.specs.Lists.{same_is}

-- ---- tests that hold together

all_first : (p : Entry → Bool) (x : Entry) (xs : List Entry) (t : Bool) → p x ≡ t → all p (x ∷ xs) ≡ true → p x ≡ true
all_first p x xs true e h = e
all_first p x xs false e h = wrong (rw (e, all) at h)

all_rest : (p : Entry → Bool) (x : Entry) (xs : List Entry) (t : Bool) → p x ≡ t → all p (x ∷ xs) ≡ true → all p xs ≡ true
all_rest p x xs true e h = rw (e, all) at h
all_rest p x xs false e h = wrong (rw (e, all) at h)

all_both : (p : Entry → Bool) (x : Entry) (xs : List Entry) → p x ≡ true → all p xs ≡ true → all p (x ∷ xs) ≡ true
all_both p x xs e h = rw (e, all) h

-- ---- the names

module _ (es : List Entry) where
  legal_live : (e : Entry) → live es e ≡ true → name_legal es e ≡ true → name_ok (name_of e) ≡ true
  unfolding name_legal
  legal_live e l h = rw (l, name_legal) at h

  live_fc : (e : Entry) → named 0xFC e ≡ true → live es e ≡ true
  unfolding live
  live_fc e h = rw (h, live)

  -- an FC of e's name among legal records: e's name is good
  shared : (e : Entry) (xs : List Entry) → all (name_legal es) xs ≡ true → any (named_as 0xFC e) xs ≡ true → name_ok (name_of e) ≡ true
  shared e [] h a = wrong a
  shared e (x ∷ xs) h a = go (named_as 0xFC e x) refl (shared e xs (all_rest (name_legal es) x xs _ refl h)) where
    go : (t : Bool) → named_as 0xFC e x ≡ t → (any (named_as 0xFC e) xs ≡ true → name_ok (name_of e) ≡ true) → name_ok (name_of e) ≡ true
    go true q ih =
        let f : named 0xFC x ≡ true = and_left (named 0xFC x) (same (name_of e) (name_of x)) q in
        let s : name_of e ≡ name_of x = same_is (name_of e) (name_of x) (and_right (named 0xFC x) (same (name_of e) (name_of x)) q) in
        ap name_ok s ∙ legal_live x (live_fc x f) (all_first (name_legal es) x xs _ refl h)
    go false q ih = ih (rw (q, any) at a)

  fine_one : (e : Entry) → all (name_legal es) es ≡ true → name_legal es e ≡ true → name_fine e ≡ true
  unfolding name_fine is_file live has_named
  fine_one e h l = go (named 0xFC e) (named 0xF8 e) (has_named 0xFC es e) refl refl refl where
    go : (a b c : Bool) → named 0xFC e ≡ a → named 0xF8 e ≡ b → has_named 0xFC es e ≡ c → name_fine e ≡ true
    go true b c p q r = rw (name_fine, is_file, p) (legal_live e (live_fc e p) l)
    go false true true p q r = rw (name_fine, is_file, p, q) (shared e es h r)
    go false true false p q r = rw (name_fine, is_file, p, q) (legal_live e (rw (live, p, q, r)) l)
    go false false c p q r = rw (name_fine, is_file, p, q)

  legal_one : (e : Entry) → name_fine e ≡ true → name_legal es e ≡ true
  unfolding name_fine is_file name_legal live
  legal_one e h = go (named 0xFC e) (named 0xF8 e) (has_named 0xFC es e) refl refl refl where
    go : (a b c : Bool) → named 0xFC e ≡ a → named 0xF8 e ≡ b → has_named 0xFC es e ≡ c → name_legal es e ≡ true
    go true b c p q r = rw (name_legal, live, p) (rw (name_fine, is_file, p) at h)
    go false true true p q r = rw (name_legal, live, p, q, r)
    go false true false p q r = rw (name_legal, live, p, q, r) (rw (name_fine, is_file, p, q) at h)
    go false false c p q r = rw (name_legal, live, p, q)

  all_fine : (xs : List Entry) → all (name_legal es) es ≡ true → all (name_legal es) xs ≡ true → all name_fine xs ≡ true
  all_fine [] h l = refl
  all_fine (x ∷ xs) h l =
      all_both name_fine x xs (fine_one x h (all_first (name_legal es) x xs _ refl l))
      (all_fine xs h (all_rest (name_legal es) x xs _ refl l))

  all_legal : (xs : List Entry) → all name_fine xs ≡ true → all (name_legal es) xs ≡ true
  all_legal [] h = refl
  all_legal (x ∷ xs) h =
      all_both (name_legal es) x xs (legal_one x (all_first name_fine x xs _ refl h)) (all_legal xs (all_rest name_fine x xs _ refl h))

  pub names_are : all name_fine es ≡ names_ok es
  unfolding names_ok
  names_are = iff (all name_fine es) (all (name_legal es) es) (all_legal es) (λ h. all_fine es h h)

  -- ---- live files where none is superseded

  live_one : (e : Entry) → superseded es e ≡ false → live es e ≡ is_file e
  unfolding live is_file superseded
  live_one e h = go (named 0xFC e) (named 0xF8 e) (has_named 0xFC es e) refl refl refl where
    go : (a b c : Bool) → named 0xFC e ≡ a → named 0xF8 e ≡ b → has_named 0xFC es e ≡ c → live es e ≡ is_file e
    go true b c p q r = rw (live, is_file, p)
    go false true true p q r = wrong (sym (rw (superseded, q, r) at h))
    go false true false p q r = rw (live, is_file, p, q, r)
    go false false c p q r = rw (live, is_file, p, q)

  keep_live : (xs : List Entry) → any (superseded es) xs ≡ false → keep (live es) xs ≡ keep is_file xs
  keep_live [] h = refl
  keep_live (x ∷ xs) h = go (superseded es x) (is_file x) refl refl (keep_live xs) where
    go : (s t : Bool) → superseded es x ≡ s → is_file x ≡ t → (any (superseded es) xs ≡ false → keep (live es) xs ≡ keep is_file xs)
        → keep (live es) (x ∷ xs) ≡ keep is_file (x ∷ xs)
    go true t p q ih = wrong (sym (rw (p, any) at h))
    go false true p q ih = let l : live es x ≡ true = live_one x p ∙ q in
        rw (keep, l, q) (ap (λ (k : List Entry). x ∷ k) (ih (rw (p, any) at h)))
    go false false p q ih = let l : live es x ≡ false = live_one x p ∙ q in rw (keep, l, q) (ih (rw (p, any) at h))

  pub files_are : any (superseded es) es ≡ false → files es ≡ keep is_file es
  files_are h = keep_live es h
