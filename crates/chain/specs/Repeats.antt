-- Names that stand twice among the FC and F8 records, one record after the other: each against those before it.
use Rattle.std.specs.Prelude.{ℕ, ◌≡◌, Bool, ◌&&◌, ◌||◌, not, List, [], ◌∷◌, ◌++◌, eqb}
use Rattle.std.proofs.Math.Path.{refl, ap₂}
use Rattle.std.proofs.Common.{sym, ap, ◌∙◌, eqb-true}
use Rattle.std.proofs.Math.Bool.{true, false}
use Rattle.spec.specs.Basics.{any, same, empty}
use Rattle.spec.specs.Record.{Entry, name_of}
use Rattle.spec.specs.Files.{same_name, named, named_as, has_named, superseded, doubled}
use Rattle.spec.specs.Reading.{single}
use Rattle.chain.specs.declared.Earlier.{Earlier}
use Rattle.chain.specs.declared.Repeats.{Repeats}
use Rattle.chain.specs.FileLaws.{is_file}
use Rattle.chain.specs.TallyLaws.{any_or, or_false}
use Rattle.laws.specs.Tests.{wrong, and_left, iff}
use Rattle.laws.specs.Lists.{same_is}

abbrev pub repeats_of : List Entry → Repeats
repeats_of es = record { doubled = doubled 0xFC es || doubled 0xF8 es; superseded = any (superseded es) es }

-- which records of e's name stand among es
abbrev pub earlier_of : List Entry → Entry → Earlier
earlier_of es e = record { committed = has_named 0xFC es e; migrating = has_named 0xF8 es e }

-- with one record more, an FC or an F8, of whose name f stands before it
abbrev pub repeats_with : Repeats → Bool → Earlier → Repeats
repeats_with n true f = record { doubled = n.doubled || f.committed; superseded = n.superseded || f.migrating }
repeats_with n false f = record { doubled = n.doubled || f.migrating; superseded = n.superseded || f.committed }

-- ---- one record more at the end of a list

-- of the first of a list, x, and the last, e: a is what is asked of x, b whether one between has x's name, n what is asked of e, s whether
-- x and e have one name, d whether two of those between clash, h whether one between has e's name
pairs : (a b n s d h : Bool) → ((a && (b || (n && s))) || (d || (n && h))) ≡ (((a && b) || d) || (n && ((a && s) || h)))
pairs false b n s d h = refl
pairs true true n s d h = refl
pairs true false false s true h = refl
pairs true false false s false h = refl
pairs true false true true true h = refl
pairs true false true true false h = refl
pairs true false true false d h = refl

any_last : (p : Entry → Bool) (es : List Entry) (e : Entry) → any p (es ++ e ∷ []) ≡ (any p es || p e)
any_last p [] e = go (p e) refl where
  go : (t : Bool) → p e ≡ t → any p (e ∷ []) ≡ p e
  go true h = rw (any, h)
  go false h = rw (any, h)
any_last p (x ∷ es) e = go (p x) refl (any_last p es e) where
  go : (t : Bool) → p x ≡ t → any p (es ++ e ∷ []) ≡ (any p es || p e) → any p (x ∷ (es ++ e ∷ [])) ≡ (any p (x ∷ es) || p e)
  go true h ih = rw (any, h)
  go false h ih = rw (any, h) ih

named_last : (st : ℕ) (es : List Entry) (x e : Entry) → has_named st (es ++ e ∷ []) x ≡ (has_named st es x || named_as st x e)
unfolding has_named
named_last st es x e = any_last (named_as st x) es e

same_turn : (a b : List ℕ) → same a b ≡ true → same b a ≡ true
same_turn a b h = let q : a ≡ b = same_is a b h in rw q (rw q at h)

pub same_swap : (a b : List ℕ) → same a b ≡ same b a
same_swap a b = iff (same a b) (same b a) (same_turn a b) (same_turn b a)

doubled_or : (st : ℕ) (x : Entry) (es : List Entry) (t : Bool) → (named st x && has_named st es x) ≡ t
    → doubled st (x ∷ es) ≡ ((named st x && has_named st es x) || doubled st es)
unfolding doubled
doubled_or st x es true h = rw (doubled, h)
doubled_or st x es false h = rw (doubled, h)

named_or : (st : ℕ) (x : Entry) (es : List Entry) (e : Entry)
    → has_named st (x ∷ es) e ≡ ((named st x && same_name x e) || has_named st es e)
unfolding has_named
named_or st x es e =
    sym (any_or (named_as st e) x es _ refl)
    ∙ ap (λ (b : Bool). (named st x && b) || any (named_as st e) es) (same_swap (name_of e) (name_of x))

pub doubled_last : (st : ℕ) (es : List Entry) (e : Entry) → doubled st (es ++ e ∷ []) ≡ (doubled st es || (named st e && has_named st es e))
unfolding doubled has_named
doubled_last st [] e = go (named st e) refl where
  go : (t : Bool) → named st e ≡ t → doubled st (e ∷ []) ≡ (named st e && false)
  go true h = rw (doubled, h)
  go false h = rw (doubled, h)
doubled_last st (x ∷ es) e =
    doubled_or st x (es ++ e ∷ []) _ refl
    ∙ ap₂ (λ (b c : Bool). (named st x && b) || c) (named_last st es x e) (doubled_last st es e)
    ∙ pairs (named st x) (has_named st es x) (named st e) (same_name x e) (doubled st es) (has_named st es e)
    ∙ sym (ap₂ (λ (b c : Bool). b || (named st e && c)) (doubled_or st x es _ refl) (named_or st x es e))

-- the records xs against those of es and against e
over_last : (es : List Entry) (e : Entry) (xs : List Entry)
    → any (superseded (es ++ e ∷ [])) xs ≡ (any (superseded es) xs || (named 0xFC e && has_named 0xF8 xs e))
unfolding superseded has_named
over_last es e [] = go (named 0xFC e) where
  go : (t : Bool) → false ≡ (t && false)
  go true = refl
  go false = refl
over_last es e (x ∷ xs) =
    sym (any_or (superseded (es ++ e ∷ [])) x xs _ refl)
    ∙ ap₂ (λ (b c : Bool). (named 0xF8 x && b) || c) (named_last 0xFC es x e) (over_last es e xs)
    ∙ pairs (named 0xF8 x) (has_named 0xFC es x) (named 0xFC e) (same_name x e) (any (superseded es) xs) (has_named 0xF8 xs e)
    ∙ sym (ap₂ (λ (b c : Bool). b || (named 0xFC e && c)) (sym (any_or (superseded es) x xs _ refl)) (named_or 0xF8 x xs e))

-- no record has two statuses
one_status : (e : Entry) → named 0xFC e ≡ true → named 0xF8 e ≡ false
unfolding named
one_status e h =
    let q : e.it.status ≡ 0xFC = eqb-true e.it.status 0xFC (and_left (eqb e.it.status 0xFC) (not (empty (name_of e))) h) in
    rw q

module _ (es : List Entry) (e : Entry) where
  -- e against itself
  self_none : (t : Bool) → named 0xFC e ≡ t
      → (named 0xF8 e && (has_named 0xFC es e || (named 0xFC e && same_name e e))) ≡ (named 0xF8 e && has_named 0xFC es e)
  self_none true h = rw (one_status e h)
  self_none false h = rw h (ap (λ (b : Bool). named 0xF8 e && b) (or_false (has_named 0xFC es e)))

  superseded_last : any (superseded (es ++ e ∷ [])) (es ++ e ∷ []) ≡ ((any (superseded es) es || (named 0xFC e && has_named 0xF8 es e))
      || (named 0xF8 e && has_named 0xFC es e))
  unfolding superseded
  superseded_last =
      any_last (superseded (es ++ e ∷ [])) es e
      ∙ ap₂ (λ (b c : Bool). b || c) (over_last es e es)
      (ap (λ (b : Bool). named 0xF8 e && b) (named_last 0xFC es e e) ∙ self_none _ refl)

-- ---- what the code carries along

pub repeats_none : repeats_of [] ≡ record { doubled = false; superseded = false }
unfolding doubled
repeats_none = refl

or_move : (a b c : Bool) → ((a || c) || b) ≡ ((a || b) || c)
or_move true b c = refl
or_move false true true = refl
or_move false true false = refl
or_move false false true = refl
or_move false false false = refl

or_inner : (a b c : Bool) → (a || (b || c)) ≡ ((a || b) || c)
or_inner true b c = refl
or_inner false b c = refl

abbrev both : Bool → Bool → Repeats
both d s = record { doubled = d; superseded = s }

module _ (es : List Entry) (e : Entry) where
  dc : Bool
  dc = doubled 0xFC es

  d8 : Bool
  d8 = doubled 0xF8 es

  so : Bool
  so = any (superseded es) es

  last_of : (n m : Bool) → named 0xFC e ≡ n → named 0xF8 e ≡ m
      → repeats_of (es ++ e ∷ []) ≡ both ((dc || (n && has_named 0xFC es e)) || (d8 || (m && has_named 0xF8 es e)))
      ((so || (n && has_named 0xF8 es e)) || (m && has_named 0xFC es e))
  unfolding dc d8 so
  last_of n m h g = rw (doubled_last 0xFC es e, doubled_last 0xF8 es e, superseded_last es e, h, g)

  more_fc : named 0xFC e ≡ true → repeats_of (es ++ e ∷ []) ≡ repeats_with (repeats_of es) true (earlier_of es e)
  unfolding dc d8 so
  more_fc h =
      last_of true false h (one_status e h)
      ∙ ap₂ both (ap (λ (b : Bool). (dc || has_named 0xFC es e) || b) (or_false d8) ∙ or_move dc d8 (has_named 0xFC es e))
      (or_false (so || has_named 0xF8 es e))

  more_f8 : named 0xFC e ≡ false → named 0xF8 e ≡ true → repeats_of (es ++ e ∷ []) ≡ repeats_with (repeats_of es) false (earlier_of es e)
  unfolding dc d8 so
  more_f8 h g =
      last_of false true h g
      ∙ ap₂ both (ap (λ (b : Bool). b || (d8 || has_named 0xF8 es e)) (or_false dc) ∙ or_inner dc d8 (has_named 0xF8 es e))
      (ap (λ (b : Bool). b || has_named 0xFC es e) (or_false so))

  -- a record that is no file
  none_more : named 0xFC e ≡ false → named 0xF8 e ≡ false → repeats_of (es ++ e ∷ []) ≡ repeats_of es
  unfolding dc d8 so
  none_more h g =
      last_of false false h g ∙ ap₂ both (ap₂ (λ (b c : Bool). b || c) (or_false dc) (or_false d8)) (or_false (so || false) ∙ or_false so)

  pub repeats_same : is_file e ≡ false → repeats_of (es ++ e ∷ []) ≡ repeats_of es
  unfolding is_file
  repeats_same h = go (named 0xFC e) (named 0xF8 e) refl refl where
    go : (n m : Bool) → named 0xFC e ≡ n → named 0xF8 e ≡ m → repeats_of (es ++ e ∷ []) ≡ repeats_of es
    go true m p q = wrong (sym (rw p at h))
    go false true p q = wrong (sym (rw (p, q) at h))
    go false false p q = none_more p q

  pub repeats_more : (n : Bool) → is_file e ≡ true → n ≡ named 0xFC e
      → repeats_of (es ++ e ∷ []) ≡ repeats_with (repeats_of es) n (earlier_of es e)
  unfolding is_file
  repeats_more true h p = more_fc (sym p)
  repeats_more false h p = more_f8 (sym p) (rw (sym p) at h)

-- nothing stands before it
pub repeats_first : (n : Repeats) (t : Bool) (f : Earlier) → f.committed ≡ false → f.migrating ≡ false → repeats_with n t f ≡ n
repeats_first n true f h g = rw (h, g) (ap₂ both (or_false n.doubled) (or_false n.superseded))
repeats_first n false f h g = rw (h, g) (ap₂ both (or_false n.doubled) (or_false n.superseded))

-- ---- what all records say

pub single_by : {n : Repeats} (es : List Entry) (t : Bool) → n ≡ repeats_of es → n.doubled ≡ t → single es ≡ not t
unfolding single
single_by {n} es t e h = go (doubled 0xFC es) (doubled 0xF8 es) ∙ ap not (ap (λ (r : Repeats). r.doubled) (sym e) ∙ h) where
  go : (a b : Bool) → (not a && not b) ≡ not (a || b)
  go true b = refl
  go false b = refl
