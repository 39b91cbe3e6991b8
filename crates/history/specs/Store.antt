-- Records with their addresses (entries), without bytes. Alive is FC or F8 with a name. In a list in which no name is alive twice (Unique)
-- the live files are the records that are alive, and document 01's rules on names, on doubles and on START and CLEAN hold.
use Rattle.std.specs.Prelude.{ℕ, ◌≡◌, refl, Bool, true, false, ◌&&◌, ◌||◌, not, List, [], ◌∷◌, eqb}
use Rattle.std.proofs.Common.{arith, sym, ◌∙◌, ne_eqb, eqb-true}
use Rattle.std.proofs.Math.Bool.{or-true}
use Rattle.std.proofs.lemmas.Bool.{eqb-false}
use Rattle.spec.specs.Basics.{empty, same, any, keep, Each}
use Rattle.spec.specs.Bytes.{is_start, is_clean, is_unfinished}
use Rattle.spec.specs.Record.{name_ok, Entry, name_of}
use Rattle.spec.specs.Files.{same_name, named, named_as, has_named, live, superseded, files, doubled}
use Rattle.spec.specs.Reading.{marked, second_ok, marks_ok, name_legal, names_ok, single}
use Rattle.laws.specs.Tests.{and_left, and_no, or_left, or_right}
use Rattle.laws.specs.Lists.{any_none, each_map, each_both}
use Rattle.history.specs.Lists.{all_each, keep_same, Pairwise, all_pairs}

-- ---- names

-- the order of two names does not matter
pub same_sym : (s t : List ℕ) → same s t ≡ same t s
unfolding same
same_sym [] [] = refl
same_sym [] (y ∷ t) = refl
same_sym (x ∷ s) [] = refl
same_sym (x ∷ s) (y ∷ t) = go (eqb x y) (eqb y x) refl refl (same_sym s t)
  where
    go : (b c : Bool) → eqb x y ≡ b → eqb y x ≡ c → same s t ≡ same t s → same (x ∷ s) (y ∷ t) ≡ same (y ∷ t) (x ∷ s)
    go true true e f i = rw (same, e, f) i
    go false false e f i = rw (same, e, f)
    go true false e f i = absurd (eqb-false y x f (sym (eqb-true x y e)))
    go false true e f i = absurd (eqb-false x y e (sym (eqb-true y x f)))

-- ---- alive

-- FC or F8, with a name; where no name is alive twice this is document 01's live file
unfoldable pub alive : Entry → Bool
alive e = named 0xFC e || named 0xF8 e

-- not both alive with one name
abbrev pub Apart : Entry → Entry → Type 0
Apart e f = alive e ≡ true → alive f ≡ true → same (name_of e) (name_of f) ≡ false

-- no name is alive twice
abbrev pub Unique : List Entry → Type 0
Unique es = Pairwise Apart es

-- FC is alive
pub fc_alive : (e : Entry) → named 0xFC e ≡ true → alive e ≡ true
unfolding alive
fc_alive e h = rw h

-- F8 is alive
pub f8_alive : (e : Entry) → named 0xF8 e ≡ true → alive e ≡ true
unfolding alive
f8_alive e h = rw h (or-true (named 0xFC e))

-- F8 is not FC
pub fc_not_f8 : (e : Entry) → named 0xF8 e ≡ true → named 0xFC e ≡ false
unfolding named
fc_not_f8 e h =
    let k : e.it.status ≡ 0xF8 = eqb-true e.it.status 0xF8 (and_left (eqb e.it.status 0xF8) (not (empty (name_of e))) h) in
    rw (ne_eqb e.it.status 0xFC (λ f. omega arith))

doubled_none : (st : ℕ) → ((e : Entry) → named st e ≡ true → alive e ≡ true) → (es : List Entry) → Unique es → doubled st es ≡ false
unfolding doubled has_named
doubled_none st a [] u = refl
doubled_none st a (e ∷ es) u =
    rw (
      doubled,
      and_no (named st e) (any (named_as st e) es)
          (λ h. any_none (named_as st e) es (each_map es (λ f q. and_no (named st f) (same_name e f) (λ k. q (a e h) (a f k))) u.0)),
    )
    (doubled_none st a es u.1)

-- no name is FC twice, none is F8 twice
pub unique_single : (es : List Entry) → Unique es → single es ≡ true
unfolding single
unique_single es u = rw (single, doubled_none 0xFC fc_alive es u, doubled_none 0xF8 f8_alive es u)

-- no F8 has an FC of its name
abbrev Over : Entry → Entry → Type 0
Over e f = named 0xF8 e ≡ true → named_as 0xFC e f ≡ false

none_over : (es : List Entry) → Unique es → Each (λ e. Each (Over e) es) es
none_over es u =
    all_pairs Over Apart (λ e h. rw (fc_not_f8 e h))
    (λ e f q h. and_no (named 0xFC f) (same_name e f) (λ k. q (f8_alive e h) (fc_alive f k)))
    (λ e f q h. and_no (named 0xFC e) (same_name f e) (λ k. same_sym (name_of f) (name_of e) ∙ q (fc_alive e k) (f8_alive f h)))
    es u

-- no F8 record has an FC of its name
pub no_fc : (es : List Entry) → Unique es → Each (λ e. named 0xF8 e ≡ true → has_named 0xFC es e ≡ false) es
unfolding has_named
no_fc es u = each_map es (λ e h k. any_none (named_as 0xFC e) es (each_map es (λ f o. o k) h)) (none_over es u)

-- document 01's live is alive
pub live_alive : (es : List Entry) → Unique es → Each (λ e. live es e ≡ alive e) es
unfolding live alive
live_alive es u = each_map es (λ e h. go (named 0xFC e) (named 0xF8 e) (has_named 0xFC es e) h) (no_fc es u)
  where
    go : (a b c : Bool) → (b ≡ true → c ≡ false) → (a || (b && not c)) ≡ (a || b)
    go true b c h = refl
    go false true c h = rw (h refl)
    go false false c h = refl

-- the files are the records that are alive
pub files_alive : (es : List Entry) → Unique es → files es ≡ keep alive es
files_alive es u = keep_same (live es) alive es (live_alive es u)

-- no record is superseded
pub none_superseded : (es : List Entry) → Unique es → Each (λ e. superseded es e ≡ false) es
unfolding superseded
none_superseded es u = each_map es (λ e h. and_no (named 0xF8 e) (has_named 0xFC es e) h) (no_fc es u)

-- ---- the rules

-- a live name is a file name
abbrev pub WellNamed : Entry → Type 0
WellNamed e = alive e ≡ true → name_ok (name_of e) ≡ true

-- neither torn nor reserved
abbrev pub Finished : Entry → Type 0
Finished e = is_unfinished e.it.status ≡ false

-- neither START nor CLEAN
abbrev pub Unmarked : Entry → Type 0
Unmarked e = marked e ≡ false

pub name_legal_by : (es : List Entry) (e : Entry) → live es e ≡ alive e → WellNamed e → name_legal es e ≡ true
unfolding name_legal
name_legal_by es e h n = go (alive e) refl
  where
    go : (b : Bool) → alive e ≡ b → name_legal es e ≡ true
    go true k = rw (name_legal, h, k) (n k)
    go false k = rw (name_legal, h, k)

-- the rule on names
pub names_by : (es : List Entry) → Unique es → Each WellNamed es → names_ok es ≡ true
unfolding names_ok
names_by es u h =
    all_each (name_legal es) es
    (each_map es (λ e p. name_legal_by es e p.0 p.1) (each_both (λ e. live es e ≡ alive e) WellNamed es (live_alive es u) h))

second_plain : (es : List Entry) (x y : Entry) → Unmarked y → second_ok es x y ≡ true
unfolding second_ok
second_plain es x y h =
    rw (second_ok, or_left (is_start y.it.low) (is_clean y.it.low) h, or_right (is_start y.it.low) (is_clean y.it.low) h)

-- the rule on marks
pub marks_by : (x : Entry) (es : List Entry) → Each Unmarked es → marks_ok (x ∷ es) ≡ true
unfolding marks_ok
marks_by x [] h = refl
marks_by x (y ∷ es) h = rw (marks_ok, second_plain (x ∷ (y ∷ es)) x y h.0, any_none marked es h.1)

-- a dead one is apart from any other
pub dead_apart : (u : Entry) → alive u ≡ false → (e : Entry) → Apart e u
dead_apart u a e p q = let z : false ≡ true = sym a ∙ q in cc

-- a record that is not alive needs no name
pub dead_named : (u : Entry) → alive u ≡ false → WellNamed u
dead_named u a q = let z : false ≡ true = sym a ∙ q in cc
