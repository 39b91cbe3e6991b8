-- Records that have one header and one name: what is asked of a record by itself is answered alike, whatever the data.
use Rattle.std.specs.Prelude.{ℕ, ◌≡◌, refl, Bool, ◌&&◌, ◌||◌, length, eqb}
use Rattle.std.proofs.Common.{sym, ◌∙◌}
use Rattle.std.proofs.Math.Path.{ap, ap₂}
use Rattle.std.proofs.Math.Bool.{true, false, not}
use Rattle.std.proofs.Math.Option.{Option, none, some}
use mathlib.Core.List.{List, [], ◌∷◌, ◌++◌}
use Rattle.spec.specs.Basics.{Answer, refuse, give, numbered, all, first_such}
use Rattle.spec.specs.Bytes.{is_unfinished}
use Rattle.spec.specs.Record.{Entry, name_ok, name_of, content_of}
use Rattle.spec.specs.Files.{named}
use Rattle.spec.specs.Length.{right_mark, own_name_ok, stands, all_stand, of_name, or_else, length_in}

pub record Twin (x y : Entry) : Type 0 where
  pub at : x.at ≡ y.at
  pub low : x.it.low ≡ y.it.low
  pub status : x.it.status ≡ y.it.status
  pub name : name_of x ≡ name_of y
  pub size : length (content_of x) ≡ length (content_of y)

abbrev pub Twins : List Entry → List Entry → Type 0
Twins [] [] = Unit {0}
Twins [] (y ∷ fs) = ⊥
Twins (x ∷ es) [] = ⊥
Twins (x ∷ es) (y ∷ fs) = Twin x y × Twins es fs

pub twins_append : (a b c d : List Entry) → Twins a b → Twins c d → Twins (a ++ c) (b ++ d)
twins_append [] [] c d p q = q
twins_append [] (y ∷ b) c d p q = absurd p
twins_append (x ∷ a) [] c d p q = absurd p
twins_append (x ∷ a) (y ∷ b) c d p q = (p.0, twins_append a b c d p.1 q)

-- ---- tests of one record

module _ (x y : Entry) (t : Twin x y) where
  named_alike : (st : ℕ) → named st x ≡ named st y
  unfolding named
  named_alike st = rw (named, t.status, t.name)

  own_alike : own_name_ok x ≡ own_name_ok y
  unfolding own_name_ok
  own_alike =
      ap₂ (λ (b : Bool) (n : List ℕ). elim b [ true ↦ name_ok n | false ↦ true ])
      (ap₂ (λ (a b : Bool). a || b) (named_alike 0xFC) (named_alike 0xF8)) t.name

  pub stands_alike : (first : Bool) → stands first x ≡ stands first y
  unfolding stands
  stands_alike first =
      ap (λ (o : Bool). right_mark first x.it.low && not (is_unfinished x.it.status) && o) own_alike
      ∙ ap₂ (λ (l st : ℕ). right_mark first l && not (is_unfinished st) && own_name_ok y) t.low t.status

  of_name_alike : (st : ℕ) (name : List ℕ) → of_name st name x ≡ of_name st name y
  unfolding of_name
  of_name_alike st name = rw (of_name, named_alike st, t.name)

-- ---- tests of all

pub all_alike : (es fs : List Entry) → Twins es fs → all (stands false) es ≡ all (stands false) fs
all_alike [] [] t = refl
all_alike [] (y ∷ fs) t = absurd t
all_alike (x ∷ es) [] t = absurd t
all_alike (x ∷ es) (y ∷ fs) t = go (stands false y) refl (all_alike es fs t.1) where
  go : (b : Bool) → stands false y ≡ b → all (stands false) es ≡ all (stands false) fs
      → all (stands false) (x ∷ es) ≡ all (stands false) (y ∷ fs)
  go true e ih = rw (all, stands_alike x y t.0 false, e) ih
  go false e ih = rw (all, stands_alike x y t.0 false, e)

pub stand_alike : (h : ℕ) (es fs : List Entry) → Twins es fs → all_stand h es ≡ all_stand h fs
unfolding all_stand
stand_alike h [] [] t = refl
stand_alike h [] (y ∷ fs) t = absurd t
stand_alike h (x ∷ es) [] t = absurd t
stand_alike h (x ∷ es) (y ∷ fs) t =
    ap (λ (a : ℕ). eqb a h && stands true x && all (stands false) es) t.0.at
    ∙ ap₂ (λ (a b : Bool). eqb y.at h && a && b) (stands_alike x y t.0 true) (all_alike es fs t.1)

-- ---- the first of a name

abbrev size_in : Option Entry → Option ℕ
size_in none = none
size_in (some e) = some (length (content_of e))

first_alike : (st : ℕ) (name : List ℕ) (es fs : List Entry) → Twins es fs
    → size_in (first_such (of_name st name) es) ≡ size_in (first_such (of_name st name) fs)
first_alike st name [] [] t = refl
first_alike st name [] (y ∷ fs) t = absurd t
first_alike st name (x ∷ es) [] t = absurd t
first_alike st name (x ∷ es) (y ∷ fs) t = go (of_name st name y) refl (first_alike st name es fs t.1) where
  go : (b : Bool) → of_name st name y ≡ b → size_in (first_such (of_name st name) es) ≡ size_in (first_such (of_name st name) fs)
      → size_in (first_such (of_name st name) (x ∷ es)) ≡ size_in (first_such (of_name st name) (y ∷ fs))
  go true e ih = rw (first_such, of_name_alike x y t.0 st name, e) (ap some t.0.size)
  go false e ih = rw (first_such, of_name_alike x y t.0 st name, e) ih

abbrev sized_else : Option ℕ → Option ℕ → Answer ℕ
sized_else (some n) o = give n
sized_else none (some n) = give n
sized_else none none = refuse (numbered 2)

by_size : (o p : Option Entry) → or_else o p ≡ sized_else (size_in o) (size_in p)
by_size (some e) p = refl
by_size none (some e) = refl
by_size none none = refl

pub length_alike : (name : List ℕ) (es fs : List Entry) → Twins es fs → length_in name es ≡ length_in name fs
length_alike name es fs t =
    by_size (first_such (of_name 0xFC name) es) (first_such (of_name 0xF8 name) es)
    ∙ ap₂ sized_else (first_alike 0xFC name es fs t) (first_alike 0xF8 name es fs t)
    ∙ sym (by_size (first_such (of_name 0xFC name) fs) (first_such (of_name 0xF8 name) fs))
