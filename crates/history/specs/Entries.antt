-- Records with their addresses: one list behind another, and one entry among them, which may be replaced by a record of its size.
use Rattle.std.specs.Prelude.{ℕ, ◌+◌, ◌≡◌, refl, List, [], ◌∷◌, ◌++◌}
use Rattle.std.proofs.Common.{arith, add-zero, add_assoc, sym, ap, ap₂, ◌∙◌, subst}
use Rattle.spec.specs.Basics.{Each}
use Rattle.spec.specs.Record.{Rec, Entry}
use Rattle.laws.specs.Lists.{cons_first, cons_rest}
use Rattle.history.specs.Lists.{some_behind}
use Rattle.history.specs.Lay.{rsize, sizes, entries_of, Fine, AllFine}
use Rattle.history.specs.StraightEdit.{sizes_append, fine_append, fine_left, fine_right}

-- ---- an element of two lists, one behind the other

module _ {A : Type 0} where
  -- where an element of two lists, one behind the other, stands
  pub data Split (ps qs xs : List A) (e : A) (ys : List A) : Type 0 where
    in_first : (zs : List A) → ps ≡ xs ++ (e ∷ zs) → ys ≡ zs ++ qs → Split ps qs xs e ys
    in_second : (zs : List A) → xs ≡ ps ++ zs → qs ≡ zs ++ (e ∷ ys) → Split ps qs xs e ys

  found_on : {a x e : A} {ps qs xs ys : List A} → a ≡ x → Split ps qs xs e ys → Split (a ∷ ps) qs (x ∷ xs) e ys
  found_on p (in_first zs q r) = in_first zs (ap₂ (λ (b : A) (l : List A). b ∷ l) p q) r
  found_on p (in_second zs q r) = in_second zs (ap₂ (λ (b : A) (l : List A). b ∷ l) (sym p) q) r

  -- it stands in the first or in the second
  pub find : (ps qs xs ys : List A) (e : A) → ps ++ qs ≡ xs ++ (e ∷ ys) → Split ps qs xs e ys
  find [] qs xs ys e h = in_second xs refl h
  find (a ∷ ps) qs [] ys e h = in_first ps (ap (λ (b : A). b ∷ ps) (cons_first h)) (sym (cons_rest h))
  find (a ∷ ps) qs (x ∷ xs) ys e h = found_on (cons_first h) (find ps qs xs ys e (cons_rest h))

-- ---- entries

-- the entries of two lists of records, one behind the other
pub entries_append : (at : ℕ) (xs ys : List Rec) → entries_of at (xs ++ ys) ≡ entries_of at xs ++ entries_of (at + sizes xs) ys
entries_append at [] ys = ap (λ (n : ℕ). entries_of n ys) (sym (add-zero at))
entries_append at (r ∷ xs) ys =
    ap (λ (l : List Entry). record { at = at; it = r } ∷ l)
    (entries_append (at + rsize r) xs ys ∙ ap (λ (n : ℕ). entries_of (at + rsize r) xs ++ entries_of n ys) (add_assoc at (rsize r) (sizes xs)))

-- what is in each record is fine in each entry
pub entries_fine : (at : ℕ) (rs : List Rec) (es : List Entry) → AllFine rs → Each (λ (e : Entry). Fine e.it) es
    → Each (λ (e : Entry). Fine e.it) (entries_of at rs ++ es)
entries_fine at [] es f g = g
entries_fine at (r ∷ rs) es f g = (f.0, entries_fine (at + rsize r) rs es f.1 g)

-- the entry e of the records rs from at on, with the entries xs before it and ys behind it
pub record Among (at : ℕ) (rs : List Rec) (xs : List Entry) (e : Entry) (ys : List Entry) : Type 0 where
  pub before : List Rec
  pub after : List Rec
  pub is : rs ≡ before ++ (e.it ∷ after)
  pub there : e.at ≡ at + sizes before
  pub left : xs ≡ entries_of at before
  pub right : ys ≡ entries_of (e.at + rsize e.it) after

among_on : {at : ℕ} {r : Rec} {rs : List Rec} {x e : Entry} {xs ys : List Entry} → record { at = at; it = r } ≡ x → Among (at + rsize r) rs xs e ys
    → Among at (r ∷ rs) (x ∷ xs) e ys
among_on {at} {r} p m =
    record {
      before = r ∷ m.before;
      after = m.after;
      is = ap (λ (l : List Rec). r ∷ l) m.is;
      there = m.there ∙ add_assoc at (rsize r) (sizes m.before);
      left = ap₂ (λ (x : Entry) (l : List Entry). x ∷ l) (sym p) m.left;
      right = m.right;
    }

-- every entry stands among the records
pub among : (at : ℕ) (rs : List Rec) (xs ys : List Entry) (e : Entry) → entries_of at rs ≡ xs ++ (e ∷ ys) → Among at rs xs e ys
among at [] xs ys e h = absurd (some_behind xs ys e (sym h))
among at (r ∷ rs) [] ys e h =
    let p : record { at = at; it = r } ≡ e = cons_first h in
    record {
      before = [];
      after = rs;
      is = ap (λ (x : Entry). x.it ∷ rs) p;
      there = ap (λ (x : Entry). x.at) (sym p) ∙ sym (add-zero at);
      left = refl;
      right = sym (cons_rest h) ∙ ap (λ (x : Entry). entries_of (x.at + rsize x.it) rs) p;
    }
among at (r ∷ rs) (x ∷ xs) ys e h = among_on (cons_first h) (among (at + rsize r) rs xs ys e (cons_rest h))

module _ {at : ℕ} {rs : List Rec} {xs ys : List Entry} {e : Entry} (m : Among at rs xs e ys) where
  fine_all : AllFine rs → AllFine (m.before ++ (e.it ∷ m.after))
  fine_all f = subst AllFine m.is f

  -- its record is fine
  pub among_fine : AllFine rs → Fine e.it
  among_fine f = (fine_right m.before (e.it ∷ m.after) (fine_all f)).0

  -- it ends where the records behind it begin
  pub among_end : e.at + rsize e.it + sizes m.after ≡ at + sizes rs
  among_end = omega (arith, m.there, ap sizes m.is, sizes_append m.before (e.it ∷ m.after))

  -- another record of its size in its place
  module _ (r : Rec) (same : rsize r ≡ rsize e.it) where
    -- the entries with r in its place
    pub entries_with : xs ++ (record { at = e.at; it = r } ∷ ys) ≡ entries_of at (m.before ++ (r ∷ m.after))
    entries_with =
        ap₂ (λ (l k : List Entry). l ++ (record { at = e.at; it = r } ∷ k)) m.left
        (m.right ∙ ap (λ (n : ℕ). entries_of (e.at + n) m.after) (sym same))
        ∙ ap (λ (n : ℕ). entries_of at m.before ++ entries_of n (r ∷ m.after)) m.there
        ∙ sym (entries_append at m.before (r ∷ m.after))

    -- the size stays
    pub sizes_with : sizes (m.before ++ (r ∷ m.after)) ≡ sizes rs
    sizes_with =
        let k : rsize r + sizes m.after ≡ rsize e.it + sizes m.after = ap (λ (n : ℕ). n + sizes m.after) same in
        sizes_append m.before (r ∷ m.after) ∙ ap (λ (n : ℕ). sizes m.before + n) k ∙ sym (sizes_append m.before (e.it ∷ m.after))
        ∙ ap sizes (sym m.is)

    -- the records are still fine
    pub fine_with : AllFine rs → Fine r → AllFine (m.before ++ (r ∷ m.after))
    fine_with f g =
        fine_append m.before (r ∷ m.after) (fine_left m.before (e.it ∷ m.after) (fine_all f))
        (g, (fine_right m.before (e.it ∷ m.after) (fine_all f)).1)
