-- The live files of the entries are the files of the ledger, in some order (Matches), and what keeps it so.
use Rattle.std.specs.Prelude.{ℕ, suc, ◌≡◌, refl, Bool, true, false, not, length}
use Rattle.std.proofs.Common.{sym, ap, ◌∙◌, subst}
use mathlib.Core.List.Permᴰ
use mathlib.Core.List.{List, [], ◌∷◌, ◌++◌, map, Permᴰ}
use Rattle.std.proofs.lemmas.List.{map-append}
use Rattle.spec.specs.Basics.{same, keep, Each}
use Rattle.spec.specs.Record.{Entry, name_of, content_of}
use Rattle.spec.specs.History.{File, Ledger, not_named, without}
use Rattle.laws.specs.Lists.{keep_yes, keep_no}
use Rattle.history.specs.Lists.{keep_append}
use Rattle.history.specs.Store.{alive}

-- an entry as a file
abbrev pub as_file : Entry → File
as_file e = record { name = name_of e; content = content_of e }

-- the files of the live entries
abbrev pub contents : List Entry → List File
contents es = map as_file (keep alive es)

-- they are the ledger's, in some order
abbrev pub Matches : List Entry → Ledger → Type 0
Matches es l = Permᴰ (contents es) l

-- no live file has this name
abbrev pub Absent : List ℕ → List Entry → Type 0
Absent n es = Each (λ e. alive e ≡ true → same (name_of e) n ≡ false) es

module _ {A : Type 0} where
  keep_cons : (p : A → Bool) (x : A) (xs ys : List A) → Permᴰ (keep p xs) (keep p ys) → Permᴰ (keep p (x ∷ xs)) (keep p (x ∷ ys))
  keep_cons p x xs ys d = go (p x) refl
    where
      go : (b : Bool) → p x ≡ b → Permᴰ (keep p (x ∷ xs)) (keep p (x ∷ ys))
      go true e = rw (keep_yes p x xs e, keep_yes p x ys e) (Permᴰ.cons refl d)
      go false e = rw (keep_no p x xs e, keep_no p x ys e) d

  keep_swap : (p : A → Bool) (x y : A) (l : List A) → Permᴰ (keep p (x ∷ y ∷ l)) (keep p (y ∷ x ∷ l))
  keep_swap p x y l = go (p x) (p y) refl refl
    where
      go : (b c : Bool) → p x ≡ b → p y ≡ c → Permᴰ (keep p (x ∷ y ∷ l)) (keep p (y ∷ x ∷ l))
      go true true e f = rw (keep_yes p x (y ∷ l) e, keep_yes p y (x ∷ l) f, keep_yes p y l f, keep_yes p x l e) (Permᴰ.swap refl refl)
      go true false e f = rw (keep_yes p x (y ∷ l) e, keep_no p y (x ∷ l) f, keep_no p y l f, keep_yes p x l e) (Permᴰ.refl (x ∷ keep p l))
      go false true e f = rw (keep_no p x (y ∷ l) e, keep_yes p y (x ∷ l) f, keep_yes p y l f, keep_no p x l e) (Permᴰ.refl (y ∷ keep p l))
      go false false e f = rw (keep_no p x (y ∷ l) e, keep_no p y (x ∷ l) f, keep_no p y l f, keep_no p x l e) (Permᴰ.refl (keep p l))

  -- what is kept of a list in another order
  pub perm_keep : (p : A → Bool) {xs ys : List A} → Permᴰ xs ys → Permᴰ (keep p xs) (keep p ys)
  perm_keep p Permᴰ.nil = Permᴰ.nil
  perm_keep p (Permᴰ.cons {a = x} {b = y} {l₁ = xs} {l₂ = ys} e d) =
      subst (λ (z : A). Permᴰ (keep p (x ∷ xs)) (keep p (z ∷ ys))) e (keep_cons p x xs ys (perm_keep p d))
  perm_keep p (Permᴰ.swap {a = x} {b = y} {a' = u} {b' = v} {l = l} e f) =
      subst (λ (z : A). Permᴰ (keep p (x ∷ y ∷ l)) (keep p (z ∷ v ∷ l))) f
      (subst (λ (z : A). Permᴰ (keep p (x ∷ y ∷ l)) (keep p (y ∷ z ∷ l))) e (keep_swap p x y l))
  perm_keep p (Permᴰ.trans d e) = Permᴰ.trans (perm_keep p d) (perm_keep p e)

  -- what holds of each, in another order
  pub perm_each : (P : A → Type 0) {xs ys : List A} → Permᴰ xs ys → Each P xs → Each P ys
  perm_each P Permᴰ.nil h = tt
  perm_each P (Permᴰ.cons e d) h = (subst P e h.0, perm_each P d h.1)
  perm_each P (Permᴰ.swap e f) h = (subst P f h.1.0, (subst P e h.0, h.1.1))
  perm_each P (Permᴰ.trans d e) h = perm_each P e (perm_each P d h)

  -- as many
  pub perm_length : {xs ys : List A} → Permᴰ xs ys → length xs ≡ length ys
  perm_length Permᴰ.nil = refl
  perm_length (Permᴰ.cons e d) = ap suc (perm_length d)
  perm_length (Permᴰ.swap e f) = refl
  perm_length (Permᴰ.trans d e) = perm_length d ∙ perm_length e

-- nothing to take away
pub keep_contents : (n : List ℕ) (es : List Entry) → Absent n es → without n (contents es) ≡ contents es
keep_contents n [] h = refl
keep_contents n (e ∷ es) h = go (alive e) refl (keep_contents n es h.1)
  where
    go : (b : Bool) → alive e ≡ b → without n (contents es) ≡ contents es → without n (contents (e ∷ es)) ≡ contents (e ∷ es)
    go true k i =
        rw (keep_yes alive e es k)
        (keep_yes (not_named n) (as_file e) (contents es) (ap not (h.0 k)) ∙ ap (λ (l : List File). as_file e ∷ l) i)
    go false k i = rw (keep_no alive e es k) i

-- two lists of entries
pub contents_append : (xs ys : List Entry) → contents (xs ++ ys) ≡ contents xs ++ contents ys
contents_append xs ys = ap (map as_file) (keep_append alive xs ys) ∙ map-append as_file (keep alive xs) (keep alive ys)

-- one live entry
pub contents_one : (e : Entry) → alive e ≡ true → contents (e ∷ []) ≡ as_file e ∷ []
contents_one e h = rw (keep_yes alive e [] h)

-- an entry that is not alive doesn't matter
pub matches_dead : (xs ys : List Entry) (e : Entry) (l : Ledger) → alive e ≡ false → Matches (xs ++ ys) l → Matches (xs ++ (e ∷ ys)) l
matches_dead xs ys e l a m =
    subst (λ (fs : List File). Permᴰ fs l)
    (contents_append xs ys ∙ ap (λ (fs : List Entry). contents xs ++ map as_file fs) (sym (keep_no alive e ys a))
    ∙ sym (contents_append xs (e ∷ ys))) m
