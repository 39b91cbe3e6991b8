-- No F8 record that is left of the entry chain has an FC record of its name, in the chain, among those left, or among the copies (Lone).
-- So each of them is live in the queue of a sweep as it was in the entry chain.
use Rattle.std.specs.Prelude.{ℕ, ◌≡◌, ◌⊎◌, Bool, ◌&&◌, ◌||◌, eqb}
use Rattle.std.proofs.Math.Path.{refl, sym, ap}
use Rattle.std.proofs.Common.{ap₂, ◌∙◌, inr, eqb-true, eq-eqb, ne_eqb}
use Rattle.std.proofs.Math.Logic.{inl, ⊎_elim}
use Rattle.std.proofs.Math.Bool.{true, false, not}
use Rattle.std.proofs.lemmas.Bool.{false≢true, eqb-false}
use mathlib.Core.List.{List, [], ◌∷◌, ◌++◌}
use Rattle.spec.specs.Basics.{same, any, Each}
use Rattle.spec.specs.Record.{Entry, name_of}
use Rattle.spec.specs.Files.{same_name, named, named_as, has_named, live, superseded, doubled}
use Rattle.laws.specs.Tests.{and_no}
use Rattle.laws.specs.Lists.{any_no, any_none, any_none_each, each_map, each_both, each_append}
use Rattle.planning.specs.Planned.{with_low}

-- ---- tests on lists

same_sym : (s t : List ℕ) → same s t ≡ same t s
unfolding same
same_sym [] [] = refl
same_sym [] (y ∷ t) = refl
same_sym (x ∷ s) [] = refl
same_sym (x ∷ s) (y ∷ t) = go _ refl (same_sym s t) where
  go : (b : Bool) → eqb x y ≡ b → same s t ≡ same t s → same (x ∷ s) (y ∷ t) ≡ same (y ∷ t) (x ∷ s)
  go true e ih = rw (same, e, eq-eqb y x (sym (eqb-true x y e))) ih
  go false e ih = rw (same, e, ne_eqb y x (λ q. eqb-false x y e (sym q)))

and_second : (a b : Bool) → a ≡ true → (a && b) ≡ false → b ≡ false
and_second true b e h = h
and_second false b e h = absurd (false≢true e)

module _ {A : Type 0} (p : A → Bool) where
  pub any_first : (x : A) (xs : List A) → any p (x ∷ xs) ≡ false → (p x ≡ false) × (any p xs ≡ false)
  any_first x xs h = let z = any_none_each p (x ∷ xs) h in (z.0, any_none p xs z.1)

  pub any_both : (xs ys : List A) → any p xs ≡ false → any p ys ≡ false → any p (xs ++ ys) ≡ false
  any_both xs ys h k =
      any_none p (xs ++ ys) (each_append (λ x. p x ≡ false) xs ys (any_none_each p xs h) (any_none_each p ys k))

-- of two facts on each
pub each_zip : (P Q R : Entry → Type 0) (es : List Entry) → ((e : Entry) → P e → Q e → R e) → Each P es → Each Q es → Each R es
each_zip P Q R es f a b = each_map {P = λ e. P e × Q e} {Q = R} es (λ e p. f e p.0 p.1) (each_both P Q es a b)

-- ---- no F8 record has a rival

-- among these there is no FC record of its name
abbrev pub Unrivalled : List Entry → Entry → Type 0
Unrivalled es x = named 0xF8 x ≡ true → has_named 0xFC es x ≡ false

-- no F8 record behind x has x's name, if x is FC or F8
abbrev pub Apart : List Entry → Type 0
Apart [] = Unit {0}
Apart (x ∷ xs) = Each (λ y. (named 0xFC x || named 0xF8 x) ≡ true → named 0xF8 y ≡ true → same_name y x ≡ false) xs × Apart xs

-- of the records xs that are left of the entry chain, where cs are the copies
pub record Lone (all xs cs : List Entry) : Type 0 where
  pub whole : Each (Unrivalled all) xs
  pub rest : Each (Unrivalled xs) xs
  pub copies : Each (Unrivalled cs) xs
  pub apart : Apart xs

module _ (x : Entry) (xs : List Entry) where
  apart_by : (y : Entry) → Unrivalled (x ∷ xs) y → named_as 0xF8 x y ≡ false ⊎ named 0xF8 x ≡ false → (named 0xFC x || named 0xF8 x) ≡ true
      → named 0xF8 y ≡ true → same_name y x ≡ false
  unfolding has_named
  apart_by y u o c n = go _ refl where
    go : (t : Bool) → named 0xFC x ≡ t → same_name y x ≡ false
    go true e = and_second (named 0xFC x) (same_name y x) e (any_first (named_as 0xFC y) x xs (u n)).0
    go false e =
        let f : named 0xF8 x ≡ true = sym (ap (λ (t : Bool). t || named 0xF8 x) e) ∙ c in
        ⊎_elim
        (λ (z : named_as 0xF8 x y ≡ false). same_sym (name_of y) (name_of x) ∙ and_second (named 0xF8 y) (same_name x y) n z)
        (λ (z : named 0xF8 x ≡ false). absurd (false≢true (sym z ∙ f))) o

  doubled_first : doubled 0xF8 (x ∷ xs) ≡ false
      → (Each (λ y. (named_as 0xF8 x y ≡ false) ⊎ (named 0xF8 x ≡ false)) xs) × (doubled 0xF8 xs ≡ false)
  unfolding doubled has_named
  doubled_first h = go _ _ refl refl where
    go : (t u : Bool) → named 0xF8 x ≡ t → has_named 0xF8 xs x ≡ u
        → (Each (λ y. (named_as 0xF8 x y ≡ false) ⊎ (named 0xF8 x ≡ false)) xs) × (doubled 0xF8 xs ≡ false)
    go true true e f = absurd (false≢true (sym (rw (doubled, e, f) at h)))
    go true false e f = (
      each_map {P = λ y. named_as 0xF8 x y ≡ false} {Q = λ y. (named_as 0xF8 x y ≡ false) ⊎ (named 0xF8 x ≡ false)} xs (λ y z. inl z)
          (any_none_each (named_as 0xF8 x) xs f),
      rw (doubled, e, f) at h,
    )
    go false u e f = (all_right xs, rw (doubled, e) at h) where
      all_right : (ys : List Entry) → Each (λ y. (named_as 0xF8 x y ≡ false) ⊎ (named 0xF8 x ≡ false)) ys
      all_right [] = tt
      all_right (y ∷ ys) = (inr e, all_right ys)

-- behind the first
pub unrivalled_rest : (x : Entry) (xs : List Entry) → Each (Unrivalled (x ∷ xs)) xs → Each (Unrivalled xs) xs
unfolding has_named
unrivalled_rest x xs a =
    each_map {P = Unrivalled (x ∷ xs)} {Q = Unrivalled xs} xs (λ y u n. (any_first (named_as 0xFC y) x xs (u n)).1) a

apart_of : (xs : List Entry) → Each (Unrivalled xs) xs → doubled 0xF8 xs ≡ false → Apart xs
apart_of [] a d = tt
apart_of (x ∷ xs) a d =
    let z = doubled_first x xs d in (
      each_zip (Unrivalled (x ∷ xs)) (λ y. (named_as 0xF8 x y ≡ false) ⊎ (named 0xF8 x ≡ false))
          (λ y. (named 0xFC x || named 0xF8 x) ≡ true → named 0xF8 y ≡ true → same_name y x ≡ false) xs (apart_by x xs) a.1 z.0,
      apart_of xs (unrivalled_rest x xs a.1) z.1,
    )

unrivalled_none : (xs : List Entry) → Each (Unrivalled []) xs
unfolding has_named
unrivalled_none [] = tt
unrivalled_none (x ∷ xs) = (λ n. refl, unrivalled_none xs)

-- at the start: no record is superseded, and no two F8 have one name
pub lone_first : (es : List Entry) → any (superseded es) es ≡ false → doubled 0xF8 es ≡ false → Lone es es []
unfolding superseded
lone_first es s d =
    let u : Each (Unrivalled es) es =
    each_map {P = λ x. superseded es x ≡ false} {Q = Unrivalled es} es (λ x z n. and_second (named 0xF8 x) (has_named 0xFC es x) n z)
    (any_none_each (superseded es) es s) in
    record { whole = u; rest = u; copies = unrivalled_none es; apart = apart_of es u d }

-- ---- live in the queue as in the entry chain

module _ (x : Entry) (b : ℕ) where
  named_low : (st : ℕ) → named st (with_low b x) ≡ named st x
  unfolding named
  named_low st = refl

  -- with the queue x, then es
  live_like : (all es : List Entry) → Unrivalled all x → Unrivalled (x ∷ es) x → live (with_low b x ∷ es) (with_low b x) ≡ live all x
  unfolding live has_named named
  live_like all es u v = go _ refl where
    go : (t : Bool) → named 0xF8 x ≡ t → live (with_low b x ∷ es) (with_low b x) ≡ live all x
    go true e =
        ap (λ (t : Bool). named 0xFC x || (named 0xF8 x && not t)) (v e)
        ∙ sym (ap (λ (t : Bool). named 0xFC x || (named 0xF8 x && not t)) (u e))
    go false e =
        ap (λ (t : Bool). named 0xFC x || (t && not (has_named 0xFC (x ∷ es) x))) e
        ∙ sym (ap (λ (t : Bool). named 0xFC x || (t && not (has_named 0xFC all x))) e)

-- a live record is FC or F8
live_named : (all : List Entry) (x : Entry) → live all x ≡ true → (named 0xFC x || named 0xF8 x) ≡ true
unfolding live
live_named all x h = go _ _ refl refl where
  go : (t u : Bool) → named 0xFC x ≡ t → named 0xF8 x ≡ u → (named 0xFC x || named 0xF8 x) ≡ true
  go true u e f = ap (λ (t : Bool). t || named 0xF8 x) e
  go false true e f = ap₂ (λ (t u : Bool). t || u) e f
  go false false e f = absurd (false≢true (sym (ap₂ (λ (t u : Bool). t || (u && not (has_named 0xFC all x))) e f) ∙ h))

-- ---- what is handed on

module _ {all : List Entry} {x : Entry} {xs cs : List Entry} (w : Lone all (x ∷ xs) cs) where
  -- x is not copied
  pub lone_passed : Lone all xs cs
  lone_passed = record { whole = w.whole.1; rest = unrivalled_rest x xs w.rest.1; copies = w.copies.1; apart = w.apart.1 }

  -- x's copy is the last of the copies
  module _ (c : Entry) (n : name_of c ≡ name_of x) (l : live all x ≡ true) where
    rival_not : (y : Entry) → Unrivalled cs y → ((named 0xFC x || named 0xF8 x) ≡ true → named 0xF8 y ≡ true → same_name y x ≡ false)
        → Unrivalled (cs ++ (c ∷ [])) y
    unfolding has_named
    rival_not y u a k =
        any_both (named_as 0xFC y) cs (c ∷ []) (u k)
        (any_no (named_as 0xFC y) c []
        (and_no (named 0xFC c) (same_name y c) (λ z. ap (same (name_of y)) n ∙ a (live_named all x l) k)))

    pub lone_copied : Lone all xs (cs ++ (c ∷ []))
    lone_copied =
        record {
          whole = w.whole.1;
          rest = unrivalled_rest x xs w.rest.1;
          copies =
              each_zip (Unrivalled cs) (λ y. (named 0xFC x || named 0xF8 x) ≡ true → named 0xF8 y ≡ true → same_name y x ≡ false)
              (Unrivalled (cs ++ (c ∷ []))) xs
              rival_not w.copies.1 w.apart.0;
          apart = w.apart.1;
        }

  -- so x is live in the queue as in the entry chain
  pub lone_live : (b : ℕ) → live (with_low b x ∷ (xs ++ cs)) (with_low b x) ≡ live all x
  unfolding has_named
  lone_live b =
      live_like x b all (xs ++ cs) w.whole.0 (λ n. any_both (named_as 0xFC x) (x ∷ xs) cs (w.rest.0 n) (w.copies.0 n))
