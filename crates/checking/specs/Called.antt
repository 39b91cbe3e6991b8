-- The name of the record at which the chain breaks off, as the code looks at it.
use Rattle.std.specs.Prelude.{ℕ, ◌≡◌, Bool, ◌&&◌, ◌||◌, List, [], ◌∷◌, ◌++◌}
use Rattle.std.proofs.Common.{◌∙◌}
use Rattle.std.proofs.Math.Path.{refl, sym, ap, ap₂}
use Rattle.std.proofs.Math.Bool.{true, false, not}
use Rattle.std.proofs.Math.Dec.{eqb}
use borrow.Author.Tests.{eqb-true}
use Rattle.spec.specs.Basics.{empty, any}
use Rattle.spec.specs.Record.{name_ok, Entry, name_of}
use Rattle.spec.specs.Files.{named, named_as, has_named, has_name, live}
use Rattle.spec.specs.Reading.{name_legal}
use Rattle.spec.specs.Fault.{repeated, name_wrong}
use Rattle.chain.specs.Repeats.{same_swap}

-- a record of this status and name
unfoldable pub is_called : ℕ → List ℕ → Entry → Bool
is_called st n e = named st e && has_name n e

abbrev pub called : ℕ → List Entry → List ℕ → Bool
called st es n = any (is_called st n) es

-- an F8 record of this name behind the records es breaks a rule on names
unfoldable pub migrating_wrong : List Entry → List ℕ → Bool
migrating_wrong es n = called 0xF8 es n || (not (called 0xFC es n) && not (name_ok n))

-- a record of this status and name does
unfoldable pub cut_wrong : List Entry → ℕ → List ℕ → Bool
cut_wrong es st n =
    elim (empty n) [
      | true ↦ false
      | false ↦
          elim (eqb st 0xFC) [
            | true ↦ called 0xFC es n || not (name_ok n)
            | false ↦ elim (eqb st 0xF8) [ true ↦ migrating_wrong es n | false ↦ false ]
          ]
    ]

-- ---- in the definitions' words

any_alike : (p q : Entry → Bool) (es : List Entry) → ((e : Entry) → p e ≡ q e) → any p es ≡ any q es
any_alike p q [] h = refl
any_alike p q (x ∷ es) h = go (p x) refl (any_alike p q es h) where
  go : (t : Bool) → p x ≡ t → any p es ≡ any q es → any p (x ∷ es) ≡ any q (x ∷ es)
  go true e ih = rw (any, e, sym (h x) ∙ e)
  go false e ih = rw (any, e, sym (h x) ∙ e) ih

any_last : (p : Entry → Bool) (es : List Entry) (e : Entry) → p e ≡ false → any p (es ++ e ∷ []) ≡ any p es
any_last p [] e h = rw (any, h)
any_last p (x ∷ es) e h = go (p x) refl (any_last p es e h) where
  go : (t : Bool) → p x ≡ t → any p (es ++ e ∷ []) ≡ any p es → any p (x ∷ (es ++ e ∷ [])) ≡ any p (x ∷ es)
  go true q ih = rw (any, q)
  go false q ih = rw (any, q) ih

and_false : (b : Bool) → (b && false) ≡ false
and_false true = refl
and_false false = refl

or_false : (b : Bool) → (b || false) ≡ b
or_false true = refl
or_false false = refl

module _ (es : List Entry) (q : Entry) where
  has_is : (st : ℕ) → has_named st es q ≡ called st es (name_of q)
  unfolding has_named is_called
  has_is st = any_alike (named_as st q) (is_called st (name_of q)) es
      (λ f. ap (λ (b : Bool). named st f && b) (same_swap (name_of q) (name_of f)))

  all_last : named 0xFC q ≡ false → has_named 0xFC (es ++ q ∷ []) q ≡ has_named 0xFC es q
  unfolding has_named
  all_last h = any_last (named_as 0xFC q) es q (rw h)

  no_file : named 0xFC q ≡ false → named 0xF8 q ≡ false → name_wrong (es ++ q ∷ []) es q ≡ false
  unfolding name_wrong repeated name_legal live
  no_file a b = rw (name_wrong, repeated, name_legal, live, a, b)

  committed : named 0xFC q ≡ true → named 0xF8 q ≡ false
      → name_wrong (es ++ q ∷ []) es q ≡ (called 0xFC es (name_of q) || not (name_ok (name_of q)))
  unfolding name_wrong repeated name_legal live
  committed a b = rw (name_wrong, repeated, name_legal, live, a, b, has_is 0xFC, or_false (called 0xFC es (name_of q)))

  migrating : named 0xFC q ≡ false → named 0xF8 q ≡ true → name_wrong (es ++ q ∷ []) es q ≡ migrating_wrong es (name_of q)
  unfolding name_wrong repeated name_legal live migrating_wrong
  migrating a b =
      let l : live (es ++ q ∷ []) q ≡ not (called 0xFC es (name_of q)) = rw (live, a, b, all_last a, has_is 0xFC) in
      let r : repeated es q ≡ called 0xF8 es (name_of q) = rw (repeated, a, b, has_is 0xF8) in
      let g : name_legal (es ++ q ∷ []) q ≡ elim (not (called 0xFC es (name_of q))) as
      (λ b. Bool) [ true ↦ name_ok (name_of q) | false ↦ true ] =
      rw (name_legal, l) in
      ap₂ (λ (x y : Bool). x || not y) r g
      ∙ ap (λ (y : Bool). called 0xF8 es (name_of q) || y) (turned (called 0xFC es (name_of q)) (name_ok (name_of q)))
    where
      turned : (c k : Bool) → not (elim (not c) as (λ b. Bool) [ true ↦ k | false ↦ true ]) ≡ (not c && not k)
      turned true k = refl
      turned false k = refl

  named_is : (st : ℕ) (a b : Bool) → empty (name_of q) ≡ a → eqb q.it.status st ≡ b → named st q ≡ (b && not a)
  unfolding named
  named_is st a b p r = rw (named, p, r)

  pub cut_name : name_wrong (es ++ q ∷ []) es q ≡ cut_wrong es q.it.status (name_of q)
  unfolding cut_wrong
  cut_name = go _ _ _ refl refl refl where
    go : (a b d : Bool) → empty (name_of q) ≡ a → eqb q.it.status 0xFC ≡ b → eqb q.it.status 0xF8 ≡ d
        → name_wrong (es ++ q ∷ []) es q ≡ cut_wrong es q.it.status (name_of q)
    go true b d p r s =
        rw (cut_wrong, p) (no_file (named_is 0xFC true b p r ∙ and_false b) (named_is 0xF8 true d p s ∙ and_false d))
    go false true d p r s =
        let e : q.it.status ≡ 0xFC = eqb-true q.it.status 0xFC r in
        let f : eqb q.it.status 0xF8 ≡ false = rw e in
        rw (cut_wrong, p, r) (committed (named_is 0xFC false true p r) (named_is 0xF8 false false p f))
    go false false true p r s = rw (cut_wrong, p, r, s) (migrating (named_is 0xFC false false p r) (named_is 0xF8 false true p s))
    go false false false p r s = rw (cut_wrong, p, r, s) (no_file (named_is 0xFC false false p r) (named_is 0xF8 false false p s))
