-- K5's spaces: a byte may stand at its place in a name if it can be read, and is no space at either end. So a pass over the bytes needs no
-- places: all can be read, the first is no space, nor is the last.
use Rattle.std.specs.Prelude.{ℕ, suc, ◌+◌, ◌-◌, ◌<◌, ◌≡◌, Bool, ◌||◌, length, get_or, ltb}
use Rattle.std.proofs.Common.{arith, ◌∙◌}
use Rattle.std.proofs.Math.Path.{refl, sym, ap, ap₂}
use Rattle.std.proofs.Math.Bool.{true, false, ◌&&◌, not}
use mathlib.Core.List.{List, [], ◌∷◌}
use Rattle.std.proofs.Math.Dec.{leb, eqb}
use borrow.Author.Tests.{leb-true, le-leb, lt-ltb, le-ltb, eqb-true, eqb-false, eq-eqb, ne_eqb}
use Rattle.spec.specs.Basics.{all}
use Rattle.spec.specs.Bytes.{is_printable, is_space}
use Rattle.spec.specs.Record.{may_stand, first_bad}
use Rattle.laws.specs.Tests.{iff, and_left, and_right}

-- 20 to 7E hex
unfoldable pub is_readable : ℕ → Bool
is_readable b = leb 0x20 b && leb b 0x7E

-- the last byte is a space
unfoldable pub ends_in_space : List ℕ → Bool
ends_in_space [] = false
ends_in_space (b ∷ []) = is_space b
ends_in_space (b ∷ (c ∷ s)) = ends_in_space (c ∷ s)

-- ---- one byte

or_none : (a : Bool) → (a || false) ≡ a
or_none true = refl
or_none false = refl

and_none : (a : Bool) → (a && false) ≡ false
and_none true = refl
and_none false = refl

and_all : (a : Bool) → a ≡ (a && true)
and_all true = refl
and_all false = refl

and_join : (a b c : Bool) → (a && (b && c)) ≡ ((a && b) && c)
and_join true b c = refl
and_join false b c = refl

alone : (r p : Bool) → ((r && not p) && true) ≡ ((r && not p) && not p)
alone true true = refl
alone true false = refl
alone false p = refl

turn : (r p a e : Bool) → ((r && not p) && (a && e)) ≡ (((r && a) && not p) && e)
turn true true true e = refl
turn true true false e = refl
turn true false true e = refl
turn true false false e = refl
turn false p a e = refl

all_cons : (b : ℕ) (s : List ℕ) → all is_readable (b ∷ s) ≡ (is_readable b && all is_readable s)
all_cons b s = go (is_readable b) refl where
  go : (t : Bool) → is_readable b ≡ t → all is_readable (b ∷ s) ≡ (t && all is_readable s)
  go true e = rw (all, e) refl
  go false e = rw (all, e) refl

space_is : is_readable 0x20 ≡ true
unfolding is_readable
space_is = refl

space_not : is_printable 0x20 ≡ false
unfolding is_printable
space_not = refl

module _ (b : ℕ) where
  others : (b ≡ 0x20 → ⊥) → is_readable b ≡ is_printable b
  unfolding is_readable is_printable
  others n =
      iff (leb 0x20 b && leb b 0x7E) (leb 0x21 b && leb b 0x7E)
      (λ h. rw (
        le-leb 0x21 b (omega (arith, leb-true 0x20 b (and_left (leb 0x20 b) (leb b 0x7E) h), n)),
        and_right (leb 0x20 b)
            (leb b 0x7E) h,
      ) refl)
      (λ h. rw (
        le-leb 0x20 b (omega (arith, leb-true 0x21 b (and_left (leb 0x21 b) (leb b 0x7E) h))),
        and_right (leb 0x21 b)
            (leb b 0x7E) h,
      ) refl)

  -- with a space among the good bytes, and without
  inside : (is_printable b || is_space b) ≡ is_readable b
  unfolding is_space
  inside = go (eqb b 0x20) refl where
    go : (t : Bool) → eqb b 0x20 ≡ t → (is_printable b || t) ≡ is_readable b
    go true e = rw (eqb-true b 0x20 e, space_is, space_not) refl
    go false e = or_none (is_printable b) ∙ sym (others (eqb-false b 0x20 e))

  outside : is_printable b ≡ (is_readable b && not (is_space b))
  unfolding is_space
  outside = go (eqb b 0x20) refl where
    go : (t : Bool) → eqb b 0x20 ≡ t → is_printable b ≡ (is_readable b && not t)
    go true e = rw (eqb-true b 0x20 e, space_is, space_not) refl
    go false e = sym (others (eqb-false b 0x20 e)) ∙ and_all (is_readable b)

-- ---- one byte at its place

module _ (k i b : ℕ) where
  stands_inside : 0 < i → i + 1 < k → may_stand k i b ≡ is_readable b
  unfolding may_stand
  stands_inside h l =
      rw (may_stand, ne_eqb i 0 (λ e. omega (arith, e)), ne_eqb (i + 1) k (λ e. omega (arith, e)))
      (ap (λ (t : Bool). is_printable b || t) (sym (and_all (is_space b && true) ∙ refl) ∙ sym (and_all (is_space b))) ∙ inside b)

  stands_last : i + 1 ≡ k → may_stand k i b ≡ (is_readable b && not (is_space b))
  unfolding may_stand
  stands_last e = rw (may_stand, eq-eqb (i + 1) k e)
      (ap (λ (t : Bool). is_printable b || t) (and_none (is_space b && not (eqb i 0))) ∙ or_none (is_printable b) ∙ outside b)

stands_first : (k b : ℕ) → may_stand k 0 b ≡ (is_readable b && not (is_space b))
unfolding may_stand
stands_first k b =
    ap (λ (t : Bool). is_printable b || (t && not (eqb 1 k))) (and_none (is_space b)) ∙ or_none (is_printable b) ∙ outside b

-- ---- all of them

module _ (k : ℕ) where
  -- no bad byte from the place i on
  abbrev pub None_bad : ℕ → List ℕ → Bool
  None_bad i s = not (ltb (first_bad k i s) k)

  none_cons : (i b : ℕ) (s : List ℕ) → i < k → None_bad i (b ∷ s) ≡ (may_stand k i b && None_bad (i + 1) s)
  unfolding first_bad
  none_cons i b s l = go (may_stand k i b) refl where
    go : (t : Bool) → may_stand k i b ≡ t → None_bad i (b ∷ s) ≡ (t && None_bad (i + 1) s)
    go true e = rw (first_bad, e) refl
    go false e = rw (first_bad, e, lt-ltb i k l) refl

  none_end : (i : ℕ) → None_bad i [] ≡ true
  unfolding first_bad
  none_end i = ap not (le-ltb k k (omega arith))

  -- behind the first byte
  behind : (i : ℕ) (s : List ℕ) → 0 < i → i + length s ≡ k → None_bad i s ≡ (all is_readable s && not (ends_in_space s))
  unfolding ends_in_space
  behind i [] h e = none_end i
  behind i (b ∷ []) h e =
      none_cons i b [] (omega arith) ∙ ap₂ ◌&&◌ (stands_last k i b (omega arith)) (none_end (i + 1)) ∙ sym
      (and_all (is_readable b && not (is_space b)))
      ∙ ap (λ (t : Bool). t && not (is_space b)) (and_all (is_readable b) ∙ sym (all_cons b []))
  behind i (b ∷ (c ∷ s)) h e =
      none_cons i b (c ∷ s) (omega arith) ∙ ap₂ ◌&&◌ (stands_inside k i b h (omega arith))
      (behind (i + 1) (c ∷ s) (omega arith) (omega arith))
      ∙ and_join (is_readable b) (all is_readable (c ∷ s)) (not (ends_in_space (c ∷ s)))
      ∙ ap (λ (t : Bool). t && not (ends_in_space (c ∷ s))) (sym (all_cons b (c ∷ s)))

  pub all_good : (b : ℕ) (s : List ℕ) → suc (length s) ≡ k
      → None_bad 0 (b ∷ s) ≡ (all is_readable (b ∷ s) && not (is_space b) && not (ends_in_space (b ∷ s)))
  unfolding ends_in_space
  all_good b [] e =
      none_cons 0 b [] (omega arith) ∙ ap₂ ◌&&◌ (stands_first k b) (none_end 1)
      ∙ alone (is_readable b) (is_space b)
      ∙ ap (λ (t : Bool). t && not (is_space b) && not (is_space b)) (and_all (is_readable b) ∙ sym (all_cons b []))
  all_good b (c ∷ s) e =
      none_cons 0 b (c ∷ s) (omega arith) ∙ ap₂ ◌&&◌ (stands_first k b) (behind 1 (c ∷ s) (omega arith) (omega arith))
      ∙ turn (is_readable b) (is_space b) (all is_readable (c ∷ s)) (not (ends_in_space (c ∷ s)))
      ∙ ap (λ (t : Bool). t && not (is_space b) && not (ends_in_space (c ∷ s))) (sym (all_cons b (c ∷ s)))

-- ---- the last byte, read at once

pub space_last : (n : List ℕ) → 0 < length n → eqb (get_or n (length n - 1) 0) 0x20 ≡ ends_in_space n
unfolding ends_in_space is_space
space_last [] h = absurd (omega arith)
space_last (b ∷ []) h = refl
space_last (b ∷ (c ∷ s)) h =
    let e : suc (suc (length s)) - 1 ≡ suc (suc (length s) - 1) = omega arith in
    rw e (space_last (c ∷ s) (omega arith))
