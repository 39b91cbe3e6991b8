-- Where the head search leads: inside the image, to an 8-byte boundary with a START or CLEAN byte.
use Prim.Native.Nat.{ℕ, zero, suc, ◌+◌, ◌%◌, ◌<◌}
use Rattle.std.proofs.Common.{arith, add-zero, sym, ◌∙◌, inr}
use Rattle.std.specs.Prelude.{◌≡◌, Bool, ◌||◌, ◌⊎◌, List, drop, eqb}
use Rattle.std.proofs.Math.Path.{refl, ap}
use Rattle.std.proofs.Math.Bool.{true, false}
use Rattle.std.proofs.Math.Logic.{inl}
use Rattle.std.proofs.Math.ListN.{length, get_or, get_or-eq_default}
use Rattle.std.proofs.Math.Seq.{get_or-drop}
use Rattle.std.proofs.Math.Dec.{ltb}
use borrow.Author.Tests.{ltb-true, ltb-false, eqb-true}
use Rattle.spec.specs.declared.Next.{Next}
use Rattle.spec.specs.Step.{Image}
use Rattle.spec.specs.Basics.{Answer, refuse, give, long}
use Rattle.spec.specs.Bytes.{is_start, is_clean, is_high}
use Rattle.spec.specs.Record.{low_of, high_of, start_here, clean_here, wrap_here, size_of}
use Rattle.spec.specs.Head.{torn_here, walk_next, walk, search, sought, chosen, head}
use Rattle.laws.specs.Tests.{and_left, and_right}

-- the first byte of a head: START or CLEAN, with 80 as A0
abbrev pub Low : ℕ → Type 0
Low b = (b ≡ 0x00) ⊎ ((b ≡ 0xA0) ⊎ (b ≡ 0x80))

-- a head may stand at h
pub record Begins (image : Image) (h : ℕ) : Type 0 where
  pub inside : h < length image
  pub even : h % 8 ≡ 0
  pub low : Low (get_or image h 0)

-- ---- the boundary

walk_even : (k at : ℕ) (s : List ℕ) → at % 8 ≡ 0 → walk k at s % 8 ≡ 0
unfolding walk
walk_even zero at s e = e
walk_even (suc k) at s e =
    go (torn_here s) (walk_next at s) refl refl (λ n d. walk_even k (at + size_of n d) (drop (size_of n d) s) (omega arith)) where
      go : (t : Bool) (x : Next) → torn_here s ≡ t → walk_next at s ≡ x
          → ((n d : ℕ) → walk k (at + size_of n d) (drop (size_of n d) s) % 8 ≡ 0)
          → walk (suc k) at s % 8 ≡ 0
      go true x h f ih = rw (h, walk) (omega arith)
      go false (Next.Record n d) h f ih = rw (h, f, walk) (ih n d)
      go false Next.Wrap h f ih = rw (h, f, walk) e
      go false Next.TornWrap h f ih = rw (h, f, walk) e
      go false Next.Clear h f ih = rw (h, f, walk) e
      go false Next.Over h f ih = rw (h, f, walk) e
      go false Next.Bad h f ih = rw (h, f, walk) e

search_even : (k at : ℕ) (s : List ℕ) → at % 8 ≡ 0 → search k at s % 8 ≡ 0
unfolding search
search_even zero at s e = e
search_even (suc k) at s e = go (start_here s || clean_here s) (long 1 s) refl refl (search_even k (at + 8) (drop 8 s) (omega arith)) where
  go : (t u : Bool) → (start_here s || clean_here s) ≡ t → long 1 s ≡ u → search k (at + 8) (drop 8 s) % 8 ≡ 0 → search (suc k) at s % 8 ≡ 0
  go true u h f ih = rw (h, search) e
  go false true h f ih = rw (h, f, search) ih
  go false false h f ih = rw (h, f, search) e

-- ---- the bytes

-- CLEAN, with 80 as A0
pub clean_two : (b : ℕ) → is_clean b ≡ true → (b ≡ 0xA0) ⊎ (b ≡ 0x80)
unfolding is_clean
clean_two b h = go _ refl where
  go : (t : Bool) → eqb b 0xA0 ≡ t → (b ≡ 0xA0) ⊎ (b ≡ 0x80)
  go true e = inl (eqb-true b 0xA0 e)
  go false e = inr (eqb-true b 0x80 (sym (ap (λ (t : Bool). t || eqb b 0x80) e) ∙ h))

module _ (image : Image) where
  -- a magic stands inside
  high_inside : (a : ℕ) → is_high (high_of (drop a image)) ≡ true → a < length image
  unfolding is_high
  high_inside a e = go (ltb a (length image)) refl where
    go : (t : Bool) → ltb a (length image) ≡ t → a < length image
    go true h = ltb-true a (length image) h
    go false h =
        let q : get_or (drop a image) 1 0 ≡ 0x5A = eqb-true (get_or (drop a image) 1 0) 0x5A e in
        let d : get_or (drop a image) 1 0 ≡ 0 = get_or-drop a image 1 0 ∙ get_or-eq_default image 0
        (omega (arith, ltb-false a (length image) h)) in
        absurd (omega arith)

  pub start_inside : (a : ℕ) → start_here (drop a image) ≡ true → a < length image
  start_inside a e = high_inside a (and_right (is_start (low_of (drop a image))) (is_high (high_of (drop a image))) e)

  pub clean_inside : (a : ℕ) → clean_here (drop a image) ≡ true → a < length image
  clean_inside a e = high_inside a (and_right (is_clean (low_of (drop a image))) (is_high (high_of (drop a image))) e)

  low_start : (a : ℕ) → start_here (drop a image) ≡ true → Low (get_or image a 0)
  unfolding is_start
  low_start a e =
      let q : get_or (drop a image) 0 0 ≡ 0x00 = eqb-true (low_of (drop a image)) 0x00
      (and_left (eqb (low_of (drop a image)) 0x00) (is_high (high_of (drop a image))) e) in
      inl (sym (get_or-drop a image 0 0 ∙ ap (λ (i : ℕ). get_or image i 0) (add-zero a)) ∙ q)

  low_clean : (a : ℕ) → clean_here (drop a image) ≡ true → Low (get_or image a 0)
  low_clean a e =
      let q : is_clean (get_or (drop a image) 0 0) ≡ true =
      and_left (is_clean (low_of (drop a image))) (is_high (high_of (drop a image))) e in
      inr (clean_two (get_or image a 0) (sym (ap is_clean (get_or-drop a image 0 0 ∙ ap (λ (i : ℕ). get_or image i 0) (add-zero a))) ∙ q))

  abbrev Begun : Answer ℕ → Type 0
  Begun (give h) = Begins image h
  Begun (refuse x) = Unit {0}

  begin_start : (a : ℕ) → a % 8 ≡ 0 → start_here (drop a image) ≡ true → Begins image a
  begin_start a e p = record { inside = start_inside a p; even = e; low = low_start a p }

  begin_clean : (a : ℕ) → a % 8 ≡ 0 → clean_here (drop a image) ≡ true → Begins image a
  begin_clean a e p = record { inside = clean_inside a p; even = e; low = low_clean a p }

  chosen_begins : (a : ℕ) → a % 8 ≡ 0 → Begun (chosen image a)
  unfolding chosen
  chosen_begins a e = go (start_here (drop a image)) (clean_here (drop a image)) (clean_here image) refl refl refl where
    go : (t u v : Bool) → start_here (drop a image) ≡ t → clean_here (drop a image) ≡ u → clean_here image ≡ v → Begun (chosen image a)
    go true u v p q r = rw (chosen, p) (begin_start a e p)
    go false true true p q r = rw (chosen, p, q, r) tt
    go false true false p q r = rw (chosen, p, q, r) (begin_clean a e q)
    go false false true p q r = rw (chosen, p, q, r) (begin_clean 0 refl r)
    go false false false p q r = rw (chosen, p, q, r) tt

  head_begun : Begun (head image)
  unfolding head
  head_begun = go (start_here image) (wrap_here image) refl refl where
    go : (t u : Bool) → start_here image ≡ t → wrap_here image ≡ u → Begun (head image)
    go true u p q = rw (head, p) (begin_start 0 refl p)
    go false true p q = rw (head, p, q) tt
    go false false p q =
        let from : ℕ = walk (suc (length image)) 0 image in
        rw (head, p, q) (chosen_begins (sought image from)
        (search_even (length image) from (drop from image) (walk_even (suc (length image)) 0 image refl)))

  pub head_begins : (h : ℕ) → head image ≡ give h → Begins image h
  head_begins h e = rw e at head_begun
