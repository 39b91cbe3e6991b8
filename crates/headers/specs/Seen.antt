-- From the stretches that the walk looks at, byte by byte, to stretches that agree.
use Prim.Native.Nat.{ℕ, zero, suc, ◌+◌, ◌-◌, ◌≤◌, ◌<◌}
use Rattle.std.proofs.Common.{arith, sym, ap, subst, ◌∙◌, length-take, drop_of_length-le, drop-drop, leb-true, leb-false}
use Rattle.std.specs.Prelude.{◌≡◌, Bool, true, List, [], ◌∷◌, length, take, drop, eqb, leb}
use Rattle.std.proofs.Math.Path.{refl}
use Rattle.std.proofs.Math.Bool.{false}
use Rattle.spec.specs.declared.Extent.{Extent}
use Rattle.spec.specs.Step.{Image}
use Rattle.spec.specs.Basics.{long, Each}
use Rattle.spec.specs.Numbers.{bytes_of}
use Rattle.spec.specs.Length.{header_stands, stretch, name_read, name_stretch, standing_size, seen}
use Rattle.laws.specs.Parts.{part_window}
use Rattle.headers.specs.Agree.{Agree}

-- the two images hold the same bytes there
abbrev pub SameBytes : Image → Image → Extent → Type 0
SameBytes a b x = bytes_of a x ≡ bytes_of b x

-- ---- the stretches, case by case

module _ (k : ℕ) (first : Bool) (at : ℕ) (s : List ℕ) where
  seen_none : long 1 s ≡ false → seen (suc k) first at s ≡ []
  unfolding seen
  seen_none p = rw (seen, p)

  seen_header : long 1 s ≡ true → header_stands first s ≡ false → seen (suc k) first at s ≡ stretch at 8 ∷ []
  unfolding seen
  seen_header p q = rw (seen, p, q)

  seen_last : long 1 s ≡ true → header_stands first s ≡ true → eqb (standing_size first at s) 0 ≡ true
      → seen (suc k) first at s ≡ stretch at 8 ∷ name_stretch at s ∷ []
  unfolding seen
  seen_last p q r = rw (seen, p, q, r)

  seen_on : long 1 s ≡ true → header_stands first s ≡ true → eqb (standing_size first at s) 0 ≡ false
      → seen (suc k) first at s
      ≡ stretch at 8 ∷ name_stretch at s ∷ seen k false (at + standing_size first at s) (drop (standing_size first at s) s)
  unfolding seen
  seen_on p q r = rw (seen, p, q, r)

  module _ (t : List ℕ) where
    agree_none : long 1 s ≡ false → Agree (suc k) first at s t
    unfolding Agree
    agree_none p = rw (Agree, p) tt

    agree_header : long 1 s ≡ true → header_stands first s ≡ false → take 8 s ≡ take 8 t → Agree (suc k) first at s t
    unfolding Agree
    agree_header p q e = rw (Agree, p, q) (e, tt)

    agree_last : long 1 s ≡ true → header_stands first s ≡ true → eqb (standing_size first at s) 0 ≡ true → take 8 s ≡ take 8 t
        → take (length (name_read s)) (drop 8 s) ≡ take (length (name_read s)) (drop 8 t) → Agree (suc k) first at s t
    unfolding Agree
    agree_last p q r e f = rw (Agree, p, q, r) (e, (f, tt))

    agree_on : long 1 s ≡ true → header_stands first s ≡ true → eqb (standing_size first at s) 0 ≡ false → take 8 s ≡ take 8 t
        → take (length (name_read s)) (drop 8 s) ≡ take (length (name_read s)) (drop 8 t)
        → Agree k false (at + standing_size first at s) (drop (standing_size first at s) s) (drop (standing_size first at s) t)
        → Agree (suc k) first at s t
    unfolding Agree
    agree_on p q r e f g = rw (Agree, p, q, r) (e, (f, g))

-- ---- the same bytes of two images, in a part of both

take_turn : (i m : ℕ) (l : List ℕ) → take i (take m l) ≡ take m (take i l)
take_turn zero zero l = refl
take_turn zero (suc m) l = refl
take_turn (suc i) zero l = refl
take_turn (suc i) (suc m) [] = refl
take_turn (suc i) (suc m) (x ∷ l) = ap (λ (r : List ℕ). x ∷ r) (take_turn i m l)

part_same : (a b : Image) (f p i : ℕ) → take i (drop p a) ≡ take i (drop p b) → take i (drop p (take f a)) ≡ take i (drop p (take f b))
part_same a b f p i e = go (leb p f) refl where
  over : (c : Image) → f < p → drop p (take f c) ≡ []
  over c h = let q : length (take f c) ≤ p = rw length-take (omega arith) in drop_of_length-le (take f c) q

  cut : (c : Image) → p ≤ f → take i (drop p (take f c)) ≡ take (f - p) (take i (drop p c))
  cut c h = ap (take i) (sym (part_window p f c h)) ∙ take_turn i (f - p) (drop p c)

  go : (t : Bool) → leb p f ≡ t → take i (drop p (take f a)) ≡ take i (drop p (take f b))
  go true h = cut a (leb-true p f h) ∙ ap (take (f - p)) e ∙ sym (cut b (leb-true p f h))
  go false h = ap (take i) (over a (leb-false p f h) ∙ sym (over b (leb-false p f h)))

-- ---- stretch by stretch

module _ (a b : Image) (f : ℕ) where
  abbrev Agreed : ℕ → Bool → ℕ → Type 0
  Agreed k first at =
      Each (SameBytes a b) (seen k first at (drop at (take f a))) → Agree k first at (drop at (take f a)) (drop at (take f b))

  module _ (k : ℕ) (first : Bool) (at : ℕ) (ih : (z : ℕ) → Agreed k false (at + z)) where
    abbrev s : List ℕ
    s = drop at (take f a)

    abbrev t : List ℕ
    t = drop at (take f b)

    name_in : take (length (name_read s)) (drop (at + 8) a) ≡ take (length (name_read s)) (drop (at + 8) b)
        → take (length (name_read s)) (drop 8 s) ≡ take (length (name_read s)) (drop 8 t)
    name_in g =
        ap (take (length (name_read s))) (drop-drop 8 at (take f a)) ∙ part_same a b f (at + 8) (length (name_read s)) g
        ∙ sym (ap (take (length (name_read s))) (drop-drop 8 at (take f b)))

    further : (z : ℕ) → Each (SameBytes a b) (seen k false (at + z) (drop z s)) → Agree k false (at + z) (drop z s) (drop z t)
    further z g =
        let p : drop z s ≡ drop (at + z) (take f a) = drop-drop z at (take f a) in
        let q : drop z t ≡ drop (at + z) (take f b) = drop-drop z at (take f b) in
        let w : Agree k false (at + z) (drop (at + z) (take f a)) (drop (at + z) (take f b)) = ih z
        (subst (λ (l : List ℕ). Each (SameBytes a b) (seen k false (at + z) l)) p g) in
        subst (λ (l : List ℕ). Agree k false (at + z) l (drop z t)) (sym p)
        (subst (λ (l : List ℕ). Agree k false (at + z) (drop (at + z) (take f a)) l) (sym q) w)

    by_size : (w : Bool) → long 1 s ≡ true → header_stands first s ≡ true → eqb (standing_size first at s) 0 ≡ w
        → Each (SameBytes a b) (seen (suc k) first at s) → Agree (suc k) first at s t
    by_size true p q r e =
        let g = subst (λ (xs : List Extent). Each (SameBytes a b) xs) (seen_last k first at s p q r) e in
        agree_last k first at s t p q r (part_same a b f at 8 g.0) (name_in g.1.0)
    by_size false p q r e =
        let g = subst (λ (xs : List Extent). Each (SameBytes a b) xs) (seen_on k first at s p q r) e in
        agree_on k first at s t p q r (part_same a b f at 8 g.0) (name_in g.1.0) (further (standing_size first at s) g.1.1)

    by_header : (v : Bool) → long 1 s ≡ true → header_stands first s ≡ v → Each (SameBytes a b) (seen (suc k) first at s)
        → Agree (suc k) first at s t
    by_header true p q e = by_size _ p q refl e
    by_header false p q e =
        let g = subst (λ (xs : List Extent). Each (SameBytes a b) xs) (seen_header k first at s p q) e in
        agree_header k first at s t p q (part_same a b f at 8 g.0)

    by_length : (u : Bool) → long 1 s ≡ u → Agreed (suc k) first at
    by_length true p e = by_header _ p refl e
    by_length false p e = agree_none k first at s t p

  pub agreed : (k : ℕ) (first : Bool) (at : ℕ) → Agreed k first at
  unfolding Agree
  agreed zero first at e = tt
  agreed (suc k) first at e = by_length k first at (λ z. agreed k false (at + z)) _ refl e
