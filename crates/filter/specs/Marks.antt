-- A name's bytes, word by word: whether all of them may stand in one, and the hash of all.
use Rattle.std.specs.Prelude.{ℕ, ◌+◌, ◌%◌, ◌≤◌, ◌<◌, ◌^◌, min, ◌≡◌, refl, Bool, true, false, ◌&&◌, not, List, [], ◌∷◌, length, take, drop, get_or}
use Rattle.std.proofs.Common.{arith, sym, ap, ap₂, subst, ◌∙◌, length-take, take-append-drop, drop_of_length-le, take-take, drop-drop, le-leb, eq-eqb, ne_eqb}
use Rattle.std.proofs.Math.Bool.{and-true, and_assoc}
use Rattle.spec.specs.Basics.{all}
use Rattle.spec.specs.Bytes.{is_space}
use Rattle.spec.specs.Record.{ends_in_slash, name_ok}
use Rattle.laws.specs.Parts.{part_first}
use Rattle.laws.specs.Names.{name_ok_is}
use Rattle.laws.specs.Spaces.{is_readable, ends_in_space, all_good}
use Rattle.filter.specs.declared.NameMarks.{NameMarks}
use Rattle.filter.specs.declared.Looked.{Looked}
use Rattle.filter.specs.Hash.{mixed, name_hash, Hashed, hashed_first, hashed_next, hashed_all}
use Rattle.flash.specs.Words.{eight_at, eight_is}
use Rattle.record.specs.Digits.{number, digits, digits_number}
use Rattle.record.specs.Filled.{all_append}

-- whether the name is a good one, and its hash
pub record MarkedAs (name : List ℕ) (r : NameMarks) : Type 0 where
  pub fine : r.fine ≡ name_ok name
  pub hash : r.hash ≡ name_hash name
  pub small : r.hash < 2 ^ 32

-- with the words before i seen: their hash, and whether all their bytes can be read
pub record LookedAt (s : List ℕ) (i : ℕ) (x : Looked) : Type 0 where
  pub hashed : Hashed s i x.hash
  pub readable : all is_readable s ≡ (x.readable && all is_readable (drop i s))

-- a word's bytes
digits_at : (s : List ℕ) (i : ℕ) → ((j : ℕ) → get_or s j 0 < 256) → i + 8 ≤ length s
    → digits 8 (number (take 8 (drop i s))) ≡ take 8 (drop i s)
digits_at s i b l =
    let e : take 8 (drop i s) ≡ eight_at s i = eight_is s i l in
    rw e
    (digits_number (eight_at s i) (b i, (b (i + 1), (b (i + 2), (b (i + 3), (b (i + 4), (b (i + 5), (b (i + 6), (b (i + 7), tt)))))))))

-- the part's first n bytes
module _ (part : List ℕ) (n : ℕ) (l : n ≤ length part) where
  abbrev name : List ℕ
  name = take n part

  pub size : length (take n part) ≡ n
  size = length-take n part ∙ (let e : min n (length part) ≡ n = omega arith in e)

  pub looked_first : (k : ℕ) (x : Looked) → k ≡ n % 8
      → (x.hash ≡ mixed 0 (number (take k part))) × (x.hash < 2 ^ 33) × (x.readable ≡ all is_readable (take k part))
      → LookedAt (take n part) k x
  looked_first k x e h =
      let t : take k name ≡ take k part = take-take k n part (omega arith) in
      let q : length name % 8 ≡ n % 8 = ap (λ (m : ℕ). m % 8) size in
      record {
        hashed = hashed_first name k x.hash (e ∙ sym q) (h.0 ∙ ap (λ (s : List ℕ). mixed 0 (number s)) (sym t)) h.1;
        readable =
            ap (all is_readable) (sym (take-append-drop k name)) ∙ all_append is_readable (take k name) (drop k name)
            ∙ ap (λ (b : Bool). b && all is_readable (drop k name)) (ap (all is_readable) t ∙ sym h.2);
      }

  -- a whole word is left
  pub looked_inside : (i : ℕ) (x : Looked) → LookedAt (take n part) i x → i < n → i + 8 ≤ n
  looked_inside i x p m = omega (arith, p.hashed.even, size)

  pub looked_next : (i : ℕ) (x y : Looked) → LookedAt (take n part) i x → i < n
      → (y.hash ≡ mixed x.hash (number (take 8 (drop i part)))) × (y.hash < 2 ^ 33)
      × (y.readable ≡ (x.readable && all is_readable (take 8 (drop i part))))
      → LookedAt (take n part) (i + 8) y
  looked_next i x y p m h =
      let t : take 8 (drop i name) ≡ take 8 (drop i part) = part_first i 8 n part (looked_inside i x p m) in
      record {
        hashed =
            hashed_next name i x.hash y.hash p.hashed (omega (arith, size))
            (h.0 ∙ ap (λ (s : List ℕ). mixed x.hash (number s)) (sym t)) h.1;
        readable =
            p.readable
            ∙ ap (λ (s : List ℕ). x.readable && all is_readable s) (sym (take-append-drop 8 (drop i name)))
            ∙ ap (λ (b : Bool). x.readable && b) (all_append is_readable (take 8 (drop i name)) (drop 8 (drop i name)))
            ∙ sym (and_assoc x.readable (all is_readable (take 8 (drop i name))) (all is_readable (drop 8 (drop i name))))
            ∙ ap (λ (s : List ℕ). (x.readable && all is_readable s) && all is_readable (drop 8 (drop i name))) t
            ∙ ap (λ (b : Bool). b && all is_readable (drop 8 (drop i name))) (sym h.2)
            ∙ ap (λ (s : List ℕ). y.readable && all is_readable s) (drop-drop 8 i name);
      }

  -- the same where the word is known as a number: then its items must be bytes
  pub looked_word : ((j : ℕ) → get_or part j 0 < 256) → (i w : ℕ) (x y : Looked) → LookedAt (take n part) i x → i < n
      → w ≡ number (take 8 (drop i (take n part)))
      → (y.hash ≡ mixed x.hash w) × (y.hash < 2 ^ 33) × (y.readable ≡ (x.readable && all is_readable (digits 8 w)))
      → LookedAt (take n part) (i + 8) y
  looked_word b i w x y p m e h =
      let inside : i + 8 ≤ n = looked_inside i x p m in
      let t : take 8 (drop i name) ≡ take 8 (drop i part) = part_first i 8 n part inside in
      let v : w ≡ number (take 8 (drop i part)) = e ∙ ap number t in
      let d : digits 8 w ≡ take 8 (drop i part) = ap (digits 8) v ∙ digits_at part i b (omega arith) in
      looked_next i x y p m (
        h.0 ∙ ap (mixed x.hash) v,
        h.1,
        h.2 ∙ ap (λ (s : List ℕ). x.readable && all is_readable s) d,
      )

  pub looked_all : (i : ℕ) (x : Looked) → LookedAt (take n part) i x → n ≤ i → LookedAt (take n part) n x
  looked_all i x p m =
      let e : i ≡ n = omega (arith, p.hashed.inside, size) in
      subst (λ (j : ℕ). LookedAt (take n part) j x) e p

  -- what is told of the whole name
  pub told_readable : (x : Looked) → LookedAt (take n part) n x → x.readable ≡ all is_readable (take n part)
  told_readable x p =
      let e : drop n name ≡ [] = drop_of_length-le name {i = n} (omega (arith, size)) in
      sym (p.readable ∙ ap (λ (s : List ℕ). x.readable && all is_readable s) e ∙ and-true x.readable)

  pub told_hash : (x : Looked) → LookedAt (take n part) n x → x.hash % 0x1_0000_0000 ≡ name_hash (take n part)
  told_hash x p = hashed_all name n x.hash p.hashed (omega (arith, size))

-- the ends of a name, of which there is one: no space at either, the last not '/'
abbrev pub fine_ends : List ℕ → Bool
fine_ends [] = false
fine_ends (b ∷ s) = not (is_space b) && (not (ends_in_space (b ∷ s)) && not (ends_in_slash (b ∷ s)))

-- by its tests
pub fine_space : (n : List ℕ) → 0 < length n → get_or n 0 0 ≡ 0x20 → false ≡ fine_ends n
unfolding is_space
fine_space [] h e = absurd (omega arith)
fine_space (b ∷ s) h e = rw (eq-eqb b 0x20 e)

pub fine_more : (n : List ℕ) (t : Bool) → 0 < length n → (get_or n 0 0 ≡ 0x20 → ⊥) → t ≡ (not (ends_in_space n) && not (ends_in_slash n))
    → t ≡ fine_ends n
unfolding is_space
fine_more [] t h e q = absurd (omega arith)
fine_more (b ∷ s) t h e q = rw (ne_eqb b 0x20 e) q

-- the rule, as the code asks for it
pub name_ok_by : (name : List ℕ) (a b : Bool) → length name ≤ 63 → a ≡ all is_readable name → b ≡ fine_ends name → (a && b) ≡ name_ok name
name_ok_by [] a b l e f = ap₂ ◌&&◌ e f ∙ sym (name_ok_is [] ∙ refl)
name_ok_by (x ∷ s) a b l e f =
    let n : List ℕ = x ∷ s in
    ap₂ ◌&&◌ e f ∙ go (all is_readable n) (not (is_space x)) (not (ends_in_space n)) (not (ends_in_slash n))
    ∙ ap (λ (t : Bool). t && not (ends_in_slash n)) (sym (all_good (length n) x s refl))
    ∙ rw (name_ok_is n, le-leb (length n) 63 l, le-leb 1 (length n) (omega arith)) refl where
      go : (a x y z : Bool) → (a && (x && (y && z))) ≡ ((a && x && y) && z)
      go true true y z = refl
      go true false y z = refl
      go false x y z = refl
