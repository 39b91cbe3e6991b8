-- The run of FF bytes at the front, measured eight words at a time, then word by word, then byte by byte, with the turns of the three
-- loops.
use Rattle.std.specs.Prelude.{ℕ, zero, suc, ◌+◌, ◌*◌, ◌/◌, ◌%◌, ◌≤◌, ◌<◌, ◌^◌, ◌≡◌, refl, Bool, true, false, ◌&&◌, List, [], ◌∷◌, length, take, drop, get_or, eqb, leb, ltb}
use Rattle.std.proofs.Common.{arith, zero-add, suc-add, not-suc-le-zero, sym, ap, ap₂, ◌∙◌, drop-drop, eq-eqb, ne_eqb, eqb-true}
use Rattle.std.specs.Int.{from_le_bytes, w64}
use Rattle.std.specs.Int.Bits.{bit_and, and_self}
use Rattle.std.proofs.lemmas.Nat.{and_le_l, and_le_r}
use Rattle.std.proofs.lemmas.Bool.{eqb-false}
use Rattle.spec.specs.Basics.{blank, Each}
use Rattle.laws.specs.Tests.{iff}
use Rattle.laws.specs.Parts.{drop_next}
use Rattle.flash.specs.declared.BlankRun.{BlankRun}
use Rattle.flash.specs.Blank.{blank_run}

-- eight bytes as one number, the first the lowest
abbrev pub word : ℕ → ℕ → ℕ → ℕ → ℕ → ℕ → ℕ → ℕ → ℕ
word a b c d e f g h =
    a + 0x100 * b + 0x1_0000 * c + 0x100_0000 * d + 0x1_0000_0000 * (e + 0x100 * f + 0x1_0000 * g + 0x100_0000 * h)

-- the eight bytes from i on
abbrev pub eight_at : List ℕ → ℕ → List ℕ
eight_at s i =
    get_or s i 0 ∷ get_or s (i + 1) 0 ∷ get_or s (i + 2) 0 ∷ get_or s (i + 3) 0 ∷ get_or s (i + 4) 0 ∷ get_or s (i + 5) 0 ∷ get_or s (i + 6) 0
    ∷ get_or s (i + 7) 0
    ∷ []

-- ---- the turns of the loops

abbrev pub one : Bool → ℕ
one true = 1
one false = 0

-- up to the place p of a part of L bytes: one for each eight words of FF and one where eight words end the run, then the same for words,
-- and
-- for bytes
unfoldable pub turns_of : ℕ → ℕ → ℕ
turns_of L p = p / 64 + one (leb (p / 64 * 64 + 64) L) + (p % 64 / 8 + one (leb (p / 8 * 8 + 8) L)) + (p % 8 + one (ltb p L))

one_most : (b : Bool) → one b ≤ 1
one_most true = omega arith
one_most false = omega arith

-- the place where the run ends, or the part; the turns, "at most L/8 + 16"
pub record RunOf (s : List ℕ) (r : BlankRun) : Type 0 where
  pub place : r.place ≡ blank_run s
  pub inside : r.place ≤ length s
  pub turns : r.turns ≡ turns_of (length s) r.place
  pub few : r.turns ≤ length s / 8 + 16

-- all up to the place is FF, and of the run fewer than 64 bytes are left
pub record ByLines (s : List ℕ) (r : BlankRun) : Type 0 where
  pub inside : r.place ≤ length s
  pub even : r.place % 64 ≡ 0
  pub whole : blank_run s ≡ r.place + blank_run (drop r.place s)
  pub left : blank_run (drop r.place s) < 64
  pub turns : r.turns ≡ r.place / 64 + one (leb (r.place + 64) (length s))
  pub few : r.turns * 64 ≤ length s

-- and fewer than 8
pub record ByWords (s : List ℕ) (r : BlankRun) : Type 0 where
  pub inside : r.place ≤ length s
  pub even : r.place % 8 ≡ 0
  pub whole : blank_run s ≡ r.place + blank_run (drop r.place s)
  pub left : blank_run (drop r.place s) < 8
  pub turns : r.turns ≡ r.place / 64 + one (leb (r.place / 64 * 64 + 64) (length s)) +
      (r.place % 64 / 8 + one (leb (r.place + 8) (length s)))
  pub few : r.turns ≤ length s / 8 + 8

-- some words further, by as many turns, where the run or the part ends
pub by_words : {s : List ℕ} {r : BlankRun} (at turns : ℕ) → ByLines s r → at ≤ length s → at % 8 ≡ 0
    → blank_run s ≡ at + blank_run (drop at s)
    → blank_run (drop at s) < 8 → r.place ≤ at → turns * 8 + r.place ≡ r.turns * 8 + at + one (leb (at + 8) (length s)) * 8
    → ByWords s (record { place = at; turns = turns })
by_words {s} {r} at turns w h e f l o c =
    let base : at / 64 * 64 ≡ r.place = omega (arith, w.even, w.whole, w.left) in
    record {
      inside = h;
      even = e;
      whole = f;
      left = l;
      turns = omega (arith, w.turns, w.even, ap (λ (n : ℕ). one (leb (n + 64) (length s))) base);
      few = omega (arith, w.few, w.even, base, one_most (leb (at + 8) (length s)));
    }

sum_of : (t p n x y m c : ℕ) → t + p ≡ n + (p + m) + c → n ≡ x + y → t ≡ x + y + (m + c)
sum_of t p n x y m c e f = omega arith

-- some bytes further, by as many turns, where the run or the part ends
pub run_of : {s : List ℕ} {r : BlankRun} (at turns : ℕ) → ByWords s r → at ≤ length s → blank_run s ≡ at
    → turns + r.place ≡ r.turns + at + one (ltb at (length s)) → RunOf s (record { place = at; turns = turns })
unfolding turns_of
run_of {s} {r} at turns w h e f =
    let L : ℕ = length s in
    let base : r.place ≡ at / 8 * 8 = omega (arith, w.even, w.whole, w.left) in
    let line : r.place / 64 ≡ at / 64 = omega arith in
    let rest : r.place % 64 / 8 ≡ at % 64 / 8 = omega arith in
    let split : at ≡ r.place + at % 8 = omega arith in
    let count : turns ≡ turns_of L at =
    sum_of turns r.place r.turns (r.place / 64 + one (leb (r.place / 64 * 64 + 64) L))
    (r.place % 64 / 8 + one (leb (r.place + 8) L)) (at % 8)
    (one (ltb at L)) (f ∙ ap (λ (n : ℕ). r.turns + n + one (ltb at L)) split) w.turns
    ∙ (λ i. line i + one (leb (line i * 64 + 64) L) + (rest i + one (leb (base i + 8) L)) + (at % 8 + one (ltb at L))) in
    record { place = sym e; inside = h; turns = count; few = omega (arith, w.few, w.whole, w.left, one_most (ltb at L), f) }

-- ---- eight bytes

abbrev IsFF : ℕ → Type 0
IsFF x = x ≡ 0xFF

blank_each : (s : List ℕ) → blank s ≡ true → Each IsFF s
unfolding blank
blank_each [] h = tt
blank_each (x ∷ s) h = go (eqb x 0xFF) refl (blank_each s) where
  go : (t : Bool) → eqb x 0xFF ≡ t → (blank s ≡ true → Each IsFF s) → Each IsFF (x ∷ s)
  go true e ih = (eqb-true x 0xFF e, ih (rw (e, blank) at h))
  go false e ih = absurd (let z : false ≡ true = rw (e, blank) at h in let y : ◌≡◌ {A = ℕ} 0 1 = cc in omega arith)

each_blank : (s : List ℕ) → Each IsFF s → blank s ≡ true
unfolding blank
each_blank [] h = refl
each_blank (x ∷ s) h = rw (eq-eqb x 0xFF h.0, blank) (each_blank s h.1)

-- eight bytes are FF exactly if their number is the greatest
pub word_blank : (a b c d e f g h : ℕ) → a < 256 → b < 256 → c < 256 → d < 256 → e < 256 → f < 256 → g < 256 → h < 256
    → eqb (word a b c d e f g h) 0xFFFF_FFFF_FFFF_FFFF ≡ blank (a ∷ b ∷ c ∷ d ∷ e ∷ f ∷ g ∷ h ∷ [])
word_blank a b c d e f g h ha hb hc hd he hf hg hh =
    iff (eqb (word a b c d e f g h) 0xFFFF_FFFF_FFFF_FFFF) (blank (a ∷ b ∷ c ∷ d ∷ e ∷ f ∷ g ∷ h ∷ []))
    (λ q.
    let w : word a b c d e f g h ≡ 0xFFFF_FFFF_FFFF_FFFF = eqb-true (word a b c d e f g h) 0xFFFF_FFFF_FFFF_FFFF q in
    each_blank (a ∷ b ∷ c ∷ d ∷ e ∷ f ∷ g ∷ h ∷ [])
    (omega arith, (omega arith, (omega arith, (omega arith, (omega arith, (omega arith, (omega arith, (omega arith, tt)))))))))
    (λ q.
    let w : Each IsFF (a ∷ b ∷ c ∷ d ∷ e ∷ f ∷ g ∷ h ∷ []) = blank_each (a ∷ b ∷ c ∷ d ∷ e ∷ f ∷ g ∷ h ∷ []) q in
    eq-eqb (word a b c d e f g h) 0xFFFF_FFFF_FFFF_FFFF (omega arith))

module _ (s : List ℕ) (i : ℕ) (l : i + 8 ≤ length s) where
  next : (k : ℕ) → k < 8 → drop (i + k) s ≡ get_or s (i + k) 0 ∷ drop (i + (k + 1)) s
  next k h = let e : i + k + 1 ≡ i + (k + 1) = omega arith in drop_next s (i + k) (omega arith) ∙ rw e

  pub eight_is : take 8 (drop i s) ≡ eight_at s i
  eight_is =
      rw (
        drop_next s i (omega arith),
        next 1 (omega arith),
        next 2 (omega arith),
        next 3 (omega arith),
        next 4 (omega arith),
        next 5 (omega arith),
        next 6 (omega arith),
        next 7 (omega arith),
      )

-- ---- words

-- the number w is the greatest exactly if the k bytes from i on are FF
abbrev pub Tells : List ℕ → ℕ → ℕ → ℕ → Type 0
Tells s i k w = eqb w 0xFFFF_FFFF_FFFF_FFFF ≡ blank (take k (drop i s))

pub word_tells : (s : List ℕ) (i w : ℕ) → i + 8 ≤ length s → eqb w 0xFFFF_FFFF_FFFF_FFFF ≡ blank (eight_at s i) → Tells s i 8 w
word_tells s i w l e = e ∙ ap blank (sym (eight_is s i l))

-- two numbers are the greatest exactly if their common bits are
and_greatest : (a b : ℕ) → a < 2 ^ 64 → b < 2 ^ 64
    → eqb (bit_and a b) 0xFFFF_FFFF_FFFF_FFFF ≡ (eqb a 0xFFFF_FFFF_FFFF_FFFF && eqb b 0xFFFF_FFFF_FFFF_FFFF)
and_greatest a b l m = go (eqb a M) (eqb b M) refl refl where
  M : ℕ
  M = 0xFFFF_FFFF_FFFF_FFFF

  go : (x y : Bool) → eqb a M ≡ x → eqb b M ≡ y → eqb (bit_and a b) M ≡ (x && y)
  go true true p q =
      let e : a ≡ M = eqb-true a M p in
      eq-eqb (bit_and a b) M (ap (bit_and a) (eqb-true b M q ∙ sym e) ∙ and_self a ∙ e)
  go true false p q = ne_eqb (bit_and a b) M (λ e. eqb-false b M q (omega (arith, and_le_r a b)))
  go false y p q = ne_eqb (bit_and a b) M (λ e. eqb-false a M p (omega (arith, and_le_l a b)))

-- FF up to k, and from there on
blank_both : (k j : ℕ) (s : List ℕ) → blank (take (k + j) s) ≡ (blank (take k s) && blank (take j (drop k s)))
unfolding blank
blank_both zero j s = rw (zero-add j)
blank_both (suc k) j [] = rw (suc-add k j) (sym (none j)) where
  none : (n : ℕ) → blank (take n []) ≡ true
  none zero = refl
  none (suc n) = refl
blank_both (suc k) j (x ∷ s) = rw (suc-add k j) (go (eqb x 0xFF) refl (blank_both k j s)) where
  go : (t : Bool) → eqb x 0xFF ≡ t → blank (take (k + j) s) ≡ (blank (take k s) && blank (take j (drop k s)))
      → blank (x ∷ take (k + j) s) ≡ (blank (x ∷ take k s) && blank (take j (drop k s)))
  go true e ih = rw (e, blank) ih
  go false e ih = rw (e, blank)

-- two numbers that tell of neighbours, together
pub tells_both : (s : List ℕ) (i k a b : ℕ) → a < 2 ^ 64 → b < 2 ^ 64 → Tells s i k a → Tells s (i + k) k b → Tells s i (k + k) (bit_and a b)
tells_both s i k a b l m p q =
    and_greatest a b l m ∙ ap₂ ◌&&◌ p (q ∙ ap (λ (t : List ℕ). blank (take k t)) (sym (drop-drop k i s))) ∙ sym (blank_both k k (drop i s))

module _ (s : List ℕ) (b : (i : ℕ) → get_or s i 0 < 256) (l : 8 ≤ length s) where
  first_is : from_le_bytes w64 (take 8 s)
      ≡ word (get_or s 0 0) (get_or s 1 0) (get_or s 2 0) (get_or s 3 0) (get_or s 4 0) (get_or s 5 0) (get_or s 6 0) (get_or s 7 0)
  first_is = let e : take 8 s ≡ eight_at s 0 = eight_is s 0 (omega arith) in rw e (omega arith)

  first_fits : from_le_bytes w64 (take 8 s) < 2 ^ 64
  first_fits = rw first_is (omega (arith, b 0, b 1, b 2, b 3, b 4, b 5, b 6, b 7))

  -- the word at the front is the greatest exactly if its bytes are FF
  pub first_blank : eqb (from_le_bytes w64 (take 8 s)) 0xFFFF_FFFF_FFFF_FFFF ≡ blank (take 8 s)
  first_blank =
      let e : take 8 s ≡ eight_at s 0 = eight_is s 0 (omega arith) in
      ap (λ (w : ℕ). eqb w 0xFFFF_FFFF_FFFF_FFFF) first_is
      ∙ word_blank (get_or s 0 0) (get_or s 1 0) (get_or s 2 0) (get_or s 3 0) (get_or s 4 0) (get_or s 5 0) (get_or s 6 0) (get_or s 7 0)
      (b 0) (b 1) (b 2) (b 3) (b 4) (b 5) (b 6) (b 7)
      ∙ ap blank (sym e)

-- ---- the run behind k bytes

pub run_inside : (s : List ℕ) → blank_run s ≤ length s
unfolding blank_run
run_inside [] = omega arith
run_inside (x ∷ s) = go (eqb x 0xFF) refl (run_inside s) where
  go : (t : Bool) → eqb x 0xFF ≡ t → blank_run s ≤ length s → blank_run (x ∷ s) ≤ length (x ∷ s)
  go true e ih = rw (e, blank_run) (omega arith)
  go false e ih = rw (e, blank_run) (omega arith)

-- they are FF: the run goes on behind them
pub run_past : (k : ℕ) (s : List ℕ) → k ≤ length s → blank (take k s) ≡ true → blank_run s ≡ k + blank_run (drop k s)
unfolding blank_run blank
run_past zero s h e = sym (zero-add (blank_run s))
run_past (suc k) [] h e = absurd (not-suc-le-zero h)
run_past (suc k) (x ∷ s) h e = go (eqb x 0xFF) refl (run_past k s (omega arith)) where
  go : (t : Bool) → eqb x 0xFF ≡ t → (blank (take k s) ≡ true → blank_run s ≡ k + blank_run (drop k s))
      → blank_run (x ∷ s) ≡ suc k + blank_run (drop (suc k) (x ∷ s))
  go true q ih = rw (q, blank_run) (omega (arith, ih (rw (q, blank) at e)))
  go false q ih = absurd (let z : false ≡ true = rw (q, blank) at e in let y : ◌≡◌ {A = ℕ} 0 1 = cc in omega arith)

-- one of them is not: the run ends among them
pub run_short : (k : ℕ) (s : List ℕ) → blank (take k s) ≡ false → blank_run s < k
unfolding blank_run blank
run_short zero s e = absurd (let y : ◌≡◌ {A = ℕ} 0 1 = cc in omega arith)
run_short (suc k) [] e = absurd (let y : ◌≡◌ {A = ℕ} 0 1 = cc in omega arith)
run_short (suc k) (x ∷ s) e = go (eqb x 0xFF) refl (run_short k s) where
  go : (t : Bool) → eqb x 0xFF ≡ t → (blank (take k s) ≡ false → blank_run s < k) → blank_run (x ∷ s) < suc k
  go true q ih = rw (q, blank_run) (omega (arith, ih (rw (q, blank) at e)))
  go false q ih = rw (q, blank_run) (omega arith)
