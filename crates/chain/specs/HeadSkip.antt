-- A run of FF that the search for the head passes over at once: no boundary in it is a head, and it need not be tested again.
use Rattle.std.specs.Prelude.{ℕ, zero, suc, ◌+◌, ◌-◌, ◌*◌, ◌/◌, ◌≤◌, ◌<◌, ◌≡◌, refl, Bool, true, false, ◌||◌, List, [], ◌∷◌, length, drop, get_or, leb}
use Rattle.std.proofs.Common.{arith, not-suc-le-zero, sym, ap, subst, ◌∙◌, length-drop, drop-drop, get_or-drop, le-leb, leb-true, leb-false}
use Rattle.std.proofs.lemmas.Bool.{lt-leb}
use Rattle.spec.specs.Basics.{blank}
use Rattle.spec.specs.Geometry.{up8}
use Rattle.spec.specs.Bytes.{is_start, is_clean, is_high}
use Rattle.spec.specs.Record.{start_here, clean_here}
use Rattle.spec.specs.Head.{search, sought}
use Rattle.spec.specs.Reading.{blank_part}
use Rattle.laws.specs.Walk.{search_hit, search_end, search_step}
use Rattle.laws.specs.Parts.{part_window}
use Rattle.flash.specs.Blank.{blank_run, run_on, run_over, run_byte, run_behind, run_holds}
use Rattle.chain.specs.declared.Stretch.{Stretch}
use Rattle.chain.specs.HeadLaws.{Sought, sought_start, sought_step}
use Rattle.chain.specs.FreeLaws.{part_empty}

-- ---- the search: boundaries that begin with FF

-- FF begins neither a START nor a CLEAN
unmarked : (image : List ℕ) (a : ℕ) → get_or image a 0 ≡ 0xFF → (start_here (drop a image) || clean_here (drop a image)) ≡ false
unfolding is_start is_clean
unmarked image a h =
    let e : a + 0 ≡ a = omega arith in
    let q : get_or (drop a image) 0 0 ≡ 0xFF = rw get_or-drop (ap (λ (i : ℕ). get_or image i 0) e ∙ h) in
    rw q

-- k boundaries from at on
past : (image : List ℕ) (from at k : ℕ) → Sought image from at → at + 8 * k < length image + 8
    → ((j : ℕ) → j < k → get_or image (at + 8 * j) 0 ≡ 0xFF) → Sought image from (at + 8 * k)
past image from at zero w l h = let e : at ≡ at + 8 * 0 = omega arith in subst (λ (n : ℕ). Sought image from n) e w
past image from at (suc k) w l h =
    let v : Sought image from (at + 8 * k) = past image from at k w (omega arith) (λ (j : ℕ) (m : j < k). h j (omega arith)) in
    let e : at + 8 * k + 8 ≡ at + 8 * suc k = omega arith in
    subst (λ (n : ℕ). Sought image from n) e
    (sought_step image from (at + 8 * k) v (unmarked image (at + 8 * k) (h k (omega arith))) (omega arith))

-- from a boundary to the one at r; those between them begin with FF
pub record Skips (image : List ℕ) (at r : ℕ) : Type 0 where
  pub count : ℕ
  pub far : r ≡ at + 8 + 8 * count
  pub inside : r < length image + 8
  pub blank : (j : ℕ) → j < count → get_or image (at + 8 + 8 * j) 0 ≡ 0xFF

pub skips_one : (image : List ℕ) (at : ℕ) → at < length image → Skips image at (at + 8)
skips_one image at l = record { count = 0; far = omega arith; inside = omega arith; blank = λ j h. absurd (not-suc-le-zero h) }

-- a byte of the run at an address
in_run : (image : List ℕ) (at i : ℕ) → i < blank_run (drop at image) → get_or image (at + i) 0 ≡ 0xFF
in_run image at i h = sym (get_or-drop at image i 0) ∙ run_byte (drop at image) i h

pub skips_run : (image : List ℕ) (at n : ℕ) → get_or image at 0 ≡ 0xFF → at < length image → n ≡ blank_run (drop at image)
    → at + n ≤ length image → Skips image at (at + up8 n)
skips_run image at n f l e i =
    let on = run_on image at l f in
    record {
      count = (n - 1) / 8;
      far = omega (arith, on);
      inside = omega (arith, on);
      blank =
          λ j h.
          let q : at + (8 + 8 * j) ≡ at + 8 + 8 * j = omega arith in
          sym (ap (λ (m : ℕ). get_or image m 0) q) ∙ in_run image at (8 + 8 * j) (omega (arith, on));
    }

pub sought_skip : (image : List ℕ) (from at r : ℕ) → Sought image from at
    → (start_here (drop at image) || clean_here (drop at image)) ≡ false → at < length image → Skips image at r → Sought image from r
sought_skip image from at r w h l t =
    subst (λ (n : ℕ). Sought image from n) (sym t.far)
    (past image from (at + 8) t.count (sought_step image from at w h l) (omega (arith, t.far, t.inside)) t.blank)

-- the search from there finds what the search from the start does
none_here : (start_here [] || clean_here []) ≡ false
unfolding is_start is_clean is_high
none_here = refl

at_end : (k at : ℕ) (s : List ℕ) → length s ≤ 0 → search k at s ≡ at
at_end k at [] h = search_end k at [] none_here (omega arith)
at_end k at (x ∷ s) h = absurd (not-suc-le-zero h)

one_more : (k j at : ℕ) (s : List ℕ) → search k (at + 8) (drop 8 s) ≡ search j (at + 8) (drop 8 s)
    → search (suc k) at s ≡ search (suc j) at s
one_more k j at [] q = at_end (suc k) at [] (omega arith) ∙ sym (at_end (suc j) at [] (omega arith))
one_more k j at (x ∷ s) q = go (start_here (x ∷ s) || clean_here (x ∷ s)) refl where
  go : (t : Bool) → (start_here (x ∷ s) || clean_here (x ∷ s)) ≡ t → search (suc k) at (x ∷ s) ≡ search (suc j) at (x ∷ s)
  go true e = search_hit (suc k) at (x ∷ s) e ∙ sym (search_hit (suc j) at (x ∷ s) e)
  go false e = search_step k at (x ∷ s) e (omega arith) ∙ q ∙ sym (search_step j at (x ∷ s) e (omega arith))

enough : (k j at : ℕ) (s : List ℕ) → length s ≤ k → length s ≤ j → search k at s ≡ search j at s
enough zero j at s h g = at_end zero at s h ∙ sym (at_end j at s h)
enough (suc k) zero at s h g = at_end (suc k) at s g ∙ sym (at_end zero at s g)
enough (suc k) (suc j) at s h g =
    one_more k j at s (enough k j (at + 8) (drop 8 s) (rw length-drop (omega arith)) (rw length-drop (omega arith)))

sought_again : (image : List ℕ) (from at : ℕ) → Sought image from at → sought image at ≡ sought image from
sought_again image from at w =
    enough (length image) w.fuel at (drop at image) (rw length-drop (omega arith)) (rw length-drop (omega (arith, w.enough)))
    ∙ sym w.same

-- past a run that begins at `from`
sought_run : (image : List ℕ) (from n : ℕ) → from ≤ length image + 8 → n ≡ blank_run (drop from image) → n ≤ length image - from
    → Sought image from (from + up8 n)
sought_run image from zero l e i =
    let q : from ≡ from + up8 0 = omega arith in subst (λ (m : ℕ). Sought image from m) q (sought_start image from l)
sought_run image from (suc m) l e i =
    let a : from + 0 ≡ from = omega arith in
    let f : get_or image from 0 ≡ 0xFF = sym (ap (λ (j : ℕ). get_or image j 0) a) ∙ in_run image from 0 (omega (arith, e)) in
    sought_skip image from from (from + up8 (suc m)) (sought_start image from l) (unmarked image from f) (omega arith)
    (skips_run image from (suc m) f (omega arith) e (omega arith))

pub sought_past : (image : List ℕ) (from n : ℕ) → from ≤ length image + 8 → n ≡ blank_run (drop from image) → n ≤ length image - from
    → sought image (from + up8 n) ≡ sought image from
sought_past image from n l e i = sought_again image from (from + up8 n) (sought_run image from n l e i)

-- ---- the free run: what lies in the run is not tested again

-- the run of FF at b's address, all of it
pub record BlankThere (image : List ℕ) (b : Stretch) : Type 0 where
  pub whole : b.to ≡ b.from + blank_run (drop b.from image)

module _ (image : List ℕ) (k : Stretch) (a b : ℕ) (w : BlankThere image k) (l : k.from ≤ a) (m : a < k.to) where
  -- from a on
  behind : k.to ≡ a + blank_run (drop a image)
  behind =
      let q : k.from + (a - k.from) ≡ a = omega arith in
      let r = run_behind (a - k.from) (drop k.from image) (omega (arith, w.whole)) in
      let d : blank_run (drop (a - k.from) (drop k.from image)) ≡ blank_run (drop a image)
      = ap blank_run (drop-drop (a - k.from) k.from image ∙ ap (λ (n : ℕ). drop n image) q) in
      omega (arith, w.whole, r, d)

  pub part_known : b ≤ length image → leb b k.to ≡ blank_part a b image
  part_known h = go (leb b a) refl where
    same : (t : Bool) → leb b k.to ≡ t → a < b → leb b k.to ≡ leb (b - a) (blank_run (drop a image))
    same true e i = e ∙ sym (le-leb (b - a) (blank_run (drop a image)) (let o = leb-true b k.to e in omega (arith, behind)))
    same false e i = e ∙ sym (lt-leb (b - a) (blank_run (drop a image)) (let o = leb-false b k.to e in omega (arith, behind)))

    go : (t : Bool) → leb b a ≡ t → leb b k.to ≡ blank_part a b image
    go true e = let i : b ≤ a = leb-true b a e in le-leb b k.to (omega arith) ∙ part_empty image a b i
    go false e =
        let i : a < b = leb-false b a e in
        same (leb b k.to) refl i
        ∙ sym (run_holds (b - a) (drop a image) (rw length-drop (omega arith))) ∙ ap blank (part_window a b image (omega arith))

-- ---- the run as the code finds it: in the part p from an address on

pub blank_at : (image p : List ℕ) (at n : ℕ) → n ≡ blank_run p → p ≡ drop at image → BlankThere image (record { from = at; to = at + n })
blank_at image p at n e q = record { whole = ap (λ (k : ℕ). at + k) (e ∙ ap blank_run q) }

-- at the end and past it there is none
pub blank_none : (image : List ℕ) (at : ℕ) → length image ≤ at → BlankThere image (record { from = at; to = at })
blank_none image at h = record { whole = let q = run_over image at h in omega (arith, q) }

pub run_of_stretch : (image : List ℕ) (b : Stretch) (at : ℕ) → BlankThere image b → b.from ≡ at → b.to - at ≡ blank_run (drop at image)
run_of_stretch image b at w e =
    let q : blank_run (drop b.from image) ≡ blank_run (drop at image) = ap (λ (n : ℕ). blank_run (drop n image)) e in
    omega (arith, w.whole, q)
