-- A record under way in a put or a copy: its states up to the reservation and through its name, each step and inside it.
use Rattle.std.specs.Prelude.{ℕ, zero, suc, ◌+◌, ◌-◌, ◌/◌, ◌%◌, ◌≤◌, ◌<◌, ◌≡◌, refl, Bool, true, false, List, [], ◌∷◌, ◌++◌, length, eqb, ltb}
use Rattle.std.proofs.Common.{arith, zero-add, sym, ap, ◌∙◌, subst, append_assoc, length-append, eqb-true, ltb-true, ltb-false}
use Rattle.std.proofs.lemmas.Bool.{eqb-false}
use Rattle.spec.specs.Step.{bytes_at}
use Rattle.spec.specs.Basics.{Each}
use Rattle.spec.specs.Geometry.{up8}
use Rattle.spec.specs.Record.{size_of}
use Rattle.spec.specs.Write.{header_steps}
use Rattle.laws.specs.Steps.{on_blank}
use Rattle.history.specs.Between.{Between, between_most, Begun, begun_ff, begun_5a, begun_next, First, first_a5, High, high_ff}
use Rattle.history.specs.Between.{high_of, one_bit}
use Rattle.history.specs.Blanks.{blanks, blank_split, split_front}
use Rattle.history.specs.Lay.{pad, lens, Printable, header}
use Rattle.history.specs.Safe.{Safe, safe_bytes}
use Rattle.history.specs.Seg.{Seg, seg_none, seg_torn, seg_cut, seg_onto, seg_size}

-- ---- the states of a record under way, each with f bytes from its start to what follows, s

-- f bytes, of which some are taken by something unfinished and the others are FF
pub record Opened (f : ℕ) (s l : List ℕ) : Type 0 where
  pub seg : Seg
  pub left : ℕ
  pub is : l ≡ seg_onto seg (blanks left ++ s)
  pub sum : seg_size seg + left ≡ f

-- FF after FF
joined_blanks : (a b c m : ℕ) (s : List ℕ) → m ≡ a + (b + c) → blanks m ++ s ≡ blanks a ++ (blanks b ++ (blanks c ++ s))
joined_blanks a b c m s e = split_front a (b + c) m s e ∙ ap (λ (l : List ℕ). blanks a ++ l) (split_front b c (b + c) s refl)

printable_at : (u : List ℕ) (b : ℕ) (t : List ℕ) → Printable (u ++ (b ∷ t)) → Printable u × ((0x20 ≤ b) × (b ≤ 0x7F))
printable_at [] b t p = (tt, p.0)
printable_at (x ∷ u) b t p = let q = printable_at u b t p.1 in ((p.0, q.0), q.1)

printable_end : (u : List ℕ) (v : ℕ) → Printable u → (0x20 ≤ v) × (v ≤ 0x7F) → Printable (u ++ (v ∷ []))
printable_end [] v p q = (q, tt)
printable_end (x ∷ u) v p q = (p.0, printable_end u v p.1 q)

printable_bytes : (n : List ℕ) → Printable n → Each (λ b. b < 256) n
printable_bytes [] p = tt
printable_bytes (x ∷ n) p = (omega (arith, p.0.1), printable_bytes n p.1)

-- below FF
pub less_ff : (v : ℕ) → v ≤ 0xFF → (v ≡ 0xFF → ⊥) → v < 0xFF
less_ff v h n = omega arith

-- a name with j bytes written, and the byte e, 80 or more, behind them
pub cut_state : {e : ℕ} (d j f m : ℕ) (n s : List ℕ) → High e → length n ≡ j → j < 64 → Printable n → d < 4294967296 → size_of j d ≤ f → m + j + 9 ≡ f
    → Opened f s (header d (n ++ (e ∷ (blanks m ++ s))))
cut_state {e} d j f m n s g i h p l r k =
    let left : ℕ = f - size_of j d in
    record {
      seg = seg_cut {e = e} d n (record { short = omega arith; printable = p; small = l }) g;
      left = left;
      is = ap (λ (z : List ℕ). header d (n ++ (e ∷ z))) (joined_blanks (pad (length n + 1)) (up8 d) left m s (omega arith));
      sum = rw i (omega arith);
    }

-- the same, where FF stands behind them
blank_state : (d j f m : ℕ) (n s : List ℕ) → length n ≡ j → j < 64 → Printable n → d < 4294967296 → size_of j d ≤ f → m + j + 8 ≡ f
    → Opened f s (header d (n ++ (blanks m ++ s)))
blank_state d j f zero n s i h p l r k = absurd (omega arith)
blank_state d j f (suc m) n s i h p l r k = cut_state d j f m n s high_ff i h p l r (omega arith)

torn_state : {b c : ℕ} (x y z w f : ℕ) (s : List ℕ) → First b → Begun c → 16 ≤ f
    → Opened f s (b ∷ c ∷ 0xFF ∷ 0xFF ∷ x ∷ y ∷ z ∷ w ∷ (blanks (f - 8) ++ s))
torn_state {b} {c} x y z w f s o g h =
    record {
      seg = seg_torn {a = b} c x y z w 0xFF g o;
      left = f - 16;
      is = ap (λ (l : List ℕ). b ∷ c ∷ 0xFF ∷ 0xFF ∷ x ∷ y ∷ z ∷ w ∷ l)
          (ap (λ (l : List ℕ). l ++ s) (blank_split 8 (f - 16) (f - 8) (omega arith)));
      sum = omega arith;
    }

none_state : (f : ℕ) (s : List ℕ) → 8 ≤ f → Opened f s (blanks 8 ++ (blanks (f - 8) ++ s))
none_state f s h =
    record {
      seg = seg_none;
      left = f;
      is = sym (append_assoc (blanks 8) (blanks (f - 8)) s) ∙ ap (λ (z : List ℕ). z ++ s) (sym (blank_split 8 (f - 8) f (omega arith)));
      sum = zero-add f;
    }

-- the header: each step, and inside it
pub header_safe : (d f : ℕ) (s : List ℕ) → d < 4294967296 → size_of 0 d ≤ f → Safe (Opened f s) (blanks 8 ++ (blanks (f - 8) ++ s)) (header_steps d)
header_safe d f s l h =
    let t : 16 ≤ f = omega arith in
    let e : 8 ≤ f = omega arith in
    let torn : (x y z w : ℕ) → Opened f s (0xA5 ∷ 0x5A ∷ 0xFF ∷ 0xFF ∷ x ∷ y ∷ z ∷ w ∷ (blanks (f - 8) ++ s)) =
    λ x y z w. torn_state x y z w f s first_a5 begun_5a t in (
      none_state f s e,
      (omega arith, refl),
      (λ v i. first v (eqb v 0xFF) refl i),
      (
        torn_state 0xFF 0xFF 0xFF 0xFF f s first_a5 begun_ff t,
        (omega arith, refl),
        (λ v i. torn_state 0xFF 0xFF 0xFF 0xFF f s first_a5 (begun_next i) t),
        (
          torn 0xFF 0xFF 0xFF 0xFF,
          (omega arith, on_blank (d % 256) (omega arith)),
          (λ v i. torn v 0xFF 0xFF 0xFF),
          (
            torn _ 0xFF 0xFF 0xFF,
            (omega arith, on_blank (d / 256 % 256) (omega arith)),
            (λ v i. torn _ v 0xFF 0xFF),
            (
              torn _ _ 0xFF 0xFF,
              (omega arith, on_blank (d / 65536 % 256) (omega arith)),
              (λ v i. torn _ _ v 0xFF),
              (
                torn _ _ _ 0xFF,
                (omega arith, on_blank (d / 16777216 % 256) (omega arith)),
                (λ v i. torn _ _ _ v),
                (
                  torn _ _ _ _,
                  (omega arith, refl),
                  (λ v i. one_bit (λ v. Opened f s (0xA5 ∷ 0x5A ∷ v ∷ 0xFF ∷ lens d (blanks (f - 8) ++ s))) 0xFF 0xFE refl (omega arith) (torn _ _ _ _) done v i),
                  done,
                ),
              ),
            ),
          ),
        ),
      ),
    )
  where
    first : (v : ℕ) (b : Bool) → eqb v 0xFF ≡ b → Between 0xFF 0xA5 v
        → Opened f s (v ∷ 0xFF ∷ 0xFF ∷ 0xFF ∷ 0xFF ∷ 0xFF ∷ 0xFF ∷ 0xFF ∷ (blanks (f - 8) ++ s))
    first v true q i =
        subst (λ (v : ℕ). Opened f s (v ∷ 0xFF ∷ 0xFF ∷ 0xFF ∷ 0xFF ∷ 0xFF ∷ 0xFF ∷ 0xFF ∷ (blanks (f - 8) ++ s))) (sym (eqb-true v 0xFF q))
        (none_state f s (omega arith))
    first v false q i =
        let n : v ≡ 0xFF → ⊥ = eqb-false v 0xFF q in
        torn_state 0xFF 0xFF 0xFF 0xFF f s (record { way = i.keeps; less = less_ff v (between_most i) n }) begun_ff (omega arith)

    done : Opened f s (header d (blanks (f - 8) ++ s))
    done = blank_state d 0 f (f - 8) [] s refl (omega arith) tt l h (omega arith)

-- the name: each byte, and inside it
pub name_safe : (d f : ℕ) (n s : List ℕ) → length n < 64 → Printable n → d < 4294967296 → size_of (length n) d ≤ f
    → Safe (Opened f s) (header d (blanks (f - 8) ++ s)) (bytes_at 8 n)
name_safe d f n s h p l i =
    safe_bytes (Opened f s) (header d []) n s 8 (f - 8) (f - 8 - length n) refl (omega arith) (printable_bytes n p)
    (blank_state d 0 f (f - 8) [] s refl (omega arith) tt l (omega arith) (omega arith)) inside
  where
    inside : (u : List ℕ) (b v j : ℕ) (t : List ℕ) → n ≡ u ++ (b ∷ t) → b ≤ v → v < 256 → f - 8 ≡ length u + suc j
        → Opened f s ((header d [] ++ (u ++ (v ∷ []))) ++ (blanks j ++ s))
    inside u b v j t e m r k = go (ltb v 0x80) refl
      where
        q : Printable u × ((0x20 ≤ b) × (b ≤ 0x7F))
        q = printable_at u b t (subst Printable e p)

        len : length n ≡ length u + suc (length t)
        len = ap length e ∙ length-append u (b ∷ t)

        go : (x : Bool) → ltb v 0x80 ≡ x → Opened f s (header d [] ++ (u ++ (v ∷ [])) ++ (blanks j ++ s))
        go true z =
            blank_state d (length u + 1) f j (u ++ (v ∷ [])) s (length-append u (v ∷ [])) (omega (arith, len))
            (printable_end u v q.0 (omega (arith, q.1.0), omega (arith, ltb-true v 0x80 z))) l (omega (arith, len)) (omega arith)
        go false z =
            subst (λ (y : List ℕ). Opened f s (header d y)) (sym (append_assoc u (v ∷ []) (blanks j ++ s)))
            (cut_state d (length u) f j u s (high_of v r (ltb-false v 0x80 z)) refl (omega (arith, len)) q.0 l (omega (arith, len)) (omega arith))
