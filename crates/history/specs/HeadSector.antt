-- The records that begin in the head's sector are the first of the chain: addresses ascend from the head on, and behind the turn they
-- lie below its sector.
use Rattle.std.specs.Prelude.{ℕ, ◌+◌, ◌≤◌, ◌<◌, ◌≡◌, refl, Bool, true, false, List, [], ◌∷◌, ◌++◌, eqb}
use Rattle.std.proofs.Common.{arith, sym, ap, ap₂, ◌∙◌, subst, append_assoc, append-nil, eqb-true, ne_eqb}
use Rattle.std.proofs.lemmas.Bool.{eqb-false}
use Rattle.spec.specs.Step.{Image}
use Rattle.spec.specs.Basics.{Each, keep}
use Rattle.spec.specs.Geometry.{floor}
use Rattle.spec.specs.Record.{Rec, Entry}
use Rattle.laws.specs.Lists.{keep_yes}
use Rattle.history.specs.Lists.{keep_append, keep_none}
use Rattle.history.specs.Lay.{rsize, sizes, entries_of}
use Rattle.history.specs.Seg.{seg_none}
use Rattle.history.specs.Laid.{Laid, laid_straight, laid_turned}
use Rattle.history.specs.Ahead.{There}

abbrev pub near : ℕ → Entry → Bool
near h e = eqb (floor e.at) (floor h)

-- es begins with those of the head's sector
pub record Split (h : ℕ) (es : List Entry) : Type 0 where
  pub front : List Entry
  pub rest : List Entry
  pub is : es ≡ front ++ rest
  pub there : Each (There h) front
  pub kept : keep (near h) es ≡ front

floor_on : (h a b : ℕ) → floor h < floor a → floor h < floor (a + b)
floor_on h a b e = omega arith

floor_up : (h a b : ℕ) → floor h ≤ floor a → floor h ≤ floor (a + b)
floor_up h a b e = omega arith

past_none : (rs : List Rec) (at h : ℕ) → floor h < floor at → Each (λ e. near h e ≡ false) (entries_of at rs)
past_none [] at h e = tt
past_none (r ∷ rs) at h e = (ne_eqb (floor at) (floor h) (λ z. omega arith), past_none rs (at + rsize r) h (floor_on h at (rsize r) e))

low_none : (rs : List Rec) (at h : ℕ) → at + sizes rs ≤ floor h → Each (λ e. near h e ≡ false) (entries_of at rs)
low_none [] at h e = tt
low_none (r ∷ rs) at h e = (
  ne_eqb (floor at) (floor h) (λ z. low_not at (rsize r) (sizes rs) (floor h) e (omega arith) z),
  low_none rs (at + rsize r) h (omega arith),
)
  where
    low_not : (at s ss F : ℕ) → at + (s + ss) ≤ F → 1 ≤ s → floor at ≡ F → ⊥
    low_not at s ss F e o z = omega arith

high_split : (rs : List Rec) (at h : ℕ) → floor h ≤ floor at → Split h (entries_of at rs)
high_split [] at h e = record { front = []; rest = []; is = refl; there = tt; kept = refl }
high_split (r ∷ rs) at h e = go (eqb (floor at) (floor h)) refl (high_split rs (at + rsize r) h (floor_up h at (rsize r) e))
  where
    x : Entry
    x = record { at = at; it = r }

    go : (b : Bool) → eqb (floor at) (floor h) ≡ b → Split h (entries_of (at + rsize r) rs) → Split h (x ∷ entries_of (at + rsize r) rs)
    go true k s =
        record {
          front = x ∷ s.front;
          rest = s.rest;
          is = ap (λ (fs : List Entry). x ∷ fs) s.is;
          there = (eqb-true (floor at) (floor h) k, s.there);
          kept = keep_yes (near h) x (entries_of (at + rsize r) rs) k ∙ ap (λ (fs : List Entry). x ∷ fs) s.kept;
        }
    go false k s =
        let n : floor at ≡ floor h → ⊥ = eqb-false (floor at) (floor h) k in
        record {
          front = [];
          rest = x ∷ entries_of (at + rsize r) rs;
          is = refl;
          there = tt;
          kept = keep_none (near h) (entries_of at (r ∷ rs)) (past_none (r ∷ rs) at h (less (floor at) (floor h) e n));
        }
      where
        less : (a b : ℕ) → b ≤ a → (a ≡ b → ⊥) → b < a
        less a b e n = omega arith

split_append : {h : ℕ} {xs : List Entry} (ys : List Entry) → Split h xs → Each (λ e. near h e ≡ false) ys → Split h (xs ++ ys)
split_append {h} {xs} ys s n =
    record {
      front = s.front;
      rest = s.rest ++ ys;
      is = ap (λ (fs : List Entry). fs ++ ys) s.is ∙ append_assoc s.front s.rest ys;
      there = s.there;
      kept = keep_append (near h) xs ys ∙ ap₂ (λ (a b : List Entry). a ++ b) s.kept (keep_none (near h) ys n) ∙ append-nil s.front;
    }

pub split : {im : Image} {h S : ℕ} {t : Bool} {es : List Entry} {below free : List ℕ} → Laid im h S t es seg_none below free → Split h es
split {h = h} (laid_straight {x = x} {ys} f s a b c l q) = subst (Split h) (sym c) (high_split (x ∷ ys) h h (omega arith))
split {h = h} (laid_turned {low = low} {x = x} {ys} s a b c e) =
    subst (Split h) (sym c)
    (split_append (entries_of 0 low) (high_split (x ∷ ys) h h (omega arith))
    (low_none low 0 h (omega (arith, s.at, s.below, s.lost_small))))
