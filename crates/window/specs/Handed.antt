-- What an emitter did: a list of steps went into the slices, as far as it lies in the window, and was counted.
use Rattle.std.specs.Prelude.{ℕ, suc, ◌+◌, ◌-◌, ◌≤◌, ◌<◌, ◌^◌, ◌≡◌, refl}
use Rattle.std.specs.Prelude.{true, false, List, [], ◌∷◌, ◌++◌, length, set, leb, ltb}
use Rattle.std.proofs.Common.{arith, sym, ap, ◌∙◌, length-append, le-leb, lt-ltb, le-ltb}
use Rattle.std.proofs.lemmas.Bool.{lt-leb}
use Rattle.spec.specs.Step.{Step}
use Rattle.spec.specs.Planner.{kind_of, address_of, byte_of, Slices, shortest}
use Rattle.window.specs.declared.Emitter.{Emitter}

abbrev pub slices : List ℕ → List ℕ → List ℕ → Slices
slices ks xs bs = record { kinds = ks; addresses = xs; bytes = bs }

-- what the slices of a window hold
abbrev pub held : Emitter → Slices
held w = slices w.kinds.now w.addresses.now w.bytes.now

-- they are the slices that were lent to it, so that their owner sees what they hold in the end
pub record Lent (w r : Emitter) : Type 0 where
  pub kinds : r.kinds.ghost_name ≡ w.kinds.ghost_name
  pub addresses : r.addresses.ghost_name ≡ w.addresses.ghost_name
  pub bytes : r.bytes.ghost_name ≡ w.bytes.ghost_name

pub lent_still : (w : Emitter) → Lent w w
lent_still w = record { kinds = refl; addresses = refl; bytes = refl }

lent_both : {w r q : Emitter} → Lent w r → Lent r q → Lent w q
lent_both d e = record { kinds = e.kinds ∙ d.kinds; addresses = e.addresses ∙ d.addresses; bytes = e.bytes ∙ d.bytes }

-- k steps more can be counted
abbrev pub Counts : Emitter → ℕ → Type 0
Counts w k = w.passed + k ≤ 2 ^ 32

-- ---- one step

-- a step as it stands in its slot
pub record Shown : Type 0 where
  pub kind : ℕ
  pub address : ℕ
  pub byte : ℕ

abbrev pub shown : ℕ → ℕ → ℕ → Shown
shown k a b = record { kind = k; address = a; byte = b }

abbrev pub shown_of : Step → Shown
shown_of x = shown (kind_of x) (address_of x) (byte_of x)

-- into the slot i
abbrev pub write_slot : ℕ → Shown → Slices → Slices
write_slot i x s = slices (set s.kinds i x.kind) (set s.addresses i x.address) (set s.bytes i x.byte)

-- the step with the number p, of a window from the step f on
unfoldable pub hand_one : ℕ → ℕ → Shown → Slices → Slices
hand_one f p x s = elim (leb f p) [ true ↦ elim (ltb (p - f) (shortest s)) [ true ↦ write_slot (p - f) x s | false ↦ s ] | false ↦ s ]

-- from the window w, a step gave the window r
pub record HandedOne (w : Emitter) (x : Shown) (r : Emitter) : Type 0 where
  pub slots : held r ≡ hand_one w.first w.passed x (held w)
  pub count : r.passed ≡ w.passed + 1
  pub same : r.first ≡ w.first
  pub lent : Lent w r

-- ---- a list of steps

-- the first of them has the number p
abbrev pub hand_all : ℕ → ℕ → List Step → Slices → Slices
hand_all f p [] s = s
hand_all f p (x ∷ ss) s = hand_all f (p + 1) ss (hand_one f p (shown_of x) s)

-- from the window w, the steps ss gave the window r
pub record Handed (w : Emitter) (ss : List Step) (r : Emitter) : Type 0 where
  pub slots : held r ≡ hand_all w.first w.passed ss (held w)
  pub count : r.passed ≡ w.passed + length ss
  pub same : r.first ≡ w.first
  pub lent : Lent w r

-- ---- phases

pub handed_none : (w : Emitter) → Handed w [] w
handed_none w = record { slots = refl; count = omega arith; same = refl; lent = lent_still w }

hand_append : (f p : ℕ) (a b : List Step) (s : Slices) → hand_all f p (a ++ b) s ≡ hand_all f (p + length a) b (hand_all f p a s)
hand_append f p [] b s = ap (λ (i : ℕ). hand_all f i b s) (omega arith)
hand_append f p (x ∷ a) b s =
    let t : Slices = hand_one f p (shown_of x) s in
    let e : p + 1 + length a ≡ p + suc (length a) = omega arith in
    hand_append f (p + 1) a b t ∙ ap (λ (i : ℕ). hand_all f i b (hand_all f (p + 1) a t)) e

-- one phase after another
pub handed_both : {w r q : Emitter} {a b : List Step} → Handed w a r → Handed r b q → Handed w (a ++ b) q
handed_both {w} {r} {q} {a} {b} d e =
    record {
      slots =
          e.slots
          ∙ rw (d.same, d.count, d.slots) (sym (hand_append w.first w.passed a b (held w)));
      count = omega (arith, d.count, e.count, length-append a b);
      same = e.same ∙ d.same;
      lent = lent_both d.lent e.lent;
    }

-- ---- steps outside the window

-- before it
pub one_before : (f p : ℕ) (x : Shown) (s : Slices) → p < f → hand_one f p x s ≡ s
unfolding hand_one
one_before f p x s h = rw (lt-leb f p h, hand_one)

-- behind it
pub one_behind : (f p : ℕ) (x : Shown) (s : Slices) → f + shortest s ≤ p → hand_one f p x s ≡ s
unfolding hand_one
one_behind f p x s h = rw (le-leb f p (omega arith), le-ltb (p - f) (shortest s) (omega arith), hand_one)

-- in it
pub one_inside : (f p : ℕ) (x : Shown) (s : Slices) → f ≤ p → p - f < shortest s → hand_one f p x s ≡ write_slot (p - f) x s
unfolding hand_one
one_inside f p x s h k = rw (le-leb f p h, lt-ltb (p - f) (shortest s) k, hand_one)

pub all_before : (f p : ℕ) (ss : List Step) (s : Slices) → p + length ss ≤ f → hand_all f p ss s ≡ s
all_before f p [] s h = refl
all_before f p (x ∷ ss) s h =
    ap (hand_all f (p + 1) ss) (one_before f p (shown_of x) s (omega arith)) ∙ all_before f (p + 1) ss s (omega arith)

pub all_behind : (f p : ℕ) (ss : List Step) (s : Slices) → f + shortest s ≤ p → hand_all f p ss s ≡ s
all_behind f p [] s h = refl
all_behind f p (x ∷ ss) s h =
    ap (hand_all f (p + 1) ss) (one_behind f p (shown_of x) s h) ∙ all_behind f (p + 1) ss s (omega arith)

-- so many steps passed that got no slot
abbrev pub past : Emitter → ℕ → Emitter
past w n = record w { passed = w.passed + n }

pub lent_past : (w : Emitter) (n : ℕ) → Lent w (past w n)
lent_past w n = record { kinds = refl; addresses = refl; bytes = refl }

pub handed_before : (w : Emitter) (ss : List Step) (n : ℕ) → length ss ≡ n → (0 < n → w.passed + n ≤ w.first) → Handed w ss (past w n)
handed_before w [] n e h = record { slots = refl; count = omega (arith, e); same = refl; lent = lent_past w n }
handed_before w (x ∷ ss) n e h =
    record {
      slots = sym (all_before w.first w.passed (x ∷ ss) (held w) (omega (arith, e, h (omega (arith, e)))));
      count = omega (arith, e);
      same = refl;
      lent = lent_past w n;
    }

pub handed_behind : (w : Emitter) (ss : List Step) (n : ℕ) → length ss ≡ n → w.first + shortest (held w) ≤ w.passed → Handed w ss (past w n)
handed_behind w ss n e h =
    record { slots = sym (all_behind w.first w.passed ss (held w) h); count = omega (arith, e); same = refl; lent = lent_past w n }

-- ---- the form of a loop: whatever hands out the steps that are left hands out all

-- from t on the steps b are left of the steps a from w on
abbrev pub Leads : Emitter → List Step → Emitter → List Step → Type 0
Leads w a t b = (r : Emitter) → Handed t b r → Handed w a r

module _ {w t : Emitter} {a b : List Step} (l : Leads w a t b) where
  -- some of them are handed out
  pub leads_more : {x c : List Step} {u : Emitter} → b ≡ x ++ c → Handed t x u → Leads w a u c
  leads_more e d r f = l r (rw e (handed_both d f))

  -- none is left
  pub leads_end : b ≡ [] → Handed w a t
  leads_end e = l t (rw e (handed_none t))

-- at the start all are left
pub leads_all : (w : Emitter) (a : List Step) → Leads w a w a
leads_all w a r h = h
