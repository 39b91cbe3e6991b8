-- The walk and the search, one turn at a time; what the head's enum says.
use Rattle.std.specs.Prelude.{ℕ, zero, suc, ◌+◌, ◌-◌, ◌≤◌, ◌<◌, ◌≡◌, refl, true, false, ◌||◌, List, length, take, drop, eqb, Err, Ok}
use Rattle.std.proofs.Common.{arith, not-suc-le-zero, sym, ap, ap₂, ◌∙◌, length-drop, drop-drop}
use borrow.Author.Rules.{part_to_end}
use Rattle.spec.specs.declared.Next.{Next}
use Rattle.spec.specs.Basics.{Answer, refuse, give}
use Rattle.spec.specs.Refusals.{refusal_numbers}
use Rattle.spec.specs.Bytes.{is_reserved}
use Rattle.spec.specs.Record.{size_of, start_here, clean_here, status_of}
use Rattle.spec.specs.Next.{record_at}
use Rattle.spec.specs.Head.{torn_here, walked_here, walk_next, walk, search, sought}
use Rattle.laws.specs.Next.{NotRecord}
use Rattle.laws.specs.Walk.{walk_torn, walk_step, walk_stop, search_hit, search_end, search_step}
use Rattle.chain.specs.Answers.{Headed}

-- the enum in document 01's words
abbrev pub headed : Headed → Answer ℕ
headed (Ok a) = give a
headed (Err x) = refuse (refusal_numbers x)

-- the head lies in the image
abbrev pub HeadInside : List ℕ → Headed → Type 0
HeadInside image (Ok a) = a ≤ length image
HeadInside image (Err x) = Unit {0}

-- ---- the walk: what it gives from here, with the fuel that is left, is what it gave from 0

pub record Walked (image : List ℕ) (at : ℕ) : Type 0 where
  pub fuel : ℕ
  pub enough : length image < at + fuel
  pub inside : at ≤ length image
  pub same : walk (suc (length image)) 0 image ≡ walk fuel at (drop at image)

-- a fuel that is enough is a successor
fueled : (P : ℕ → Type 0) (f : ℕ) → 0 < f → ((k : ℕ) → P (suc k)) → P f
fueled P zero h g = absurd (not-suc-le-zero h)
fueled P (suc k) h g = g k

pub walked_start : (image : List ℕ) → Walked image 0
walked_start image = record { fuel = suc (length image); enough = omega arith; inside = omega arith; same = refl }

module _ (image : List ℕ) (at : ℕ) (w : Walked image at) where
  pub walked_torn : torn_here (drop at image) ≡ true → at + 8 ≡ walk (suc (length image)) 0 image
  walked_torn h =
      sym (w.same ∙ fueled (λ f. walk f at (drop at image) ≡ at + 8) w.fuel (omega (arith, w.enough, w.inside))
      (λ k. walk_torn k at (drop at image) h))

  module _ (x : Next) (h : torn_here (drop at image) ≡ false) (e : x ≡ walk_next at (drop at image)) where
    pub walked_stop : NotRecord x → at ≡ walk (suc (length image)) 0 image
    walked_stop z =
        sym (w.same ∙ fueled (λ f. walk f at (drop at image) ≡ at) w.fuel (omega (arith, w.enough, w.inside))
        (λ k. walk_stop k at (drop at image) x h (sym e) z))

    pub walked_step : (n d : ℕ) → x ≡ Next.Record n d → size_of n d ≤ length image - at → Walked image (at + size_of n d)
    walked_step n d z l = go w.fuel w.enough w.same where
      go : (f : ℕ) → length image < at + f → walk (suc (length image)) 0 image ≡ walk f at (drop at image) → Walked image (at + size_of n d)
      go zero b q = absurd (omega (arith, w.inside))
      go (suc k) b q =
          record {
            fuel = k;
            enough = omega arith;
            inside = omega (arith, w.inside);
            same = q ∙ walk_step k at (drop at image) n d h (sym e ∙ z) ∙ ap (walk k (at + size_of n d)) (drop-drop (size_of n d) at image);
          }

-- ---- what the walk finds at an address: r read in the part p from there on

pub walk_next_is : (at : ℕ) (s p : List ℕ) (r : Next) (b : ℕ) → walked_here at s ≡ true → b ≡ status_of s → p ≡ s
    → r ≡ record_at (eqb b 0xFE) p
    → r ≡ walk_next at s
unfolding walk_next is_reserved
walk_next_is at s p r b h q e f = f ∙ ap₂ (λ (x : ℕ) (l : List ℕ). record_at (eqb x 0xFE) l) q e ∙ rw (h, walk_next)

pub length_part : (s : List ℕ) (a : ℕ) → length (take (length s - a) (drop a s)) ≡ length s - a
length_part s a = ap length (part_to_end s a) ∙ rw length-drop

-- ---- the search, likewise

pub record Sought (image : List ℕ) (from at : ℕ) : Type 0 where
  pub fuel : ℕ
  pub enough : length image ≤ at + fuel
  pub inside : at ≤ length image + 8
  pub same : sought image from ≡ search fuel at (drop at image)

pub sought_start : (image : List ℕ) (from : ℕ) → from ≤ length image + 8 → Sought image from from
sought_start image from h = record { fuel = length image; enough = omega arith; inside = h; same = refl }

module _ (image : List ℕ) (from at : ℕ) (w : Sought image from at) where
  pub sought_hit : (start_here (drop at image) || clean_here (drop at image)) ≡ true → at ≡ sought image from
  sought_hit h = sym (w.same ∙ search_hit w.fuel at (drop at image) h)

  module _ (h : (start_here (drop at image) || clean_here (drop at image)) ≡ false) where
    pub sought_end : length image ≤ at → at ≡ sought image from
    sought_end l = sym (w.same ∙ search_end w.fuel at (drop at image) h (rw length-drop (omega arith)))

    pub sought_step : at < length image → Sought image from (at + 8)
    sought_step l = go w.fuel w.enough w.same where
      go : (f : ℕ) → length image ≤ at + f → sought image from ≡ search f at (drop at image) → Sought image from (at + 8)
      go zero b q = absurd (omega (arith, l))
      go (suc k) b q =
          record {
            fuel = k;
            enough = omega arith;
            inside = omega arith;
            same = q ∙ search_step k at (drop at image) h (rw length-drop (omega arith)) ∙ ap (search k (at + 8)) (drop-drop 8 at image);
          }
