-- What a function that writes did: a list of steps, as many of them as the allowance let through.
use Rattle.std.specs.Prelude.{ℕ, zero, suc, ◌+◌, ◌-◌, ◌≤◌, ◌<◌, ◌≡◌, refl, ◌⊎◌, List, [], ◌∷◌, ◌++◌, length, take, drop}
use Rattle.std.proofs.Common.{arith, add-zero, sym, ap, ◌∙◌, inl, inr, ⊎_elim, append-nil, length-append, drop_of_length-le, length-drop, take_all}
use Rattle.std.proofs.Math.Seq.{take-nil}
use borrow.Rule.Slice.PartMut.{put_mid}
use borrow.Author.Rules.{part_to_end}
use Rattle.spec.specs.Step.{Image, Step, apply, run, shifted}
use Rattle.flash.specs.declared.Meter.{Meter}
use Rattle.laws.specs.Steps.{run_cut, take_shifted, length_shifted, run_part}
use Rattle.flash.specs.Meters.{Enough}

-- from the image s and the meter m, the steps ss gave the image t and the meter r
pub record Did (s : Image) (m : Meter) (ss : List Step) (t : Image) (r : Meter) : Type 0 where
  pub bytes : t ≡ run s (take (m.allowance - m.asked) ss)
  pub count : r.asked ≡ m.asked + length ss
  pub same : r.allowance ≡ m.allowance

-- ---- one step, within the allowance and past it

pub one_in : (s : Image) (k : ℕ) (x : Step) → 0 < k → apply s x ≡ run s (take k (x ∷ []))
one_in s zero x h = absurd (omega arith)
one_in s (suc k) x h = ap (run (apply s x)) (sym (take-nil k))

pub one_out : (s : Image) (k : ℕ) (x : Step) → k ≡ 0 → s ≡ run s (take k (x ∷ []))
one_out s k x h = rw h

-- a step is done or is not
one_of : (s : Image) (k : ℕ) (x : Step) → (run s (take k (x ∷ [])) ≡ apply s x) ⊎ (run s (take k (x ∷ [])) ≡ s)
one_of s zero x = inr refl
one_of s (suc k) x = inl (sym (one_in s (suc k) x (omega arith)))

pub did_one : {s t : Image} {m r : Meter} {x : Step} → Did s m (x ∷ []) t r → (t ≡ apply s x) ⊎ (t ≡ s)
did_one {s} {t} {m} {r} {x} d =
    ⊎_elim (λ e. inl (d.bytes ∙ e)) (λ e. inr (d.bytes ∙ e)) (one_of s (m.allowance - m.asked) x)

-- ---- phases

pub did_none : (s : Image) (m : Meter) → Did s m [] s m
did_none s m = record { bytes = ap (run s) (sym (take-nil (m.allowance - m.asked))); count = sym (add-zero m.asked); same = refl }

-- one phase after another
pub did_both : {s t u : Image} {m r q : Meter} {a b : List Step} → Did s m a t r → Did t r b u q → Did s m (a ++ b) u q
did_both {s} {t} {u} {m} {r} {q} {a} {b} d e =
    let n : m.allowance - (m.asked + length a) ≡ m.allowance - m.asked - length a = omega arith in
    record {
      bytes =
          e.bytes
          ∙ rw (d.same, d.count, d.bytes)
          (ap (λ (i : ℕ). run (run s (take (m.allowance - m.asked) a)) (take i b)) n ∙ sym (run_cut s (m.allowance - m.asked) a b));
      count = omega (arith, length-append a b);
      same = e.same ∙ d.same;
    }

-- no more steps asked for than allowed: all are done
pub did_all : {s t : Image} {m r : Meter} {ss : List Step} → Did s m ss t r → Enough r → t ≡ run s ss
did_all {s} {t} {m} {r} {ss} d h =
    d.bytes ∙ ap (run s) (take_all (m.allowance - m.asked) ss (omega (arith, d.count, d.same)))

-- ---- a part that begins at address a

did_part : (s : Image) (a : ℕ) {t : Image} {m r : Meter} {ss : List Step} → a ≤ length s → Did (drop a s) m ss t r
    → Did s m (shifted a ss) (take a s ++ t) r
did_part s a {t} {m} {r} {ss} h d =
    let k : ℕ = m.allowance - m.asked in
    record {
      bytes = ap (λ (l : List ℕ). take a s ++ l) d.bytes ∙ sym (ap (run s) (take_shifted k a ss) ∙ run_part s a (take k ss) h);
      count = d.count ∙ ap (λ (i : ℕ). m.asked + i) (sym (length_shifted a ss));
      same = d.same;
    }

-- what was done to the part lent as `&mut s[a..]`, as steps of the whole
pub did_tail : (s : Image) (a : ℕ) {t : Image} {m r : Meter} {ss : List Step} → a ≤ length s
    → Did (take (length s - a) (drop a s)) m ss t r → Did s m (shifted a ss) (put_mid a (length s - a) s t) r
did_tail s a {t} {m} {r} {ss} h d =
    let e : drop (length s - a) (drop a s) ≡ [] = drop_of_length-le (drop a s) {i = length s - a} (omega (arith, length-drop a s)) in
    rw (e, append-nil t) (did_part s a h (rw (part_to_end s a) at d))
