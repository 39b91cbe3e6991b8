-- Repair 2: the first record and the second.
use Rattle.std.specs.Prelude.{ℕ, ◌+◌, ◌≤◌, ◌<◌, ◌≡◌, refl, Bool, length}
use Rattle.std.proofs.Common.{arith, sym, ap, ap₂, ◌∙◌, eq-eqb, ne_eqb}
use Rattle.std.proofs.Math.Bool.{true, false}
use mathlib.Core.List.{List, [], ◌∷◌}
use Rattle.spec.specs.Step.{Image, Step, program}
use Rattle.spec.specs.Basics.{Each}
use Rattle.spec.specs.Bytes.{is_clean, is_start}
use Rattle.spec.specs.Record.{Entry}
use Rattle.spec.specs.Chain.{Reading, reading_from}
use Rattle.spec.specs.Move.{close_steps}
use Rattle.flash.specs.declared.Meter.{Meter}
use Rattle.flash.specs.Did.{Did, did_none}
use Rattle.chain.specs.declared.Tally.{Tally}
use Rattle.reading.specs.declared.Survey.{Survey}
use Rattle.chain.specs.Rest.{entry_of, rest}
use Rattle.chain.specs.Faithful.{Stands, faithful}
use Rattle.chain.specs.Tally.{none_yet, tally}
use Rattle.chain.specs.TallyLaws.{first_is, second_is}
use Rattle.reading.specs.RuleLaws.{count_is}
use Rattle.reading.specs.Read.{first_cursor}
use Rattle.reading.specs.Survey.{Seen}
use Rattle.planning.specs.Repairs.{pair_steps, pair_head, steps_2, head_2}

-- what repair 2 did, and the head that it left
pub record MoveFinished (s : Image) (h : ℕ) (m : Meter) (t : Image) (head : ℕ) (r : Meter) : Type 0 where
  pub did : Did s m (steps_2 (length s) (reading_from s h).entries) t r
  pub head_is : head ≡ head_2 h (reading_from s h).entries

-- ---- by the second record's low byte

module _ (N h : ℕ) (x y : Entry) where
  pub pair_by : (t u : Bool) → is_clean y.it.low ≡ t → is_start y.it.low ≡ u
      → (pair_steps N x y ≡ elim t [
        | true ↦ close_steps N x y
            y.it.low
        | false ↦ elim u [ true ↦ program (x.at + 1) 0x00 ∷ [] | false ↦ [] ]
      ])
      × (pair_head h y ≡ elim t [ true ↦ y.at | false ↦ elim u [ true ↦ y.at | false ↦ h ] ])
  unfolding pair_steps pair_head
  pair_by true u e f = (rw (pair_steps, e), rw (pair_head, e))
  pair_by false true e f = (rw (pair_steps, e, f), rw (pair_head, e, f))
  pair_by false false e f = (rw (pair_steps, e, f), rw (pair_head, e, f))

-- ---- the first two records, by the tally

pub few : (N h : ℕ) (es : List Entry) → length es < 2 → (steps_2 N es ≡ []) × (head_2 h es ≡ h)
few N h [] l = (refl, refl)
few N h (x ∷ []) l = (refl, refl)
few N h (x ∷ (y ∷ es)) l = absurd (omega arith)

pub two : (s : Image) (N h : ℕ) (es : List Entry) (t : Tally) → t ≡ tally none_yet es → Each (Stands s) es → 2 ≤ length es
    → (steps_2 N es ≡ pair_steps N (entry_of s t.first) (entry_of s t.second)) × (head_2 h es ≡ pair_head h (entry_of s t.second))
two s N h [] t q f l = absurd (omega arith)
two s N h (x ∷ []) t q f l = absurd (omega arith)
two s N h (x ∷ (y ∷ es)) t q f l =
    let a : entry_of s t.first ≡ x = ap (λ (u : Tally). entry_of s u.first) q ∙ ap (entry_of s) (first_is x (y ∷ es)) ∙ f.0 in
    let b : entry_of s t.second ≡ y = ap (λ (u : Tally). entry_of s u.second) q ∙ ap (entry_of s) (second_is x y es) ∙ f.1.0 in
    (sym (ap₂ (pair_steps N) a b), sym (ap (pair_head h) b))

-- ---- what the code finds

module _ {s : Image} {h : ℕ} {v : Survey} (w : Seen s h v) where
  entries_are : (reading_from s h).entries ≡ (rest s (first_cursor s v.place.head)).entries
  entries_are = sym (ap (λ (r : Reading). r.entries) w.same)

  finish_by : {m r : Meter} {t : Image} (ss : List Step) (head : ℕ) → Did s m ss t r
      → (steps_2 (length s) (rest s (first_cursor s v.place.head)).entries ≡ ss)
      × (head_2 h (rest s (first_cursor s v.place.head)).entries ≡ head)
      → MoveFinished s h m t head r
  finish_by ss head d e =
      record { did = rw (ap (steps_2 (length s)) entries_are ∙ e.0) d; head_is = sym (ap (head_2 h) entries_are ∙ e.1) }

  pub finish_few : {m : Meter} → v.tally.records < 2 → MoveFinished s h m s h m
  finish_few {m} l =
      finish_by [] h (did_none s m)
      (few (length s) h (rest s (first_cursor s v.place.head)).entries (omega (arith, count_is w.surveyed.tallied)))

  module _ (l : 2 ≤ v.tally.records) where
    x : Entry
    x = entry_of s v.tally.first

    y : Entry
    y = entry_of s v.tally.second

    both : (steps_2 (length s) (rest s (first_cursor s v.place.head)).entries ≡ pair_steps (length s) x y)
        × (head_2 h (rest s (first_cursor s v.place.head)).entries ≡ pair_head h y)
    unfolding x y
    both =
        two s (length s) h (rest s (first_cursor s v.place.head)).entries v.tally w.surveyed.tallied.same
        (faithful s (first_cursor s v.place.head) w.surveyed.tallied.sound) (omega (arith, count_is w.surveyed.tallied))

    finish_pair : {m r : Meter} {t : Image} (ss : List Step) (head : ℕ) → Did s m ss t r
        → (pair_steps (length s) x y ≡ ss) × (pair_head h y ≡ head)
        → MoveFinished s h m t head r
    finish_pair ss head d e = finish_by ss head d (both.0 ∙ e.0, both.1 ∙ e.1)

    pub finish_clean : {m r : Meter} {t : Image} → is_clean (entry_of s v.tally.second).it.low ≡ true
        → Did s m (close_steps (length s) (entry_of s v.tally.first) (entry_of s v.tally.second)
        (entry_of s v.tally.second).it.low) t r
        → MoveFinished s h m t v.tally.second.at r
    unfolding x y
    finish_clean e d = finish_pair _ _ d (pair_by (length s) h x y true _ e refl)

    pub finish_start : {m r : Meter} {t : Image} → is_clean (entry_of s v.tally.second).it.low ≡ false
        → (entry_of s v.tally.second).it.low ≡ 0x00 → Did s m (program (v.tally.first.at + 1) 0x00 ∷ []) t r
        → MoveFinished s h m t v.tally.second.at r
    unfolding x y is_start
    finish_start c e d = finish_pair _ _ d (pair_by (length s) h x y false true c (eq-eqb y.it.low 0x00 e))

    pub finish_plain : {m : Meter} → is_clean (entry_of s v.tally.second).it.low ≡ false
        → ((entry_of s v.tally.second).it.low ≡ 0x00 → ⊥)
        → MoveFinished s h m s h m
    unfolding x y is_start
    finish_plain {m} c f = finish_pair [] h (did_none s m) (pair_by (length s) h x y false false c (ne_eqb y.it.low 0x00 f))
