-- The steps of a put, exact by case, on every image on which it is not refused.
use Rattle.std.specs.Prelude.{ℕ, ◌+◌, ◌≤◌, ◌≡◌, refl, Bool, true, false, List, [], ◌∷◌, ◌++◌, length}
use Rattle.std.proofs.Common.{arith, sym, ap, ◌∙◌, subst, length-append}
use Rattle.std.proofs.Math.Option.{Option, none, some}
use Rattle.spec.specs.declared.Place.{Place}
use Rattle.spec.specs.Step.{Image, Step, shifted}
use Rattle.spec.specs.Basics.{give, checked, numbered}
use Rattle.spec.specs.Bytes.{is_committed}
use Rattle.spec.specs.Record.{size_of, Entry}
use Rattle.spec.specs.Chain.{Reading}
use Rattle.spec.specs.Files.{file_named}
use Rattle.spec.specs.Place.{address, with_marker, room}
use Rattle.spec.specs.Write.{status_step, migrate_steps, delete_steps, marker_steps, turn_steps, record_steps, put_steps}
use Rattle.spec.specs.Answers.{Plan, putting, put_into, put_plan}
use Rattle.spec.specs.Door.{settled_reading, admitted_named}
use Rattle.spec.specs.History.{three_if}
use Rattle.spec.specs.Bounds.{AtMost, old_count, put_count, PutExact, PutBound, PutKinds}
use Rattle.laws.specs.Tests.{either}
use Rattle.laws.specs.Steps.{length_shifted}
use Rattle.history.specs.Put.{length_record}
use Rattle.history.specs.StepCounts.{most_length, most_programs}
use Rattle.history.specs.Landing.{put_programs}
use Rattle.history.specs.Used.{used_bound, used_kinds}
use Rattle.laws.specs.Answer.{gave}
use Rattle.laws.specs.Door.{named_gives}

-- ---- the list

-- FC to F8, and 00
old_steps : (o : Option Entry) → length (migrate_steps o) + length (delete_steps o) ≡ old_count o
old_steps none = refl
old_steps (some e) = go (is_committed e.it.status)
  where
    go : (b : Bool) → length {A = Step} (elim b as (λ x. List Step) [ true ↦ status_step e 0xF8 ∷ [] | false ↦ [] ]) + 1
        ≡ elim b as (λ x. ℕ) [ true ↦ 2 | false ↦ 1 ]
    go true = refl
    go false = refl

turn_count : (p : Place) (s : ℕ) → length (turn_steps p s) ≡ three_if (with_marker p s)
turn_count p s = go (with_marker p s)
  where
    go : (b : Bool) → length {A = Step} (elim b as (λ x. List Step) [ true ↦ shifted p.tail marker_steps | false ↦ [] ]) ≡ three_if b
    go true = refl
    go false = refl

-- a put's list, and that of a copy, which is one
pub put_steps_count : (p : Place) (o : Option Entry) (n c : List ℕ)
    → length (put_steps p o n c) ≡ length n + length c + 10 + old_count o + three_if (with_marker p (size_of (length n) (length c)))
unfolding put_steps
put_steps_count p o n c =
    let s : ℕ = size_of (length n) (length c) in
    let R : List Step = shifted (address p s) (record_steps n c) in
    let a : length (put_steps p o n c) ≡ length (migrate_steps o) + (length (turn_steps p s) + (length R + length (delete_steps o))) =
    length-append (migrate_steps o) (turn_steps p s ++ (R ++ delete_steps o))
    ∙ ap (λ (z : ℕ). length (migrate_steps o) + z) (length-append (turn_steps p s) (R ++ delete_steps o)
    ∙ ap (λ (z : ℕ). length (turn_steps p s) + z) (length-append R (delete_steps o))) in
    omega (arith, a, old_steps o, turn_count p s, length_shifted (address p s) (record_steps n c), length_record n c)

old_most : (o : Option Entry) → old_count o ≤ 2
old_most none = omega arith
old_most (some e) = either (λ (n : ℕ). n ≤ 2) (is_committed e.it.status) 2 1 (omega arith) (omega arith)

three_most : (b : Bool) → three_if b ≤ 3
three_most true = omega arith
three_most false = omega arith

pub put_steps_most : (p : Place) (o : Option Entry) (n c : List ℕ) → AtMost (length n + length c + 15) 0 (put_steps p o n c)
put_steps_most p o n c =
    most_programs (put_steps p o n c) (put_programs p o n c)
    (omega (arith, put_steps_count p o n c, old_most o, three_most (with_marker p (size_of (length n) (length c)))))

-- ---- the call

-- a put that is not refused: the image is settled, and the plan is put's list
record Given (n c : List ℕ) (im : Image) (p : Plan) : Type 0 where
  pub r : Reading
  pub settled : settled_reading im ≡ give r
  pub is : putting n c im r ≡ p

given_by : (n c : List ℕ) (im : Image) (p : Plan) (r : Reading) → settled_reading im ≡ give r → put_into n c im r ≡ give p → Given n c im p
unfolding put_into
given_by n c im p r s e = into (room r.place n (size_of (length n) (length c)) r.entries) e
  where
    P : Plan
    P = putting n c im r

    into : (b : Bool) → checked b (numbered 28) (give P) ≡ give p → Given n c im p
    into false k = absurd (let z : ◌≡◌ {A = ℕ} 0 1 = cc in omega arith)
    into true k = record { r = r; settled = s; is = cc }

given : (n c : List ℕ) (im : Image) (p : Plan) → put_plan n c im ≡ give p → Given n c im p
unfolding put_plan
given n c im p e =
    let g = gave (admitted_named n im) (put_into n c im) p e in
    given_by n c im p g.value (named_gives im g.value n g.from).2 g.on

-- THE theorem on put: its steps, by case
pub put_exact : PutExact
unfolding put_count
put_exact n c im p e =
    let g : Given n c im p = given n c im p e in
    record {
      read = g.r;
      settled = g.settled;
      exact = sym (ap (λ (y : Plan). length y.steps) g.is) ∙ put_steps_count g.r.place (file_named n g.r.entries) n c;
    }

module _ (n c : List ℕ) (im : Image) where
  most : (p : Plan) → put_plan n c im ≡ give p → AtMost (length n + length c + 15) 0 p.steps
  most p e =
      let g : Given n c im p = given n c im p e in
      subst (λ (y : Plan). AtMost (length n + length c + 15) 0 y.steps) g.is
      (put_steps_most g.r.place (file_named n g.r.entries) n c)

  few : (p : Plan) → put_plan n c im ≡ give p → (p.done.steps ≡ length p.steps) × (length p.steps ≤ length n + length c + 15)
  few p e =
      let g : Given n c im p = given n c im p e in
      (subst (λ (y : Plan). y.done.steps ≡ length y.steps) g.is refl, omega (arith, most_length p.steps (most p e)))

-- and at most so many, with any allowance
pub put_bound : PutBound
put_bound n c im k = used_bound im k (length n + length c + 15) (put_plan n c im) (few n c im)

pub put_kinds : PutKinds
put_kinds n c im k = used_kinds k (put_plan n c im) (most n c im)
