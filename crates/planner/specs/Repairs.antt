-- Repairs 1 to 3, as a survey of the unchanged image tells them.
use Rattle.std.specs.Prelude.{ℕ, ◌+◌, ◌-◌, ◌≤◌, ◌<◌, ◌≡◌, refl, Bool, List, [], ◌∷◌, ◌++◌, length}
use Rattle.std.proofs.Common.{arith, add-zero, sym, ap, ap₂, subst, ◌∙◌, eq-eqb, ne_eqb}
use Rattle.std.proofs.Math.Bool.{true, false}
use Rattle.spec.specs.declared.Place.{Place}
use Rattle.spec.specs.Step.{Image, Step, program, bytes_at, shifted}
use Rattle.spec.specs.Geometry.{floor, ceiling, sectors}
use Rattle.spec.specs.Bytes.{is_clean, is_start}
use Rattle.spec.specs.Record.{Entry}
use Rattle.spec.specs.Reading.{head_clean}
use Rattle.spec.specs.Move.{start_steps, close_steps}
use Rattle.spec.specs.Mount.{dirty, erase_steps, head_low, status_void_steps, torn_steps}
use Rattle.planning.specs.Repairs.{steps_1, steps_2}
use Rattle.laws.specs.Steps.{shifted_append, shifted_bytes}
use Rattle.reading.specs.declared.Survey.{Survey}
use Rattle.chain.specs.Rest.{entry_of}
use Rattle.reading.specs.RuleLaws.{count_is, head_none, first_low, first_clean}
use Rattle.chain.specs.Faithful.{faithful}
use Rattle.reading.specs.Read.{first_cursor, reading_of, Surveyed}
use Rattle.recovery.specs.DirtySectors.{dirty_erased, dirty_more}
use Rattle.recovery.specs.Free.{keep_both, run_turned, run_both}
use Rattle.recovery.specs.Pair.{pair_by, few, two}
use Rattle.window.specs.declared.Emitter.{Emitter}
use Rattle.window.specs.Handed.{Handed, handed_both}

-- ---- 1: the sectors of the free run

pub dirty_next : (s : Image) (a b : ℕ) → a + 4096 ≤ b
    → dirty_erased s (sectors a b) ≡ dirty_erased s (a ∷ []) ++ dirty_erased s (sectors (a + 4096) b)
dirty_next s a b h = dirty_more s s a b h refl

module _ (s : Image) (p : Place) {low from : ℕ} (a : low ≡ floor p.head) (b : from ≡ ceiling p.tail) where
  pub run_one : p.turned ≡ true → erase_steps s p ≡ dirty_erased s (sectors from low)
  run_one e = run_turned s p e ∙ sym (ap₂ (λ (i j : ℕ). dirty_erased s (sectors i j)) b a)

  pub run_two : p.turned ≡ false → erase_steps s p ≡ dirty_erased s (sectors 0 low) ++ dirty_erased s (sectors from p.length)
  run_two e =
      run_both s p e ∙ keep_both (dirty s) (sectors 0 (floor p.head)) (sectors (ceiling p.tail) p.length)
      ∙ sym (ap₂ (λ (i j : ℕ). dirty_erased s (sectors 0 i) ++ dirty_erased s (sectors j p.length)) a b)

-- ---- 1: by the first record

module _ {s : Image} {v : Survey} (w : Surveyed s v) where
  abbrev es : List Entry
  es = (reading_of s v).entries

  steps_as : (t : Bool) → head_clean es ≡ t
      → steps_1 s (reading_of s v) ≡ elim t [ true ↦ erase_steps s v.place ++ start_steps v.place.head (head_low es) | false ↦ [] ]
  unfolding steps_1
  steps_as true e = rw (steps_1, e)
  steps_as false e = rw (steps_1, e)

  pub first_missing : v.tally.records ≡ 0 → steps_1 s (reading_of s v) ≡ []
  first_missing n = steps_as false (sym (head_none w.tallied n))

  module _ (n : v.tally.records ≡ 0 → ⊥) where
    pub first_other : is_clean (entry_of s v.tally.first).it.low ≡ false → steps_1 s (reading_of s v) ≡ []
    first_other e = steps_as false (sym (first_clean w.tallied n) ∙ e)

    pub first_cleaned : {low : ℕ} → low ≡ (entry_of s v.tally.first).it.low → is_clean (entry_of s v.tally.first).it.low ≡ true
        → steps_1 s (reading_of s v) ≡ erase_steps s v.place ++ start_steps v.place.head low
    first_cleaned q e =
        steps_as true (sym (first_clean w.tallied n) ∙ e)
        ∙ ap (λ (i : ℕ). erase_steps s v.place ++ start_steps v.place.head i) (sym (q ∙ first_low w.tallied n))

-- ---- 2: by the second record

module _ {s : Image} {v : Survey} (w : Surveyed s v) where
  abbrev entries : List Entry
  entries = (reading_of s v).entries

  pub second_missing : v.tally.records < 2 → steps_2 (length s) entries ≡ []
  second_missing l = (few (length s) 0 entries (omega (arith, count_is w.tallied))).0

  module _ (l : 2 ≤ v.tally.records) where
    abbrev x : Entry
    x = entry_of s v.tally.first

    abbrev y : Entry
    y = entry_of s v.tally.second

    by_second : (t u : Bool) → is_clean y.it.low ≡ t → is_start y.it.low ≡ u
        → steps_2 (length s) entries
        ≡ elim t [ true ↦ close_steps (length s) x y y.it.low | false ↦ elim u [ true ↦ program (x.at + 1) 0x00 ∷ [] | false ↦ [] ] ]
    by_second t u e f =
        (two s (length s) 0 entries v.tally w.tallied.same (faithful s (first_cursor s v.place.head) w.tallied.sound)
        (omega (arith, count_is w.tallied))).0
        ∙ (pair_by (length s) 0 x y t u e f).0

    pub second_clean : {low : ℕ} → low ≡ y.it.low → is_clean y.it.low ≡ true
        → steps_2 (length s) entries ≡ close_steps (length s) x y low
    second_clean q e = by_second true _ e refl ∙ ap (close_steps (length s) x y) (sym q)

    pub second_start : {low : ℕ} → low ≡ y.it.low → is_clean y.it.low ≡ false → low ≡ 0x00
        → steps_2 (length s) entries ≡ program (x.at + 1) 0x00 ∷ []
    unfolding is_start
    second_start q e f = by_second false true e (eq-eqb y.it.low 0x00 (sym q ∙ f))

    pub second_other : {low : ℕ} → low ≡ y.it.low → is_clean y.it.low ≡ false → (low ≡ 0x00 → ⊥) → steps_2 (length s) entries ≡ []
    unfolding is_start
    second_other q e f = by_second false false e (ne_eqb y.it.low 0x00 (λ g. f (q ∙ g)))

-- ---- 3: a status voided, by way of another byte

pub void_handed : {w q r : Emitter} (a status : ℕ) {first : ℕ} → first ≡ status - 0x80
    → Handed w (program a first ∷ []) q → Handed q (program a 0x00 ∷ []) r → Handed w (status_void_steps a status) r
void_handed {w} {q} a status e f g = handed_both (subst (λ (b : ℕ). Handed w (program a b ∷ []) q) e f) g

-- ---- 3: a torn record, at its address

abbrev pub torn_magic : List ℕ
torn_magic = 0xA5 ∷ 0x5A ∷ []

abbrev pub torn_zeros : List ℕ
torn_zeros = 0 ∷ 0 ∷ 0 ∷ 0 ∷ 0 ∷ []

pub torn_at : (a : ℕ) → shifted a torn_steps ≡ bytes_at a torn_magic ++ (bytes_at (a + 4) torn_zeros ++ status_void_steps (a + 2) 0xFF)
torn_at a =
    shifted_append a (bytes_at 0 torn_magic) (bytes_at 4 torn_zeros ++ status_void_steps 2 0xFF)
    ∙ ap₂ ◌++◌ (shifted_bytes a 0 torn_magic ∙ ap (λ (i : ℕ). bytes_at i torn_magic) (add-zero a))
    (shifted_append a (bytes_at 4 torn_zeros) (status_void_steps 2 0xFF)
    ∙ ap (λ (l : List Step). l ++ status_void_steps (a + 2) 0xFF) (shifted_bytes a 4 torn_zeros))
