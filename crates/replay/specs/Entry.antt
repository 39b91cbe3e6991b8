-- One entry of a trace: each way out of the tests, and what an entry leaves.
use Rattle.std.specs.Prelude.{ℕ, ◌+◌, ◌%◌, ◌≤◌, ◌<◌, ◌≡◌, refl, Bool, List, length, get_or, set, ltb, eqb}
use Rattle.std.proofs.Common.{arith, sym, ◌∙◌}
use Rattle.std.proofs.Math.Path.{ap}
use Rattle.std.proofs.Math.Bool.{true, false, not}
use Rattle.std.proofs.lemmas.Bool.{false≢true}
use Rattle.std.proofs.lemmas.List.{set-get_or}
use borrow.Author.Tests.{eq-eqb, ne_eqb, eqb-true, eqb-false, lt-ltb, le-ltb, ltb-true, ltb-false}
use Rattle.spec.specs.Step.{Image, program, apply}
use Rattle.spec.specs.Geometry.{good_length}
use Rattle.spec.specs.Bytes.{clears}
use Rattle.spec.specs.Planner.{step_of}
use Rattle.spec.specs.Trace.{out_of_range, known_kind, sets_bit, fault, is_sound}
use Rattle.laws.specs.Tests.{not_false}
use Rattle.laws.specs.Length.{good}
use Rattle.chain.specs.TallyLaws.{or_false}
use Rattle.replay.specs.declared.entry.Entry.{Entry}

-- what three slices hold at i
abbrev pub entry_at : List ℕ → List ℕ → List ℕ → ℕ → Entry
entry_at ks xs bs i = record { kind = get_or ks i 0; address = get_or xs i 0; byte = get_or bs i 0 }

-- the image behind an entry
abbrev pub carried : Image → ℕ → ℕ → ℕ → Image
carried image kind a b = elim (is_sound image kind a b) [ true ↦ apply image (step_of kind a b) | false ↦ image ]

-- ---- out of range

module _ (N kind a b : ℕ) where
  pub range_past : N ≤ a → out_of_range N kind a b ≡ true
  unfolding out_of_range
  range_past h = rw (out_of_range, le-ltb a N h)

  pub range_erase : a < N → kind ≡ 2 → out_of_range N kind a b ≡ not (eqb (a % 4096) 0)
  unfolding out_of_range
  range_erase h e = rw (out_of_range, lt-ltb a N h, e) (or_false (not (eqb (a % 4096) 0)))

  pub range_program : a < N → kind ≡ 1 → out_of_range N kind a b ≡ ltb 255 b
  unfolding out_of_range
  range_program h e = rw (out_of_range, lt-ltb a N h, e)

  pub range_other : a < N → (kind ≡ 2 → ⊥) → (kind ≡ 1 → ⊥) → out_of_range N kind a b ≡ false
  unfolding out_of_range
  range_other h p q = rw (out_of_range, lt-ltb a N h, ne_eqb kind 2 p, ne_eqb kind 1 q)

  -- what is not out of range lies in the image
  pub range_in : out_of_range N kind a b ≡ false → a < N
  range_in e = go (ltb a N) refl where
    go : (t : Bool) → ltb a N ≡ t → a < N
    go true f = ltb-true a N f
    go false f = absurd (false≢true (sym e ∙ range_past (ltb-false a N f)))

  -- the byte of a program step is a byte
  range_byte : kind ≡ 1 → out_of_range N kind a b ≡ false → b < 256
  range_byte k e =
      let l : b ≤ 255 = ltb-false 255 b (sym (range_program (range_in e) k) ∙ e) in
      omega arith

  -- an erase starts a sector
  range_sector : kind ≡ 2 → out_of_range N kind a b ≡ false → a % 4096 ≡ 0
  range_sector k e = eqb-true (a % 4096) 0 (not_false (eqb (a % 4096) 0) (sym (range_erase (range_in e) k) ∙ e))

-- ---- which of the three

module _ (image : Image) (kind a b : ℕ) where
  pub fault_range : out_of_range (length image) kind a b ≡ true → fault image kind a b ≡ 1
  unfolding fault
  fault_range e = rw (fault, e)

  module _ (e : out_of_range (length image) kind a b ≡ false) where
    pub fault_erase : kind ≡ 2 → fault image kind a b ≡ 0
    unfolding fault known_kind sets_bit
    fault_erase k =
        let known : known_kind kind ≡ true = ap known_kind k in
        let clear : sets_bit image kind a b ≡ false = ap (λ (n : ℕ). sets_bit image n a b) k in
        rw (fault, e, known, clear)

    fault_program : kind ≡ 1 → (t : Bool) → clears (get_or image a 0) b ≡ t → fault image kind a b ≡ elim t [ true ↦ 0 | false ↦ 3 ]
    unfolding fault known_kind sets_bit
    fault_program k true c =
        let known : known_kind kind ≡ true = ap known_kind k in
        let clear : sets_bit image kind a b ≡ false = ap (λ (n : ℕ). sets_bit image n a b) k ∙ ap not c in
        rw (fault, e, known, clear)
    fault_program k false c =
        let known : known_kind kind ≡ true = ap known_kind k in
        let sets : sets_bit image kind a b ≡ true = ap (λ (n : ℕ). sets_bit image n a b) k ∙ ap not c in
        rw (fault, e, known, sets)

    pub fault_sets : kind ≡ 1 → clears (get_or image a 0) b ≡ false → fault image kind a b ≡ 3
    fault_sets k c = fault_program k false c

    pub fault_clears : kind ≡ 1 → clears (get_or image a 0) b ≡ true → fault image kind a b ≡ 0
    fault_clears k c = fault_program k true c

    pub fault_kind : (kind ≡ 2 → ⊥) → (kind ≡ 1 → ⊥) → fault image kind a b ≡ 2
    unfolding fault known_kind
    fault_kind p q = rw (fault, e, known_kind, ne_eqb kind 2 p, ne_eqb kind 1 q)

  -- back from 0
  pub no_fault_range : fault image kind a b ≡ 0 → out_of_range (length image) kind a b ≡ false
  no_fault_range e = go _ refl where
    go : (t : Bool) → out_of_range (length image) kind a b ≡ t → out_of_range (length image) kind a b ≡ false
    go false f = f
    go true f = absurd (omega (arith, fault_range f))

  no_fault_kind : fault image kind a b ≡ 0 → (kind ≡ 2 → ⊥) → kind ≡ 1
  no_fault_kind e p = go (eqb kind 1) refl where
    go : (t : Bool) → eqb kind 1 ≡ t → kind ≡ 1
    go true f = eqb-true kind 1 f
    go false f = absurd (omega (arith, fault_kind (no_fault_range e) p (eqb-false kind 1 f)))

-- ---- the image behind an entry

module _ (image : Image) (kind a b : ℕ) where
  pub carried_on : fault image kind a b ≡ 0 → carried image kind a b ≡ apply image (step_of kind a b)
  carried_on e = rw (carried, eq-eqb (fault image kind a b) 0 e)

  pub carried_not : (fault image kind a b ≡ 0 → ⊥) → carried image kind a b ≡ image
  carried_not e = rw (carried, ne_eqb (fault image kind a b) 0 e)

-- ---- what the one step needs

module _ (image : Image) (kind a b : ℕ) (g : good_length (length image) ≡ true) (e : fault image kind a b ≡ 0) where
  pub erase_room : kind ≡ 2 → a + 4096 ≤ length image
  erase_room k =
      let l = range_in (length image) kind a b (no_fault_range image kind a b e) in
      omega (arith, l, range_sector (length image) kind a b k (no_fault_range image kind a b e), (good (length image) g).sectors)

  pub program_room : a < length image
  program_room = range_in (length image) kind a b (no_fault_range image kind a b e)

  pub program_byte : (kind ≡ 2 → ⊥) → b < 256
  program_byte p =
      range_byte (length image) kind a b (no_fault_kind image kind a b e p) (no_fault_range image kind a b e)

-- ---- an entry that programs what stands there already changes nothing

step_program : (kind a b : ℕ) → (kind ≡ 2 → ⊥) → step_of kind a b ≡ program a b
step_program kind a b p = rw (step_of, ne_eqb kind 2 p)

carried_same : (image : Image) (kind a b : ℕ) → kind ≡ 1 → get_or image a 0 ≡ b → carried image kind a b ≡ image
carried_same image kind a b k e = go (is_sound image kind a b) refl where
  same : apply image (step_of kind a b) ≡ image
  same =
      ap (apply image) (step_program kind a b (λ q. omega (arith, k)))
      ∙ ap (λ (n : ℕ). set image a n) (sym e) ∙ set-get_or image a 0

  go : (t : Bool) → is_sound image kind a b ≡ t → carried image kind a b ≡ image
  go true q = rw (carried, q) same
  go false q = rw (carried, q)

pub unchanged : (image : Image) (kind a b x : ℕ) → kind ≡ 1 → x ≡ get_or image a 0 → not (eqb x b) ≡ false → carried image kind a b ≡ image
unchanged image kind a b x k e h = carried_same image kind a b k (sym e ∙ eqb-true x b (not_false (eqb x b) h))
