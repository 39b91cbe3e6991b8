-- A file's name (01, and K5 of 02): what the check's good answer says of its length and its bytes.
use Rattle.std.specs.Prelude.{ℕ, ◌+◌, ◌≤◌, ◌<◌, ◌≡◌, Bool, true, false, ◌&&◌, ◌||◌, not, List, [], ◌∷◌, length, leb, ltb, eqb}
use Rattle.std.proofs.Common.{arith, sym, ap, ◌∙◌, leb-true, le-leb, lt-ltb, le-ltb, eqb-true}
use Rattle.std.proofs.Math.Path.{refl}
use Rattle.std.proofs.lemmas.Bool.{lt-leb}
use Rattle.spec.specs.Refusals.{FaultNumbers}
use Rattle.spec.specs.Basics.{Each}
use Rattle.spec.specs.Bytes.{is_printable, is_space}
use Rattle.spec.specs.Record.{may_stand, first_bad, ends_in_slash, name_fault, name_ok}
use Rattle.laws.specs.Tests.{not_both, not_true, and_left, and_right}

-- the check's answer by its four tests, in their order
abbrev pub fault_by : Bool → Bool → Bool → Bool → ℕ → FaultNumbers
fault_by some short bad slash i =
    elim some [
      | false ↦ record { reason = 1; place = 0 }
      | true ↦
          elim short [
            | false ↦ record { reason = 2; place = 0 }
            | true ↦
                elim bad [
                  | true ↦ record { reason = 3; place = i }
                  | false ↦ elim slash [ true ↦ record { reason = 4; place = 0 } | false ↦ record { reason = 0; place = 0 } ]
                ]
          ]
    ]

-- the check, by its tests
module _ (n : List ℕ) where
  abbrev k : ℕ
  k = length n

  abbrev bad : ℕ
  bad = first_bad k 0 n

  pub check_is : name_fault n ≡ fault_by (leb 1 k) (leb k 63) (ltb bad k) (ends_in_slash n) bad
  unfolding name_fault
  check_is = refl

  abbrev by : Bool → Bool → Bool → Bool → FaultNumbers
  by a b c d = fault_by a b c d bad

  pub check_empty : k < 1 → name_fault n ≡ record { reason = 1; place = 0 }
  check_empty h = check_is ∙ ap (λ (t : Bool). by t (leb k 63) (ltb bad k) (ends_in_slash n)) (lt-leb 1 k h)

  module _ (some : 1 ≤ k) where
    more : {t : FaultNumbers} → by true (leb k 63) (ltb bad k) (ends_in_slash n) ≡ t → name_fault n ≡ t
    more e = check_is ∙ ap (λ (t : Bool). by t (leb k 63) (ltb bad k) (ends_in_slash n)) (le-leb 1 k some) ∙ e

    pub check_long : 63 < k → name_fault n ≡ record { reason = 2; place = 0 }
    check_long h = more (ap (λ (t : Bool). by true t (ltb bad k) (ends_in_slash n)) (lt-leb k 63 h))

    module _ (short : k ≤ 63) where
      inner : {t : FaultNumbers} → by true true (ltb bad k) (ends_in_slash n) ≡ t → name_fault n ≡ t
      inner e = more (ap (λ (t : Bool). by true t (ltb bad k) (ends_in_slash n)) (le-leb k 63 short) ∙ e)

      pub check_byte : bad < k → name_fault n ≡ record { reason = 3; place = bad }
      check_byte h = inner (ap (λ (t : Bool). by true true t (ends_in_slash n)) (lt-ltb bad k h))

      pub check_last : k ≤ bad → {t : Bool} → ends_in_slash n ≡ t → name_fault n ≡ by true true false t
      check_last h e = inner (ap (λ (t : Bool). by true true t (ends_in_slash n)) (le-ltb bad k h) ∙ ap (by true true false) e)

good_by : (some short bad slash : Bool) (i : ℕ) → eqb (fault_by some short bad slash i).reason 0 ≡ (some && short && not bad && not slash)
good_by false short bad slash i = refl
good_by true false bad slash i = refl
good_by true true true slash i = refl
good_by true true false true i = refl
good_by true true false false i = refl

-- the rule as one test
pub name_ok_is : (n : List ℕ) → name_ok n
    ≡ (leb 1 (length n) && leb (length n) 63 && not (ltb (first_bad (length n) 0 n) (length n)) && not (ends_in_slash n))
unfolding name_ok name_fault
name_ok_is n =
    good_by (leb 1 (length n)) (leb (length n) 63) (ltb (first_bad (length n) 0 n) (length n)) (ends_in_slash n) (first_bad (length n) 0 n)

-- ---- what a good name has

-- the parts of the test
pub record GoodName (n : List ℕ) : Type 0 where
  pub some : 1 ≤ length n
  pub short : length n ≤ 63
  pub bytes : ltb (first_bad (length n) 0 n) (length n) ≡ false
  pub slash : ends_in_slash n ≡ false

pub good_name : (n : List ℕ) → name_ok n ≡ true → GoodName n
good_name n h =
    let k = length n in
    let bad : Bool = ltb (first_bad k 0 n) k in
    let two : Bool = leb 1 k && leb k 63 in
    let p : (two && not bad && not (ends_in_slash n)) ≡ true = sym (name_ok_is n) ∙ h in
    let q : (two && not bad) ≡ true = and_left (two && not bad) (not (ends_in_slash n)) p in
    let r : two ≡ true = and_left two (not bad) q in
    record {
      some = leb-true 1 k (and_left (leb 1 k) (leb k 63) r);
      short = leb-true k 63 (and_right (leb 1 k) (leb k 63) r);
      bytes = not_true bad (and_right two (not bad) q);
      slash = not_true (ends_in_slash n) (and_right (two && not bad) (not (ends_in_slash n)) p);
    }

-- ---- its bytes

-- 20 to 7E hex
abbrev pub Readable : ℕ → Type 0
Readable b = (0x20 ≤ b) × (b ≤ 0x7E)

printable_readable : (b : ℕ) → is_printable b ≡ true → Readable b
unfolding is_printable
printable_readable b h =
    (omega (arith, leb-true 0x21 b (and_left (leb 0x21 b) (leb b 0x7E) h)), leb-true b 0x7E (and_right (leb 0x21 b) (leb b 0x7E) h))

space_readable : (b : ℕ) → is_space b ≡ true → Readable b
unfolding is_space
space_readable b h = let e = eqb-true b 0x20 h in (omega (arith, e), omega (arith, e))

stands_readable : (k i b : ℕ) → may_stand k i b ≡ true → Readable b
unfolding may_stand
stands_readable k i b h = go (is_printable b) refl h where
  rest : Bool
  rest = is_space b && not (eqb i 0) && not (eqb (i + 1) k)

  go : (t : Bool) → is_printable b ≡ t → (t || rest) ≡ true → Readable b
  go true e p = printable_readable b e
  go false e p =
      space_readable b
      (and_left (is_space b) (not (eqb i 0)) (and_left (is_space b && not (eqb i 0)) (not (eqb (i + 1) k)) p))

-- no byte is bad, so all can be read
bytes_readable : (k i : ℕ) (s : List ℕ) → i + length s ≤ k → ltb (first_bad k i s) k ≡ false → Each Readable s
unfolding first_bad
bytes_readable k i [] l h = tt
bytes_readable k i (b ∷ s) l h = go (may_stand k i b) refl (bytes_readable k (i + 1) s (omega arith)) where
  go : (t : Bool) → may_stand k i b ≡ t → (ltb (first_bad k (i + 1) s) k ≡ false → Each Readable s) → Each Readable (b ∷ s)
  go true e f = (stands_readable k i b e, f (rw (e, first_bad) at h))
  go false e f = let p : ltb i k ≡ false = rw (e, first_bad) at h in absurd (not_both (ltb i k) p (lt-ltb i k (omega arith)))

pub name_readable : (n : List ℕ) → name_ok n ≡ true → Each Readable n
name_readable n h = bytes_readable (length n) 0 n (omega arith) (good_name n h).bytes
