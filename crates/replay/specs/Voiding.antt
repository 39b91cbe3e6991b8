-- Repair 3 on one record: what it programs over a torn or reserved one only clears bits.
use Prim.Native.Nat.{ℕ, zero, suc, ◌+◌, ◌≤◌, ◌<◌}
use Rattle.std.proofs.Common.{arith, add-zero, not-suc-le-zero, sym, ◌∙◌, subst, length-set, get_or-set_other, get_or-drop, leb-true, eqb-true}
use Rattle.std.specs.Prelude.{◌≡◌, Bool, ◌&&◌, not, drop, get_or, set}
use Rattle.std.proofs.Math.Path.{refl, ap}
use Rattle.std.proofs.Math.Bool.{true, false}
use mathlib.Core.List.{List, [], ◌∷◌, map}
use Rattle.std.proofs.Math.ListN.{length, length-drop}
use Rattle.std.specs.Int.Bits.{bit_and}
use Rattle.std.proofs.lemmas.Nat.{and_comm}
use Rattle.std.proofs.lemmas.Nat.Bits.{and_high}
use Rattle.std.proofs.Math.Dec.{eqb}
use Rattle.spec.specs.declared.Kind.{Kind}
use Rattle.spec.specs.declared.Next.{Next}
use Rattle.spec.specs.Step.{Image, Step, program, run, shifted}
use Rattle.spec.specs.Basics.{part, Each}
use Rattle.spec.specs.Bytes.{clears, on_way, under_way, is_record_begun, is_high_begun}
use Rattle.spec.specs.Bytes.{is_erased, is_reserved, is_spare, ends_name}
use Rattle.spec.specs.Record.{Entry, name_of, content_of, name_length, data_len_of}
use Rattle.spec.specs.Next.{next_at, kind, is_torn_marker}
use Rattle.spec.specs.Demand.{StepsSound}
use Rattle.spec.specs.Write.{name_end_steps}
use Rattle.spec.specs.Mount.{torn_steps, missing_steps, reserved_steps, void_steps}
use Rattle.laws.specs.Tests.{and_left, and_right}
use Rattle.planning.specs.Front.{sized_back}
use Rattle.planning.specs.Kinds.{tag_of, kind_tag, kind_reserved}
use Rattle.planning.specs.Row.{kind_at, Stands, stretch_byte, stretch_length}
use Rattle.planning.specs.Spots.{stands_kind}
use Rattle.planning.specs.Ends.{missing_off, missing_bounded}
use Rattle.planning.specs.Effect.{run_length, untouched_run}
use Rattle.laws.specs.Steps.{sound_append}
use Rattle.replay.specs.Runs.{BytesIn}
use Rattle.replay.specs.Record.{zero_sound, known_sound}

-- ---- bytes on their way

pub way : (goal b : ℕ) → on_way goal b ≡ true → bit_and goal b ≡ goal
unfolding on_way clears
way goal b e = eqb-true (bit_and goal b) goal e

record_way : (b : ℕ) → is_record_begun b ≡ true → bit_and 0xA5 b ≡ 0xA5
unfolding is_record_begun under_way
record_way b e = way 0xA5 b (and_left (on_way 0xA5 b) (not (eqb b 0xFF)) e)

pub high_way : (b : ℕ) → is_high_begun b ≡ true → bit_and 0x5A b ≡ 0x5A
unfolding is_high_begun
high_way b e = way 0x5A b e

-- a byte of 80 or more
high_bit : (b : ℕ) → 0x80 ≤ b → b < 256 → bit_and 0x80 b ≡ 0x80
high_bit b h l = and_comm 0x80 b ∙ and_high b 1 7 ∙ omega arith

-- ---- steps that clear whole bytes

zeros_sound : (im : Image) (l : List ℕ) → Each (λ a. a < length im) l → StepsSound im (map (λ a. program a 0x00) l)
zeros_sound im [] h = tt
zeros_sound im (a ∷ l) h = (
  zero_sound im a h.0,
  zeros_sound (set im a 0) l (subst (λ (n : ℕ). Each (λ k. k < n) l) (sym (length-set im a 0)) h.1),
)

-- ---- a torn record

torn_both : (b c st m : ℕ) → is_erased st ≡ true → tag_of (kind b c st m) ≡ 0 → (is_record_begun b && is_high_begun c) ≡ true
unfolding kind
torn_both b c st m e h = go _ _ _ _ refl refl refl refl where
  none : {A : Type 0} → 1 ≤ tag_of (kind b c st m) → A
  none k = absurd (omega arith)

  go : (s t u v : Bool) → is_spare m ≡ s → is_torn_marker b c st ≡ t → (is_record_begun b && is_high_begun c) ≡ u
      → (eqb b 0xFF && eqb c 0xFF) ≡ v → (is_record_begun b && is_high_begun c) ≡ true
  go false t u v p q r x = none (rw (kind, p) (omega arith))
  go true true u v p q r x = none (rw (kind, p, q) (omega arith))
  go true false true v p q r x = r
  go true false false true p q r x = none (rw (kind, p, q, e, r, x) (omega arith))
  go true false false false p q r x = none (rw (kind, p, q, e, r, x) (omega arith))

erased_is : (st : ℕ) → is_erased st ≡ true → st ≡ 0xFF
unfolding is_erased
erased_is st e = eqb-true st 0xFF e

reserved_is : (st : ℕ) → is_reserved st ≡ true → st ≡ 0xFE
unfolding is_reserved
reserved_is st e = eqb-true st 0xFE e

module _ (im : Image) (e : Entry) {lim : ℕ} (l : lim ≤ length im) (w : Stands im lim e) where
  abbrev a : ℕ
  a = e.at

  fits : a + 16 ≤ length im
  fits = omega (arith, w.fits)

  torn_sound : is_erased e.it.status ≡ true → StepsSound im (shifted a torn_steps)
  torn_sound t =
      let both = torn_both (get_or im a 0) (get_or im (a + 1) 0) (get_or im (a + 2) 0) (get_or im (a + 3) 0) (ap is_erased w.status ∙ t)
      (kind_tag (part a lim im) (kind_at im a) (Next.Record (length (name_of e)) (length (content_of e))) (stands_kind l w)
      (λ q. omega arith)) in
      let low = and_left (is_record_begun (get_or im a 0)) (is_high_begun (get_or im (a + 1) 0)) both in
      let high = and_right (is_record_begun (get_or im a 0)) (is_high_begun (get_or im (a + 1) 0)) both in
      let one : Image = set im (a + 0) 0xA5 in
      let two : Image = set one (a + 1) 0x5A in
      let l-1 : length one ≡ length im = length-set im (a + 0) 0xA5 in
      let l-2 : length two ≡ length im = length-set one (a + 1) 0x5A ∙ l-1 in
      let zs : List ℕ = (a + 4) ∷ ((a + 5) ∷ ((a + 6) ∷ ((a + 7) ∷ ((a + 8) ∷ [])))) in
      let three : Image = run two (map (λ (i : ℕ). program i 0x00) zs) in
      let l-3 : length three ≡ length im = run_length two (map (λ (i : ℕ). program i 0x00) zs) tt ∙ l-2 in
      let st : get_or three (a + 2) 0 ≡ 0xFF =
      untouched_run two (map (λ (i : ℕ). program i 0x00) zs) (a + 2) tt
      (λ q. omega arith, (λ q. omega arith, (λ q. omega arith, (λ q. omega arith, (λ q. omega arith, tt)))))
      ∙ get_or-set_other one (a + 1) (a + 2) 0x5A 0 (λ q. omega arith) ∙ get_or-set_other im (a + 0) (a + 2) 0xA5 0 (λ q. omega arith)
      ∙ w.status ∙ erased_is e.it.status t in (
        known_sound im (a + 0) (get_or im a 0) 0xA5 (omega (arith, fits)) (ap (λ (i : ℕ). get_or im i 0) (add-zero a))
            (record_way (get_or im a 0) low),
        (
          known_sound one (a + 1) (get_or im (a + 1) 0) 0x5A (omega (arith, fits))
              (get_or-set_other im (a + 0) (a + 1) 0xA5 0 (λ q. omega arith))
              (high_way (get_or im (a + 1) 0) high),
          sound_append two (map (λ (i : ℕ). program i 0x00) zs) (program (a + 2) 0x7F ∷ (program (a + 2) 0x00 ∷ []))
              (zeros_sound two zs
              (omega (arith, fits), (omega (arith, fits), (omega (arith, fits), (omega (arith, fits), (omega (arith, fits), tt)))))) (
                known_sound three (a + 2) 0xFF 0x7F (omega (arith, fits)) st refl,
                (zero_sound (set three (a + 2) 0x7F) (a + 2) (omega (arith, fits, length-set three (a + 2) 0x7F)), tt),
              ),
        ),
      )

  -- the end of a reserved name: 00, or a byte of 80 or more
  name_ends : (reserved : Bool) (k : ℕ) (s : List ℕ) (n : ℕ) → name_length k reserved s ≡ n → n < k → n < length s
      → ends_name reserved (get_or s n 0) ≡ true
  unfolding name_length
  name_ends reserved zero s n q h m = absurd (not-suc-le-zero h)
  name_ends reserved (suc k) [] n q h m = absurd (not-suc-le-zero m)
  name_ends reserved (suc k) (b ∷ s) n q h m = go (ends_name reserved b) refl n q h m (name_ends reserved k s) where
    go : (t : Bool) → ends_name reserved b ≡ t → (i : ℕ) → name_length (suc k) reserved (b ∷ s) ≡ i → i < suc k → i < suc (length s)
        → ((j : ℕ) → name_length k reserved s ≡ j → j < k → j < length s → ends_name reserved (get_or s j 0) ≡ true)
        → ends_name reserved (get_or (b ∷ s) i 0) ≡ true
    go true f zero z u v ih = f
    go true f (suc i) z u v ih = let y : 0 ≡ suc i = rw (name_length, f) at z in absurd (omega arith)
    go false f zero z u v ih = let y : suc (name_length k reserved s) ≡ 0 = rw (name_length, f) at z in absurd (omega arith)
    go false f (suc i) z u v ih =
        let y : suc (name_length k reserved s) ≡ suc i = rw (name_length, f) at z in
        ih i (omega arith) (omega arith) (omega arith)

  abbrev end_at : ℕ
  end_at = a + (8 + length (name_of e))

  reserved_end : is_erased e.it.status ≡ false → is_reserved e.it.status ≡ true → ends_name true (get_or im end_at 0) ≡ true
  unfolding next_at
  reserved_end t f =
      let n : ℕ = length (name_of e) in
      let d : ℕ = length (content_of e) in
      let s : List ℕ = part a lim im in
      let by = stands_kind l w in
      let k =
      kind_reserved (get_or im a 0) (get_or im (a + 1) 0) (get_or im (a + 2) 0) (get_or im (a + 3) 0) s by (ap is_erased w.status ∙ t)
      (ap is_reserved w.status ∙ f) in
      let z =
      sized_back s (name_length 64 true (drop 8 s)) (data_len_of s) n d _ _ refl refl (sym (ap (λ (x : Kind). next_at x s) k.0) ∙ by) in
      let long = stretch_length im a lim (omega (arith, w.fits)) l in
      ap (ends_name true) (sym (get_or-drop 8 s n 0 ∙ stretch_byte im a lim (8 + n) (omega (arith, w.fits))))
      ∙ name_ends true 64 (drop 8 s) n z.name z.short (rw length-drop (omega (arith, w.fits, long)))

  -- the byte that ends it goes to 80 and 00
  missing_sound : BytesIn im → ends_name true (get_or im end_at 0) ≡ true → StepsSound im (missing_steps im end_at)
  unfolding ends_name
  missing_sound bs q = go (eqb (get_or im end_at 0) 0x00) refl where
    is : (t : Bool) → eqb (get_or im end_at 0) 0x00 ≡ t → elim t [ true ↦ [] | false ↦ name_end_steps end_at ] ≡ missing_steps im end_at
    is t z = ap (λ (u : Bool). elim u as (λ v. List Step) [ true ↦ [] | false ↦ name_end_steps end_at ]) (sym z)

    high : eqb (get_or im end_at 0) 0x00 ≡ false → 0x80 ≤ get_or im end_at 0
    high z = leb-true 0x80 (get_or im end_at 0) (rw z at q)

    go : (t : Bool) → eqb (get_or im end_at 0) 0x00 ≡ t → StepsSound im (missing_steps im end_at)
    go true z = subst (StepsSound im) (is true z) tt
    go false z =
        subst (StepsSound im) (is false z) (
          known_sound im end_at (get_or im end_at 0) 0x80 (omega (arith, w.fits)) refl
              (high_bit (get_or im end_at 0) (high z) (bs end_at)),
          (zero_sound (set im end_at 0x80) end_at (omega (arith, w.fits, length-set im end_at 0x80)), tt),
        )

  reserve_sound : BytesIn im → is_erased e.it.status ≡ false → is_reserved e.it.status ≡ true
      → StepsSound im (reserved_steps im e)
  reserve_sound bs t f =
      let ms : List Step = missing_steps im end_at in
      let left : Image = run im ms in
      let len : length left ≡ length im = run_length im ms (missing_bounded (length im) im end_at) in
      let st : get_or left (a + 2) 0 ≡ 0xFE =
      untouched_run im ms (a + 2) (missing_bounded (length im) im end_at) (missing_off im end_at (a + 2) (λ q. omega arith))
      ∙ w.status ∙ reserved_is e.it.status f in
      sound_append im ms (program (a + 2) 0x7E ∷ (program (a + 2) 0x00 ∷ [])) (missing_sound bs (reserved_end t f)) (
        known_sound left (a + 2) 0xFE 0x7E (omega (arith, fits)) st refl,
        (zero_sound (set left (a + 2) 0x7E) (a + 2) (omega (arith, fits, length-set left (a + 2) 0x7E)), tt),
      )

  pub void_sound : BytesIn im → StepsSound im (void_steps im e)
  unfolding void_steps
  void_sound bs = go _ _ refl refl where
    go : (t u : Bool) → is_erased e.it.status ≡ t → is_reserved e.it.status ≡ u → StepsSound im (void_steps im e)
    go true u p q = rw (void_steps, p) (torn_sound p)
    go false true p q = rw (void_steps, p, q) (reserve_sound bs p q)
    go false false p q = rw (void_steps, p, q) tt
