-- Repair 3 as a whole: the last record, and a torn wrap.
use Rattle.std.specs.Prelude.{ℕ, ◌+◌, ◌≤◌, ◌≡◌, refl, Bool, true, false, ◌&&◌, ◌||◌, not, cond, List, [], ◌∷◌, ◌++◌, length, get_or, set, eqb}
use Rattle.std.proofs.Common.{arith, add-zero, sym, ap, ◌∙◌, subst, length-set, get_or-set_other}
use Rattle.std.specs.Int.Bits.{bit_and}
use Rattle.spec.specs.declared.Ending.{Ending}
use Rattle.spec.specs.declared.Kind.{Kind}
use Rattle.spec.specs.declared.Next.{Next}
use Rattle.spec.specs.Step.{Image, Step, run, shifted}
use Rattle.spec.specs.Basics.{part, Each}
use Rattle.spec.specs.Bytes.{on_way, under_way, is_record_begun, is_wrap_begun, is_high_begun, is_wrap_open, is_wrapped}
use Rattle.spec.specs.Bytes.{is_record, is_start, is_clean, is_wrap, is_high, is_erased, is_reserved, is_spare}
use Rattle.spec.specs.Record.{Entry}
use Rattle.spec.specs.Next.{next, kind, erased_kind, written_kind, is_torn_marker}
use Rattle.spec.specs.Chain.{Reading}
use Rattle.spec.specs.Demand.{StepsSound}
use Rattle.spec.specs.Write.{marker_steps}
use Rattle.spec.specs.Mount.{last_steps, torn_wrap_steps}
use Rattle.laws.specs.Tests.{and_left, and_right}
use Rattle.laws.specs.Lists.{each_append}
use Rattle.laws.specs.Fits.{Fits, allowed_fits}
use Rattle.planning.specs.Kinds.{tag_of, kind_tag}
use Rattle.planning.specs.Row.{kind_at, Stands, Row, row_none, row_more, stretch_length, allowed_first, row_end}
use Rattle.planning.specs.Spots.{next_kind}
use Rattle.planning.specs.VoidReads.{row_idle}
use Rattle.planning.specs.Reads.{Reads, reads_here, reads_round, reads_torn}
use Rattle.laws.specs.Steps.{sound_append}
use Rattle.replay.specs.Runs.{BytesIn}
use Rattle.replay.specs.Record.{known_sound}
use Rattle.replay.specs.Voiding.{way, high_way, void_sound}

-- ---- the last record

-- e stands in the image, before the turn or after it
pub record Standing (im : Image) (e : Entry) : Type 0 where
  pub lim : ℕ
  pub short : lim ≤ length im
  pub stands : Stands im lim e

row_standing : {im : Image} {lim : ℕ} {o : Bool} {a : ℕ} {es : List Entry} {p : Bool} {b : ℕ} → lim ≤ length im → Row im lim o a es p b
    → Each (Standing im) es
row_standing l row_none = tt
row_standing {lim = lim} l (row_more e q w r) = (record { lim = lim; short = l; stands = w }, row_standing l r)

pub reads_standing : {im : Image} {h : ℕ} {r : Reading} → h ≤ length im → Reads im h r → Each (Standing im) r.entries
reads_standing {im} l (reads_here row s m e) =
    subst (λ (z : Reading). Each (Standing im) z.entries) (sym e) (row_standing (omega arith) row)
reads_standing {im} l (reads_torn row s n e) =
    subst (λ (z : Reading). Each (Standing im) z.entries) (sym e) (row_standing (omega arith) row)
reads_standing {im} l (reads_round {es = es} {fs = fs} row s t n rows k m e) =
    subst (λ (z : Reading). Each (Standing im) z.entries) (sym e)
    (each_append (Standing im) es fs (row_standing (omega arith) row) (row_standing (omega arith) rows))

last_sound : (im : Image) → BytesIn im → (es : List Entry) → Each (Standing im) es → StepsSound im (last_steps im es)
unfolding last_steps
last_sound im bs [] h = tt
last_sound im bs (e ∷ []) h = void_sound im e h.0.short h.0.stands bs
last_sound im bs (e ∷ (f ∷ es)) h = last_sound im bs (f ∷ es) h.1

-- ---- a torn wrap

wrap_way : (b : ℕ) → is_wrap_begun b ≡ true → bit_and 0xFA b ≡ 0xFA
unfolding is_wrap_begun under_way
wrap_way b e = way 0xFA b (and_left (on_way 0xFA b) (not (eqb b 0xFF)) e)

status_way : (b : ℕ) → is_wrap_open b ≡ true → bit_and 0xF0 b ≡ 0xF0
unfolding is_wrap_open
status_way b e = way 0xF0 b (and_left (on_way 0xF0 b) (not (is_wrapped b)) e)

either : (P : Kind → Type 0) (t : Bool) {x y : Kind} → P x → P y → P (cond t x y)
either P true p q = p
either P false p q = q

torn_marker : (b c st m : ℕ) → tag_of (kind b c st m) ≡ 2 → is_torn_marker b c st ≡ true
unfolding kind
torn_marker b c st m h = go _ _ refl refl where
  P : Kind → Type 0
  P k = tag_of k ≡ 2 → ⊥

  none : {A : Type 0} → P (kind b c st m) → A
  none f = absurd (f h)

  other : P (cond (is_erased st) (erased_kind b c) (written_kind b c st))
  other =
      either P (is_erased st)
      (either P (is_record_begun b && is_high_begun c) (λ z. omega arith)
      (either P (eqb b 0xFF && eqb c 0xFF) (λ z. omega arith) (λ z. omega arith)))
      (either P (is_high c)
      (either P (is_wrap b) (either P (is_wrapped st) (λ z. omega arith) (λ z. omega arith))
      (either P (is_record b || is_start b || is_clean b) (either P (is_reserved st) (λ z. omega arith) (λ z. omega arith))
      (λ z. omega arith)))
      (λ z. omega arith))

  go : (s t : Bool) → is_spare m ≡ s → is_torn_marker b c st ≡ t → is_torn_marker b c st ≡ true
  go false t p q = none (rw (kind, p) (λ z. omega arith))
  go true true p q = q
  go true false p q = none (rw (kind, p, q) other)

wrap_sound : (im : Image) (b : ℕ) → b ≤ length im → next (part b (length im) im) ≡ Next.TornWrap → StepsSound im (shifted b marker_steps)
unfolding is_torn_marker
wrap_sound im b l e =
    let s : List ℕ = part b (length im) im in
    let f : Fits (next s) (length s) = allowed_fits false s in
    let eight : 8 ≤ length s = rw e at f in
    let long : b + 8 ≤ length im = omega (arith, stretch_length im b (length im) l (omega arith)) in
    let k : tag_of (kind_at im b) ≡ 2 =
    kind_tag s (kind_at im b) Next.TornWrap (sym (next_kind im b (length im) (omega arith) long) ∙ e) (λ q. omega arith) in
    let b_0 : ℕ = get_or im b 0 in
    let b_1 : ℕ = get_or im (b + 1) 0 in
    let b_2 : ℕ = get_or im (b + 2) 0 in
    let t : (is_wrap_begun b_0 && is_high_begun b_1 && is_wrap_open b_2) ≡ true = torn_marker b_0 b_1 b_2 (get_or im (b + 3) 0) k in
    let u : (is_wrap_begun b_0 && is_high_begun b_1) ≡ true = and_left (is_wrap_begun b_0 && is_high_begun b_1) (is_wrap_open b_2) t in
    let one : Image = set im (b + 0) 0xFA in
    let two : Image = set one (b + 1) 0x5A in (
      known_sound im (b + 0) b_0 0xFA (omega (arith, long)) (ap (λ (i : ℕ). get_or im i 0) (add-zero b))
          (wrap_way b_0 (and_left (is_wrap_begun b_0) (is_high_begun b_1) u)),
      (
        known_sound one (b + 1) b_1 0x5A (omega (arith, long, length-set im (b + 0) 0xFA))
            (get_or-set_other im (b + 0) (b + 1) 0xFA 0 (λ q. omega arith))
            (high_way b_1 (and_right (is_wrap_begun b_0) (is_high_begun b_1) u)),
        (
          known_sound two (b + 2) b_2 0xF0 (omega (arith, long, length-set one (b + 1) 0x5A, length-set im (b + 0) 0xFA))
              (get_or-set_other one (b + 1) (b + 2) 0x5A 0 (λ q. omega arith) ∙ get_or-set_other im (b + 0) (b + 2) 0xFA 0 (λ q. omega arith))
              (status_way b_2 (and_right (is_wrap_begun b_0 && is_high_begun b_1) (is_wrap_open b_2) t)),
          tt,
        ),
      ),
    )

-- ---- repair 3

abbrev Third : Image → Reading → Type 0
Third im r = StepsSound im (last_steps im r.entries ++ torn_wrap_steps r.ending)

third_tail : (im : Image) → BytesIn im → (r : Reading) → Each (Standing im) r.entries → r.ending ≡ Ending.Tail → Third im r
third_tail im bs r w e =
    sound_append im (last_steps im r.entries) (torn_wrap_steps r.ending) (last_sound im bs r.entries w)
    (subst (λ (z : Ending). StepsSound (run im (last_steps im r.entries)) (torn_wrap_steps z)) (sym e) tt)

pub steps_3_sound : (im : Image) → BytesIn im → {h : ℕ} {r : Reading} → h ≤ length im → Reads im h r → Third im r
steps_3_sound im bs {h} {r} l (reads_here row s m e) =
    third_tail im bs r (reads_standing l (reads_here row s m e)) (ap (λ (z : Reading). z.ending) e)
steps_3_sound im bs {h} {r} l (reads_round row s t n rows k m e) =
    third_tail im bs r (reads_standing l (reads_round row s t n rows k m e)) (ap (λ (z : Reading). z.ending) e)
steps_3_sound im bs {h} {r} l (reads_torn {es = es} {p = p} {b = b} row s n e) =
    let z = allowed_first p (next (part b (length im) im)) Next.TornWrap s (omega arith) in
    subst (Third im) (sym e)
    (subst (λ (ss : List Step). StepsSound im (ss ++ shifted b marker_steps)) (sym (row_idle es z.0 row).0)
    (wrap_sound im b (row_end l row).1 z.1))
