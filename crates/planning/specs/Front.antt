-- What stands at the front of a list depends only on its header, its name and the end of the name: the data may change, and so may
-- the header where its kind stays.
use Rattle.std.specs.Prelude.{ℕ, zero, suc, ◌+◌, ◌≤◌, ◌<◌, Bool, ◌&&◌, List, [], ◌∷◌, length, take, drop, get_or, ltb}
use Rattle.std.proofs.Common.{arith, not-suc-le-zero, sym, ap, ap₂, ◌∙◌, length-drop, get_or-drop, ltb-true}
use Rattle.std.proofs.Math.Path.{◌≡◌, refl}
use Rattle.std.proofs.Math.Bool.{true, false}
use Rattle.spec.specs.declared.Next.{Next}
use Rattle.spec.specs.declared.Kind.{Kind}
use Rattle.spec.specs.Basics.{blank}
use Rattle.spec.specs.Basics as Basics
use Rattle.spec.specs.Bytes.{clears, on_way, is_wrap_begun, is_high_begun, is_wrap_open, ends_name}
use Rattle.spec.specs.Record.{size_of, name_length, data_len_of, low_of, high_of, status_of, spare_of}
use Rattle.spec.specs.Next.{is_torn_marker, next, next_at, kind, sized, torn_at, torn_wrap_at, clear_at}
use Rattle.laws.specs.Tests.{and_no}
use Rattle.laws.specs.Parts.{long_le, long_true}
use Rattle.laws.specs.Next.{sized_is}

-- what is Bad is no record
pub bad_other : {A : Type 0} {n d : ℕ} {x : Next} → x ≡ Next.Bad → x ≡ Next.Record n d → A
bad_other e f = absurd (let z : ◌≡◌ {A = ℕ} 0 1 = cc in omega arith)

-- ---- what is no record

-- a torn marker
pub wrap_other : (s : List ℕ) {n d : ℕ} (u : Bool) → blank (drop 3 s) ≡ u → torn_wrap_at s ≡ Next.Record n d → ⊥
unfolding torn_wrap_at
wrap_other s {n} {d} true e h =
    let q : Next.TornWrap ≡ Next.Record n d = rw (torn_wrap_at, e) at h in
    let z : ◌≡◌ {A = ℕ} 0 1 = cc in
    omega arith
wrap_other s false e h = bad_other (rw (torn_wrap_at, e)) h

-- eight FF
pub clear_other : (s : List ℕ) {n d : ℕ} (u : Bool) → blank (take 8 s) ≡ u → clear_at s ≡ Next.Record n d → ⊥
unfolding clear_at
clear_other s {n} {d} true e h =
    let q : Next.Clear ≡ Next.Record n d = rw (clear_at, e) at h in
    let z : ◌≡◌ {A = ℕ} 0 1 = cc in
    omega arith
clear_other s false e h = bad_other (rw (clear_at, e)) h

-- a marker with status 00 is not torn, whatever its other bytes
pub dead_marker : (b c : ℕ) → is_torn_marker b c 0x00 ≡ false
unfolding is_torn_marker is_wrap_open on_way clears
dead_marker b c = and_no (is_wrap_begun b && is_high_begun c) false (λ e. refl)

-- ---- the name's end

name_kept : (k : ℕ) (reserved : Bool) (s t : List ℕ) (n : ℕ) → name_length k reserved s ≡ n → n < k → n < length t
    → ((i : ℕ) → i ≤ n → get_or t i 0 ≡ get_or s i 0)
    → name_length k reserved t ≡ n
unfolding name_length
name_kept zero reserved s t n e h l f = absurd (not-suc-le-zero h)
name_kept (suc k) reserved [] t n e h l f = absurd (omega arith)
name_kept (suc k) reserved (b ∷ s) [] n e h l f = absurd (not-suc-le-zero l)
name_kept (suc k) reserved (b ∷ s) (c ∷ t) n e h l f = go (ends_name reserved b) refl (name_kept k reserved s t) where
  go : (v : Bool) → ends_name reserved b ≡ v
      → ((m : ℕ) → name_length k reserved s ≡ m → m < k → m < length t → ((i : ℕ) → i ≤ m → get_or t i 0 ≡ get_or s i 0)
      → name_length k reserved t ≡ m)
      → name_length (suc k) reserved (c ∷ t) ≡ n
  go true q ih = rw (name_length, ap (ends_name reserved) (f 0 (omega arith)) ∙ q) (rw (name_length, q) at e)
  go false q ih =
      let m : ℕ = name_length k reserved s in
      let j : suc m ≡ n = rw (name_length, q) at e in
      rw (name_length, ap (ends_name reserved) (f 0 (omega arith)) ∙ q)
      (ap suc (ih m refl (omega arith) (omega arith) (λ i r. f (suc i) (omega arith))) ∙ j)

-- ---- a record of n name bytes and d data bytes, sized

-- read with n' name bytes and d' data bytes, it is a record of n and d
pub record Sized (s : List ℕ) (n' d' n d : ℕ) : Type 0 where
  pub name : n' ≡ n
  pub data_len : d' ≡ d
  pub short : n < 64
  pub fits : size_of n d ≤ length s

pub sized_back : (s : List ℕ) (n' d' n d : ℕ) (t u : Bool) → ltb n' 64 ≡ t → Basics.long (size_of n' d') s ≡ u
    → sized s n' d' ≡ Next.Record n d
    → Sized s n' d' n d
unfolding sized
sized_back s n' d' n d true true e f h =
    let q : Next.Record n' d' ≡ Next.Record n d = rw (sized, e, f) at h in
    let a : n' ≡ n = cc in
    let b : d' ≡ d = cc in
    record { name = a; data_len = b; short = rw a at (ltb-true n' 64 e); fits = rw (a, b) at (long_true (size_of n' d') s f) }
sized_back s n' d' n d true false e f h = bad_other (rw (sized, e, f)) h
sized_back s n' d' n d false u e f h = bad_other (rw (sized, e)) h

-- ---- the front of t, where that of s is known

abbrev pub kind_of : List ℕ → Kind
kind_of x = kind (low_of x) (high_of x) (status_of x) (spare_of x)

-- t is long enough, and has the same length bytes, name and end of the name
module _ (s t : List ℕ) (n d : ℕ) (long : size_of n d ≤ length t) (same : (i : ℕ) → 4 ≤ i → i < 9 + n → get_or t i 0 ≡ get_or s i 0) where
  record_like : (reserved : Bool) → sized s (name_length 64 reserved (drop 8 s)) (data_len_of s) ≡ Next.Record n d
      → sized t (name_length 64 reserved (drop 8 t)) (data_len_of t) ≡ Next.Record n d
  record_like reserved h =
      let w = sized_back s (name_length 64 reserved (drop 8 s)) (data_len_of s) n d _ _ refl refl h in
      let a : name_length 64 reserved (drop 8 t) ≡ n =
      name_kept 64 reserved (drop 8 s) (drop 8 t) n w.name w.short (rw length-drop (omega arith))
      (λ i l. get_or-drop 8 t i 0 ∙ same (8 + i) (omega arith) (omega arith) ∙ sym (get_or-drop 8 s i 0)) in
      let b : data_len_of t ≡ d =
      omega (
        arith,
        w.data_len,
        same 4 (omega arith) (omega arith),
        same 5 (omega arith) (omega arith),
        same 6 (omega arith) (omega arith),
        same 7
            (omega arith) (omega arith),
      ) in
      ap₂ (sized t) a b ∙ sized_is t n d w.short long

  torn_like : (u : Bool) → Basics.long 16 s ≡ u → torn_at s ≡ Next.Record n d → torn_at t ≡ Next.Record n d
  unfolding torn_at
  torn_like true e h = rw (torn_at, long_le 16 t (omega arith)) (rw (torn_at, e) at h)
  torn_like false e h = bad_other (rw (torn_at, e)) h

  at_like : (k : Kind) → next_at k s ≡ Next.Record n d → next_at k t ≡ Next.Record n d
  unfolding next_at
  at_like Kind.Record h = record_like false h
  at_like Kind.Reserved h = record_like true h
  at_like Kind.Torn h = torn_like _ refl h
  at_like Kind.Marker h = absurd (let z : ◌≡◌ {A = ℕ} 0 1 = cc in omega arith)
  at_like Kind.TornMarker h = absurd (wrap_other s _ refl h)
  at_like Kind.Clear h = absurd (clear_other s _ refl h)
  at_like Kind.Bad h = bad_other refl h

  next_by : (u v : Bool) → Basics.long 1 s ≡ u → Basics.long 8 s ≡ v → (next_at (kind_of s) s ≡ Next.Record n d → kind_of t ≡ kind_of s)
      → next s ≡ Next.Record n d → next t ≡ Next.Record n d
  unfolding next
  next_by false v e f k h = absurd (let q : Next.Over ≡ Next.Record n d = rw (next, e) at h in let z : ◌≡◌ {A = ℕ} 0 1 = cc in omega arith)
  next_by true false e f k h = bad_other (rw (next, e, f)) h
  next_by true true e f k h =
      let here : next_at (kind_of s) s ≡ Next.Record n d = rw (next, e, f) at h in
      rw (next, long_le 1 t (omega arith), long_le 8 t (omega arith)) (ap (λ (x : Kind). next_at x t) (k here) ∙ at_like (kind_of s) here)

  pub next_like : (next_at (kind_of s) s ≡ Next.Record n d → kind_of t ≡ kind_of s) → next s ≡ Next.Record n d → next t ≡ Next.Record n d
  next_like k h = next_by _ _ refl refl k h
