-- What stands at an address, told from the image's bytes: eight FF, the end of the stretch, a marker, a new record.
use Rattle.std.specs.Prelude.{ℕ, zero, suc, ◌+◌, ◌-◌, ◌/◌, ◌%◌, ◌≤◌, ◌<◌, ◌≡◌, refl, Bool, true, false, List, [], ◌∷◌, take, drop, get_or, eqb}
use Rattle.std.proofs.Common.{arith, not-suc-le-zero, sym, ap, ap₂, ◌∙◌, length-drop, get_or-drop, eq-eqb, eqb-true}
use Rattle.std.proofs.Math.ListN.{length}
use Rattle.std.proofs.Math.Seq.{get_or-take, length-take-le}
use Rattle.spec.specs.declared.Next.{Next}
use Rattle.spec.specs.declared.Kind.{Kind}
use Rattle.spec.specs.Step.{Image}
use Rattle.spec.specs.Basics.{part, blank}
use Rattle.spec.specs.Bytes.{is_unfinished, clears, on_way, under_way, is_record_begun, is_wrap_begun, is_wrap_open, is_wrap}
use Rattle.spec.specs.Bytes.{is_high, is_high_begun, is_erased, is_wrapped, is_spare, ends_name}
use Rattle.spec.specs.Record.{four, name_length, data_len_of, Entry, name_of, content_of, size, data_at}
use Rattle.spec.specs.Reading.{blank_part}
use Rattle.spec.specs.Next.{next, next_at, kind, is_torn_marker, sized, clear_at}
use Rattle.laws.specs.Parts.{long_le, long_lt}
use Rattle.laws.specs.Next.{sized_is}
use Rattle.laws.specs.Fits.{Fits, allowed_fits}
use Rattle.planning.specs.Front.{sized_back}
use Rattle.planning.specs.Kinds.{finished_kind}
use Rattle.planning.specs.Row.{stretch_length, stretch_byte, kind_at, kind_stretch, Stands}

-- all bytes from a up to b are FF
abbrev pub Free : Image → ℕ → ℕ → Type 0
Free im a b = (i : ℕ) → a ≤ i → i < b → get_or im i 0 ≡ 0xFF

-- ---- FF

pub blank_bytes : (s : List ℕ) → blank s ≡ true → (i : ℕ) → i < length s → get_or s i 0 ≡ 0xFF
unfolding blank
blank_bytes [] h i l = absurd (not-suc-le-zero l)
blank_bytes (x ∷ s) h i l = go (eqb x 0xFF) refl i l (blank_bytes s) where
  go : (t : Bool) → eqb x 0xFF ≡ t → (i : ℕ) → i < suc (length s) → (blank s ≡ true → (j : ℕ) → j < length s → get_or s j 0 ≡ 0xFF)
      → get_or (x ∷ s) i 0 ≡ 0xFF
  go true e zero l ih = eqb-true x 0xFF e
  go true e (suc j) l ih = ih (rw (blank, e) at h) j (omega arith)
  go false e j l ih = let q : false ≡ true = rw (blank, e) at h in absurd (let z : ◌≡◌ {A = ℕ} 0 1 = cc in omega arith)

pub bytes_blank : (s : List ℕ) → ((i : ℕ) → i < length s → get_or s i 0 ≡ 0xFF) → blank s ≡ true
unfolding blank
bytes_blank [] h = refl
bytes_blank (x ∷ s) h = rw (blank, eq-eqb x 0xFF (h 0 (omega arith))) (bytes_blank s (λ i l. h (suc i) (omega arith)))

pub blank_free : (im : Image) (a b : ℕ) → b ≤ length im → blank_part a b im ≡ true → Free im a b
blank_free im a b l e i p q =
    let len = stretch_length im a b (omega arith) l in
    let k : a + (i - a) ≡ i = omega arith in
    ap (λ (n : ℕ). get_or im n 0) (sym k) ∙ sym (stretch_byte im a b (i - a) (omega arith)) ∙ blank_bytes (part a b im) e (i - a)
    (omega arith)

-- ---- what is no record

-- eight FF are no torn marker, and a marker is not torn
torn_none : is_torn_marker 0xFF 0xFF 0xFF ≡ false
unfolding is_torn_marker is_wrap_begun under_way on_way clears
torn_none = refl

torn_not : is_torn_marker 0xFA 0x5A 0xF0 ≡ false
unfolding is_torn_marker is_wrap_begun is_high_begun is_wrap_open is_wrapped under_way on_way clears
torn_not = refl

clear_kind : kind 0xFF 0xFF 0xFF 0xFF ≡ Kind.Clear
unfolding kind is_spare is_erased is_record_begun under_way on_way clears
clear_kind = rw (kind, torn_none)

marker_kind_is : kind 0xFA 0x5A 0xF0 0xFF ≡ Kind.Marker
unfolding kind is_spare is_erased is_high is_wrap is_wrapped
marker_kind_is = rw (kind, torn_not)

module _ (im : Image) (b lim : ℕ) where
  module _ (l : lim ≤ length im) (h : b + 8 ≤ lim) where
    abbrev here : List ℕ
    here = part b lim im

    stretch_8 : 8 ≤ length here
    stretch_8 = omega (arith, stretch_length im b lim (omega arith) l)

    -- its first four bytes decide first
    pub next_kind : next here ≡ next_at (kind_at im b) here
    unfolding next
    next_kind =
        rw (next, long_le 1 here (omega (arith, stretch_8)), long_le 8 here stretch_8)
        (ap (λ (k : Kind). next_at k here) (kind_stretch im b lim (omega arith)))

    next_of : (k : Kind) → kind_at im b ≡ k → next here ≡ next_at k here
    next_of k e = next_kind ∙ ap (λ (x : Kind). next_at x here) e

    pub next_clear : Free im b (b + 8) → next here ≡ Next.Clear
    unfolding next_at clear_at
    next_clear f =
        next_of Kind.Clear
        (rw (
          f b (omega arith) (omega arith),
          f (b + 1) (omega arith) (omega arith),
          f (b + 2) (omega arith) (omega arith),
          f (b + 3)
              (omega arith) (omega arith),
        ) clear_kind)
        ∙ rw (
          next_at,
          clear_at,
          bytes_blank (take 8 here)
              (λ i g.
              let m : length (take 8 here) ≡ 8 = length-take-le 8 here stretch_8 in
              get_or-take 8 here i 0 (omega arith) ∙ stretch_byte im b lim i (omega arith) ∙ f (b + i) (omega arith) (omega arith)),
        )

    pub next_wrap : get_or im b 0 ≡ 0xFA → get_or im (b + 1) 0 ≡ 0x5A → get_or im (b + 2) 0 ≡ 0xF0 → get_or im (b + 3) 0 ≡ 0xFF
        → next here ≡ Next.Wrap
    unfolding next_at
    next_wrap p q r s = next_of Kind.Marker (rw (p, q, r, s) marker_kind_is)

  -- the stretch ends there
  pub next_over : lim ≤ length im → b ≡ lim → next (part b lim im) ≡ Next.Over
  unfolding next
  next_over l e = rw (next, long_lt 1 (part b lim im) (omega (arith, stretch_length im b lim (omega arith) l)))

  pub over_end : lim ≤ length im → b ≤ lim → next (part b lim im) ≡ Next.Over → b ≡ lim
  over_end l h e =
      let f : Fits (next (part b lim im)) (length (part b lim im)) = allowed_fits false (part b lim im) in
      let g : length (part b lim im) < 1 = rw e at f in
      omega (arith, stretch_length im b lim h l)

-- ---- names

-- no byte of it ends a name
abbrev pub Nameable : List ℕ → Type 0
Nameable n = (i : ℕ) → i < length n → ends_name false (get_or n i 0) ≡ false

pub name_by : (k : ℕ) (s : List ℕ) (n : ℕ) → n < k → n < length s → ((i : ℕ) → i < n → ends_name false (get_or s i 0) ≡ false)
    → ends_name false (get_or s n 0) ≡ true → name_length k false s ≡ n
unfolding name_length
name_by zero s n h l f e = absurd (not-suc-le-zero h)
name_by (suc k) [] n h l f e = absurd (not-suc-le-zero l)
name_by (suc k) (b ∷ s) zero h l f e = rw (name_length, e)
name_by (suc k) (b ∷ s) (suc n) h l f e =
    rw (name_length, f 0 (omega arith)) (ap suc (name_by k s n (omega arith) (omega arith) (λ i g. f (suc i) (omega arith)) e))

-- no byte before the end of a name ends it
pub name_inner : (reserved : Bool) (k : ℕ) (s : List ℕ) (n : ℕ) → name_length k reserved s ≡ n → (i : ℕ) → i < n → i < length s
    → ends_name reserved (get_or s i 0) ≡ false
unfolding name_length
name_inner reserved zero s n e i h l = absurd (omega arith)
name_inner reserved (suc k) [] n e i h l = absurd (not-suc-le-zero l)
name_inner reserved (suc k) (b ∷ s) n e i h l = go (ends_name reserved b) refl i h l (name_inner reserved k s) where
  go : (t : Bool) → ends_name reserved b ≡ t → (i : ℕ) → i < n → i < suc (length s)
      → ((m : ℕ) → name_length k reserved s ≡ m → (j : ℕ) → j < m → j < length s → ends_name reserved (get_or s j 0) ≡ false)
      → ends_name reserved (get_or (b ∷ s) i 0) ≡ false
  go true q i h l ih = let z : 0 ≡ n = rw (name_length, q) at e in absurd (omega arith)
  go false q zero h l ih = q
  go false q (suc j) h l ih =
      let m : suc (name_length k reserved s) ≡ n = rw (name_length, q) at e in
      ih (name_length k reserved s) refl j (omega arith) (omega arith)

-- ---- a new record

data_len_four : (s : List ℕ) (d : ℕ) → d < 4294967296 → ((j : ℕ) → j < 4 → get_or s (4 + j) 0 ≡ get_or (four d) j 0) → data_len_of s ≡ d
data_len_four s d h f =
    let a : get_or s 4 0 ≡ d % 256 = f 0 (omega arith) in
    let b : get_or s 5 0 ≡ d / 256 % 256 = f 1 (omega arith) in
    let c : get_or s 6 0 ≡ d / 65536 % 256 = f 2 (omega arith) in
    let e : get_or s 7 0 ≡ d / 16777216 % 256 = f 3 (omega arith) in
    let top : d / 16777216 % 256 ≡ d / 16777216 = omega arith in
    omega arith

-- the bytes of a finished record e are there
pub record LaidDown (im : Image) (e : Entry) : Type 0 where
  pub kind : kind_at im e.at ≡ Kind.Record
  pub low : get_or im e.at 0 ≡ e.it.low
  pub status : get_or im (e.at + 2) 0 ≡ e.it.status
  pub lens : (j : ℕ) → j < 4 → get_or im (e.at + (4 + j)) 0 ≡ get_or (four (length (content_of e))) j 0
  pub name : (i : ℕ) → i < length (name_of e) → get_or im (e.at + (8 + i)) 0 ≡ get_or (name_of e) i 0
  pub end : ends_name false (get_or im (e.at + (8 + length (name_of e))) 0) ≡ true
  pub content : (i : ℕ) → i < length (content_of e) → get_or im (data_at e + i) 0 ≡ get_or (content_of e) i 0

-- so it is read
pub stands_new : {im : Image} {lim : ℕ} {e : Entry} → lim ≤ length im → e.at + size e ≤ lim → length (name_of e) < 64
    → Nameable (name_of e)
    → length (content_of e) < 4294967296 → LaidDown im e → Stands im lim e
unfolding next_at
stands_new {im} {lim} {e} l fits short names small w =
    let s : List ℕ = part e.at lim im in
    let n : ℕ = length (name_of e) in
    let d : ℕ = length (content_of e) in
    let len = stretch_length im e.at lim (omega arith) l in
    let byte : (i : ℕ) → i < size e → get_or s i 0 ≡ get_or im (e.at + i) 0 = λ i g. stretch_byte im e.at lim i (omega arith) in
    let nl : name_length 64 false (drop 8 s) ≡ n =
    name_by 64 (drop 8 s) n short (rw length-drop (omega arith))
    (λ i g. ap (ends_name false) (get_or-drop 8 s i 0 ∙ byte (8 + i) (omega arith) ∙ w.name i g) ∙ names i g)
    (ap (ends_name false) (get_or-drop 8 s n 0 ∙ byte (8 + n) (omega arith)) ∙ w.end) in
    let dl : data_len_of s ≡ d = data_len_four s d small (λ j g. byte (4 + j) (omega arith) ∙ w.lens j g) in
    record {
      reads =
          next_kind im e.at lim l (omega arith) ∙ ap (λ (k : Kind). next_at k s) w.kind ∙ ap₂ (sized s) nl dl
          ∙ sized_is s n d short (omega arith);
      fits = fits;
      low = w.low;
      status = w.status;
      name = w.name;
      content = w.content;
    }

-- what a record that stands is read from
pub stands_kind : {im : Image} {lim : ℕ} {e : Entry} → lim ≤ length im → Stands im lim e
    → next_at (kind_at im e.at) (part e.at lim im) ≡ Next.Record (length (name_of e)) (length (content_of e))
stands_kind {im} {lim} {e} l w = sym (next_kind im e.at lim l (omega (arith, w.fits))) ∙ w.reads

-- a finished one has a short name, no byte of which ends it
pub finished_name : {im : Image} {lim : ℕ} {e : Entry} → lim ≤ length im → Stands im lim e → is_unfinished e.it.status ≡ false
    → (length (name_of e) < 64) × Nameable (name_of e)
unfolding next_at
finished_name {im} {lim} {e} l w f =
    let s : List ℕ = part e.at lim im in
    let n : ℕ = length (name_of e) in
    let len = stretch_length im e.at lim (omega (arith, w.fits)) l in
    let k : kind_at im e.at ≡ Kind.Record =
    finished_kind (get_or im e.at 0) (get_or im (e.at + 1) 0) (get_or im (e.at + 2) 0) (get_or im (e.at + 3) 0) s (stands_kind l w)
    (ap is_unfinished w.status ∙ f) in
    let z = sized_back s (name_length 64 false (drop 8 s)) (data_len_of s) n (length (content_of e)) _ _ refl refl
    (sym (ap (λ (x : Kind). next_at x s) k) ∙ stands_kind l w) in (
      z.short,
      λ i h.
          let at : get_or (drop 8 s) i 0 ≡ get_or (name_of e) i 0 =
          get_or-drop 8 s i 0 ∙ stretch_byte im e.at lim (8 + i) (omega (arith, w.fits)) ∙ w.name i h in
          ap (ends_name false) (sym at) ∙ name_inner false 64 (drop 8 s) n z.name i h (rw length-drop (omega (arith, w.fits))),
    )
