-- A plain record: what its four bytes say of it, and the step over it.
use Rattle.std.specs.Prelude.{ℕ, ◌+◌, ◌-◌, ◌*◌, ◌/◌, ◌%◌, ◌≤◌, ◌<◌, ◌≡◌, refl, Bool, true, false, List, length, take, drop, get_or, ltb, Some, None}
use Rattle.std.proofs.Common.{arith, sym, ap, ap₂, ◌∙◌, length-take, get_or-take, ltb-true, ne_eqb}
use Rattle.spec.specs.declared.Kind.{Kind}
use Rattle.spec.specs.declared.Next.{Next}
use Rattle.spec.specs.Bytes.{is_record, is_high, is_erased, is_reserved, is_unfinished, is_spare, is_wrap, is_wrap_begun}
use Rattle.spec.specs.Bytes.{under_way, on_way, clears, is_start, is_clean}
use Rattle.spec.specs.Record.{size_of, low_of, high_of, status_of, spare_of}
use Rattle.spec.specs.Next.{is_torn_marker, kind, record_at, next_at, next}
use Rattle.laws.specs.Next.{next_arm}
use Rattle.record.specs.Within.{Within, RecordIf}
use Rattle.record.specs.Digits.{digits}
use Rattle.chain.specs.declared.Cursor.{Cursor}
use Rattle.chain.specs.declared.Spot.{Spot}
use Rattle.chain.specs.declared.Item.{Item}
use Rattle.chain.specs.Answers.{Nearby}
use Rattle.chain.specs.Cursor.{look, past, settle, unfinished_at, CursorSound}
use Rattle.chain.specs.CursorLaws.{look_is, advanced_here}
use Rattle.spec.specs.Reading.{marked}
use Rattle.chain.specs.Rest.{entry_of}
use Rattle.chain.specs.Fold.{Passes, passes}

-- ---- four bytes

-- the kind is a record's, it is finished, and it is no mark
pub record Plainly (s : List ℕ) : Type 0 where
  pub low : low_of s ≡ 0xA5
  pub high : high_of s ≡ 0x5A
  pub kind : kind (low_of s) (high_of s) (status_of s) (spare_of s) ≡ Kind.Record
  pub finished : is_unfinished (status_of s) ≡ false

abbrev pub PlainIf : List ℕ → Bool → Type 0
PlainIf s true = Plainly s
PlainIf s false = Unit {0}

kind_plain : (st : ℕ) → st < 0xFE → kind 0xA5 0x5A st 0xFF ≡ Kind.Record
unfolding kind is_torn_marker is_spare is_erased is_reserved is_high is_wrap is_record is_wrap_begun under_way on_way clears
kind_plain st h = rw (ne_eqb st 0xFF (λ e. omega arith), ne_eqb st 0xFE (λ e. omega arith))

pub plain_if : (s : List ℕ) (t : Bool) → low_of s ≡ 0xA5 → high_of s ≡ 0x5A → spare_of s ≡ 0xFF → ltb (status_of s) 0xFE ≡ t → PlainIf s t
unfolding is_unfinished is_erased is_reserved
plain_if s true a b c e =
    let l : status_of s < 0xFE = ltb-true (status_of s) 0xFE e in
    record {
      low = a;
      high = b;
      kind = rw (a, b, c) (kind_plain (status_of s) l);
      finished = rw (ne_eqb (status_of s) 0xFF (λ e. omega arith), ne_eqb (status_of s) 0xFE (λ e. omega arith));
    }
plain_if s false a b c e = tt

-- a header's bytes, read as one number with those behind them
pub header_bytes : (s : List ℕ) (h : ℕ) → digits 8 h ≡ take 8 (drop 0 s)
    → (low_of s ≡ h % 256) × (high_of s ≡ h / 256 % 256) × (status_of s ≡ h / 0x1_0000 % 256) × (spare_of s ≡ h / 0x100_0000 % 256)
unfolding digits
header_bytes s h e =
    let byte : (i : ℕ) → i < 8 → get_or s i 0 ≡ get_or (digits 8 h) i 0 =
    λ i l. sym (get_or-take 8 s i 0 l) ∙ ap (λ (t : List ℕ). get_or t i 0) (sym e) in
    let two : h / 256 / 256 % 256 ≡ h / 0x1_0000 % 256 = omega arith in
    let three : h / 256 / 256 / 256 % 256 ≡ h / 0x100_0000 % 256 = omega arith in
    (byte 0 (omega arith), byte 1 (omega arith), byte 2 (omega arith) ∙ two, byte 3 (omega arith) ∙ three)

-- the magic's second byte
pub magic_high : (h : ℕ) → h % 0x1_0000 ≡ 0x5AA5 → h / 256 % 256 ≡ 0x5A
magic_high h e =
    let q : ℕ = h / 0x1_0000 in
    let w : h ≡ 0x5AA5 + 256 * (256 * q) = omega arith in
    let n : (0x5AA5 + 256 * (256 * q)) / 256 ≡ 0x5A + 256 * q = omega arith in
    ap (λ (x : ℕ). x / 256 % 256) w ∙ ap (λ (x : ℕ). x % 256) n ∙ (let r : (0x5A + 256 * q) % 256 ≡ 0x5A = omega arith in r)

-- ---- the record behind them

abbrev pub PlainFront : List ℕ → Next → Type 0
PlainFront s (Next.Record n d) = (Next.Record n d ≡ next s) × Within (Next.Record n d) (length s) × Plainly s
    × (Next.Record n d ≡ record_at false s)
PlainFront s Next.Wrap = Unit {0}
PlainFront s Next.TornWrap = Unit {0}
PlainFront s Next.Clear = Unit {0}
PlainFront s Next.Over = Unit {0}
PlainFront s Next.Bad = Unit {0}

arm : (s : List ℕ) → 8 ≤ length s → Plainly s → record_at false s ≡ next s
unfolding next_at
arm s l p = next_arm s (status_of s) (kind (low_of s) (high_of s) (status_of s) (spare_of s)) Kind.Record l refl refl p.kind

pub plain_front : (s : List ℕ) (r : Next) → 8 ≤ length s → Plainly s → RecordIf s r → PlainFront s r
plain_front s (Next.Record n d) l p e = (e.0 ∙ arm s l p, e.1, p, e.0)
plain_front s Next.Wrap l p e = tt
plain_front s Next.TornWrap l p e = tt
plain_front s Next.Clear l p e = tt
plain_front s Next.Over l p e = tt
plain_front s Next.Bad l p e = tt

-- ---- the step over it

abbrev pub Near : List ℕ → Cursor → Nearby → Type 0
Near image c (Some (e, next)) = Passes image c e next × (marked (entry_of image e) ≡ false)
Near image c None = Unit {0}

-- a byte, read in the stretch that is left
there : (image : List ℕ) (a k i : ℕ) → i < k → get_or (take k (drop a image)) i 0 ≡ get_or (drop a image) i 0
there image a k i h = get_or-take k (drop a image) i 0 h

unmarked : (image : List ℕ) (e : Spot) → low_of (drop e.at image) ≡ 0xA5 → marked (entry_of image e) ≡ false
unfolding is_start is_clean
unmarked image e h = rw h

module _ (image : List ℕ) (c : Cursor) (s : CursorSound image c) (free : c.pending ≡ false) where
  pub near_passes : (n d z : ℕ) → PlainFront (take (c.end - c.at) (drop c.at image)) (Next.Record n d) → z ≡ size_of n d
      → Near image c
      (Some (
        record { at = c.at; n = n; d = d },
        record { at = c.at + z; end = c.end; room = c.room; turned = c.turned; pending = false },
      ))
  near_passes n d z p e =
      let x : Next = Next.Record n d in
      let k : ℕ = c.end - c.at in
      let l : length (take k (drop c.at image)) ≤ k = rw length-take (omega arith) in
      let w : Within x k = (p.1.0, omega (arith, p.1.1), p.1.2) in
      let here : x ≡ look image c = look_is image c x x s.ordered p.0 (rw free) in
      let u : unfinished_at image c.at ≡ false = ap is_unfinished (sym (there image c.at k 2 (omega (arith, w.1))))
      ∙ p.2.finished in (
        passes (advanced_here image c x false s here refl (settle image c x) refl refl w)
            (ap₂ (λ (y : ℕ) (b : Bool). Item.Record (record { at = c.at; n = n; d = d }) (past c y b)) (sym e) u),
        unmarked image (record { at = c.at; n = n; d = d }) (sym (there image c.at k 0 (omega (arith, w.1))) ∙ p.2.low),
      )
