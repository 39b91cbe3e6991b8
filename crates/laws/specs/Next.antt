-- What stands at the front of a list: a record of known lengths, too few bytes, or what its kind says.
use Rattle.std.specs.Prelude.{ℕ, ◌-◌, ◌≤◌, ◌<◌, ◌≡◌, refl, Bool, List, length, take, drop, ltb}
use Rattle.std.proofs.Common.{arith, sym, ap, ap₂, ◌∙◌}
use Rattle.std.proofs.Math.Bool.{true, false}
use borrow.Author.Rules.{part_to_end}
use borrow.Author.Tests.{lt-ltb, le-ltb}
use Rattle.spec.specs.declared.Kind.{Kind}
use Rattle.spec.specs.declared.Next.{Next}
use Rattle.spec.specs.Record.{name_length, size_of, data_len_of, low_of, high_of, status_of, spare_of}
use Rattle.spec.specs.Next.{kind, sized, record_at, next_at, next}
use Rattle.laws.specs.Parts.{long_le, long_lt}

-- anything but a record
abbrev pub NotRecord : Next → Type 0
NotRecord (Next.Record n d) = ⊥
NotRecord Next.Wrap = Unit {0}
NotRecord Next.TornWrap = Unit {0}
NotRecord Next.Clear = Unit {0}
NotRecord Next.Over = Unit {0}
NotRecord Next.Bad = Unit {0}

-- ---- a record of known lengths

module _ (s : List ℕ) (n d : ℕ) where
  pub sized_is : n < 64 → size_of n d ≤ length s → sized s n d ≡ Next.Record n d
  unfolding sized
  sized_is h l = rw (sized, lt-ltb n 64 h, long_le (size_of n d) s l)

  pub sized_short : n < 64 → length s < size_of n d → sized s n d ≡ Next.Bad
  unfolding sized
  sized_short h l = rw (sized, lt-ltb n 64 h, long_lt (size_of n d) s l)

  pub sized_open : 64 ≤ n → sized s n d ≡ Next.Bad
  unfolding sized
  sized_open h = rw (sized, le-ltb n 64 h)

  sized_none : (t : Bool) → length s < 8 → ltb n 64 ≡ t → sized s n d ≡ Next.Bad
  unfolding sized
  sized_none true l e = rw (sized, e, long_lt (size_of n d) s (omega arith))
  sized_none false l e = rw (sized, e)

-- the name's length read in the part from byte 8 on
pub sized_as : (reserved : Bool) (s p : List ℕ) (n d : ℕ) {x : Next} → n ≡ name_length 64 reserved p → p ≡ take (length s - 8) (drop 8 s)
    → d ≡ data_len_of s → sized s n d ≡ x → x ≡ record_at reserved s
sized_as reserved s p n d name part data_len e =
    sym e ∙ ap₂ (sized s) (name ∙ ap (name_length 64 reserved) (part ∙ part_to_end s 8)) data_len

pub record_at_none : (reserved : Bool) (s : List ℕ) → length s < 8 → Next.Bad ≡ record_at reserved s
record_at_none reserved s l = sym (sized_none s (name_length 64 reserved (drop 8 s)) (data_len_of s) _ l refl)

-- ---- any thing

pub next_none : (s : List ℕ) → length s ≡ 0 → Next.Over ≡ next s
unfolding next
next_none s h = rw (next, long_lt 1 s (omega arith))

pub next_short : (s : List ℕ) → (length s ≡ 0 → ⊥) → length s < 8 → Next.Bad ≡ next s
unfolding next
next_short s h l = rw (next, long_le 1 s (omega arith), long_lt 8 s l)

-- what stands there is told by the kind; st: the status as the code holds it
pub next_arm : (s : List ℕ) (st : ℕ) (k t : Kind) → 8 ≤ length s → st ≡ status_of s
    → k ≡ kind (low_of s) (high_of s) st (spare_of s) → k ≡ t → next_at t s ≡ next s
unfolding next
next_arm s st k t l es e f = rw (next, long_le 1 s (omega arith), long_le 8 s l, sym es, sym e, f)
